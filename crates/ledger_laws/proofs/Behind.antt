-- What a mark's status says of the marks before it.
use Rattle.std.proofs.Common.{◌≡◌, Bool, true, false, ◌&&◌, ◌||◌, if◌then◌else◌, List, [], ◌∷◌, ◌++◌, Option, Some, None, refl, sym, ap, ◌∙◌, subst, append_assoc}
use Rattle.std.specs.Prelude.{is_some}
use Rattle.std.specs.List.{list_any}
use Rattle.std.proofs.lemmas.List.{append-nil}
use Rattle.std.proofs.lemmas.List.Folds.{list_any-append}
use Rattle.std.proofs.lemmas.Bool.{and_parts}
use Rattle.enq_base.specs.Owners.{same_unit}
use Rattle.enq_base.specs.declared.owner.UnitKey.{UnitKey}
use Rattle.enq_base.specs.declared.unit.Status.{Status}
use Rattle.enq_base.specs.declared.unit.Status.TheVariants.{Posted, Closed, Bad2 as BadSecond}
use Rattle.record_laws.proofs.Status.{one_unit, status_push}
use Rattle.update_records.specs.Marks.{IsLegal, IsLegalAfter, given, has_no_v2, is_rec, may_follow, status_of}
use Rattle.update_records.specs.declared.records.Mark.{Mark}
use Rattle.update_records.specs.declared.records.MarkKind.{MarkKind}
use Rattle.update_records.specs.declared.records.Unit.{Unit as UnitOfWork}
use Rattle.ledger_laws.specs.Books.{AreInTurn, ComesBehind, is_v1, is_v2, tells}
use Rattle.ledger_laws.proofs.Follows.{by_follower}

-- a status that only a unit has whose V1 part was posted
abbrev was_posted : Option Status → Bool
was_posted (Some Posted) = true
was_posted (Some Closed) = true
was_posted (Some BadSecond) = true
was_posted s = false

-- a mark that gives such a status is of the kind, or stands behind such a status
abbrev Gains : (MarkKind → Bool) → (Option Status → Bool) → Option Status → MarkKind → Type 0
Gains is_kind has s kind = (b : Bool) → has (given b kind s) ≡ true → (is_kind kind || has s) ≡ true

gains_some : (s : Option Status) (kind : MarkKind) → may_follow s kind ≡ true → Gains is_rec is_some s kind
gains_some = by_follower (Gains is_rec is_some) (record {
  num = λ numbers b h. h;
  rec = λ b h. refl;
  v1 = λ b h. refl;
  bad1 = λ index reason b h. refl;
  gone = λ b h. refl;
  v2 = λ b h. refl;
  bad2 = λ index reason b h. refl;
  again1 = λ b h. refl;
  gone1 = λ b h. refl;
  again2 = λ b h. refl;
  gone2 = λ b h. refl;
})

gains_posted : (s : Option Status) (kind : MarkKind) → may_follow s kind ≡ true → Gains is_v1 was_posted s kind
gains_posted = by_follower (Gains is_v1 was_posted) (record {
  num = λ numbers b h. h;
  rec = λ b h. h;
  v1 = λ b h. refl;
  bad1 = λ index reason b h. h;
  gone = λ b h. h;
  v2 = λ b h. refl;
  bad2 = λ index reason b h. refl;
  again1 = λ b h. h;
  gone1 = λ b h. h;
  again2 = λ b h. refl;
  gone2 = λ b h. refl;
})

and_true : (b : Bool) → (b && true) ≡ b
and_true true = refl
and_true false = refl

or_true : (b : Bool) → (b || true) ≡ true
or_true true = refl
or_true false = refl

or_false : (b : Bool) → (b || false) ≡ b
or_false true = refl
or_false false = refl

-- one more mark
any_push : (p : Mark → Bool) (marks : List Mark) (m : Mark) → list_any p (marks ++ m ∷ []) ≡ (list_any p marks || p m)
any_push p marks m = list_any-append p marks (m ∷ []) ∙ ap (λ b. list_any p marks || b) (or_false (p m))

by_or : (a c d : Bool) → (a || c) ≡ true → (c ≡ true → d ≡ true) → (d || a) ≡ true
by_or true c d h k = or_true d
by_or false c d h k = or_false d ∙ k h

or_left : (c d : Bool) → d ≡ true → (d || c) ≡ true
or_left c d h = ap (λ b. b || c) h

told : (is_kind : MarkKind → Bool) (has : Option Status → Bool) → ((s : Option Status) (kind : MarkKind) → may_follow s kind ≡ true → Gains is_kind has s kind)
    → (units : List UnitOfWork) (key : UnitKey) (before marks : List Mark) → IsLegalAfter units before marks
    → (has (status_of units before key) ≡ true → list_any (tells is_kind key) before ≡ true)
    → has (status_of units (before ++ marks) key) ≡ true → list_any (tells is_kind key) (before ++ marks) ≡ true
told is_kind has gains units key before [] h known is =
    let e = append-nil before in
    ap (list_any (tells is_kind key)) e ∙ known (subst (λ ms. has (status_of units ms key) ≡ true) e is)
told is_kind has gains units key before (m ∷ marks) h known is =
    let b = has_no_v2 units key in
    let s = status_of units before key in
    let p = tells is_kind key in
    let e = append_assoc before (m ∷ []) marks in
    let push = status_push b key None before m in
    let one_more : has (status_of units (before ++ m ∷ []) key) ≡ true → list_any p (before ++ m ∷ []) ≡ true = λ has_now. any_push p before m ∙ (
    elim (same_unit m.unit key) as (λ t. same_unit m.unit key ≡ t → (list_any p before || p m) ≡ true) [
      | true ↦ λ same.
          let follows : may_follow s m.kind ≡ true = subst (λ k. may_follow (status_of units before k) m.kind ≡ true) (one_unit m.unit key same) h.0 in
          let now : status_of units (before ++ m ∷ []) key ≡ given b m.kind s = push ∙ ap (λ t. if t then given b m.kind s else s) same in
          let here : p m ≡ is_kind m.kind = ap (λ t. is_kind m.kind && t) same ∙ and_true (is_kind m.kind) in
          ap (λ t. list_any p before || t) here ∙ by_or (is_kind m.kind) (has s) (list_any p before)
          (gains s m.kind follows b (subst (λ o. has o ≡ true) now has_now)) known
      | false ↦ λ same.
          let now : status_of units (before ++ m ∷ []) key ≡ s = push ∙ ap (λ t. if t then given b m.kind s else s) same in
          or_left (p m) (list_any p before) (known (subst (λ o. has o ≡ true) now has_now))
    ] refl
    ) in
    subst (λ ms. list_any p ms ≡ true) e
    (told is_kind has gains units key (before ++ m ∷ []) marks h.1 one_more (subst (λ ms. has (status_of units ms key) ≡ true) (sym e) is))

-- the marks before one are legal, and it may follow them
legal_at : (units : List UnitOfWork) (before earlier : List Mark) (m : Mark) (later : List Mark) → IsLegalAfter units before (earlier ++ m ∷ later)
    → IsLegalAfter units before earlier × (may_follow (status_of units (before ++ earlier) m.unit) m.kind ≡ true)
legal_at units before [] m later h = (tt, subst (λ ms. may_follow (status_of units ms m.unit) m.kind ≡ true) (sym (append-nil before)) h.0)
legal_at units before (x ∷ earlier) m later h =
    let rest = legal_at units (before ++ x ∷ []) earlier m later h.1 in
    ((h.0, rest.0), subst (λ ms. may_follow (status_of units ms m.unit) m.kind ≡ true) (append_assoc before (x ∷ []) earlier) rest.1)

-- a mark of the later kind follows only such a status
abbrev Wants : (MarkKind → Bool) → (Option Status → Bool) → Option Status → MarkKind → Type 0
Wants is_kind has s kind = is_kind kind ≡ true → has s ≡ true

wants_some : (s : Option Status) (kind : MarkKind) → may_follow s kind ≡ true → Wants is_v1 is_some s kind
wants_some = by_follower (Wants is_v1 is_some) (record {
  num = λ numbers h. h;
  rec = λ h. h;
  v1 = λ h. refl;
  bad1 = λ index reason h. refl;
  gone = λ h. refl;
  v2 = λ h. refl;
  bad2 = λ index reason h. refl;
  again1 = λ h. refl;
  gone1 = λ h. refl;
  again2 = λ h. refl;
  gone2 = λ h. refl;
})

wants_posted : (s : Option Status) (kind : MarkKind) → may_follow s kind ≡ true → Wants is_v2 was_posted s kind
wants_posted = by_follower (Wants is_v2 was_posted) (record {
  num = λ numbers h. h;
  rec = λ h. h;
  v1 = λ h. h;
  bad1 = λ index reason h. h;
  gone = λ h. h;
  v2 = λ h. refl;
  bad2 = λ index reason h. refl;
  again1 = λ h. h;
  gone1 = λ h. h;
  again2 = λ h. refl;
  gone2 = λ h. refl;
})

true_false : true ≡ false → ⊥
true_false h = cc

comes_behind : (later_kind first_kind : MarkKind → Bool) (has : Option Status → Bool)
    → ((s : Option Status) (kind : MarkKind) → may_follow s kind ≡ true → Gains first_kind has s kind)
    → ((s : Option Status) (kind : MarkKind) → may_follow s kind ≡ true → Wants later_kind has s kind)
    → has None ≡ false
    → (units : List UnitOfWork) (marks : List Mark) → IsLegal units marks → ComesBehind (tells later_kind) (tells first_kind) marks
comes_behind later_kind first_kind has gains wants none units marks legal earlier later m is tells_it =
    let at = legal_at units [] earlier m later (subst (IsLegal units) is legal) in
    let kind : later_kind m.kind ≡ true = (and_parts (later_kind m.kind) (same_unit m.unit m.unit) tells_it).0 in
    told first_kind has gains units m.unit [] earlier at.0 (λ h. absurd (true_false (sym h ∙ none))) (wants _ m.kind at.1 kind)

pub in_turn : (units : List UnitOfWork) (marks : List Mark) → IsLegal units marks → AreInTurn marks
in_turn units marks h =
    record {
      recorded = comes_behind is_v1 is_rec is_some gains_some wants_some refl units marks h;
      v1 = comes_behind is_v2 is_v1 was_posted gains_posted wants_posted refl units marks h;
    }
