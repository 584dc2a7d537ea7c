-- No kind of mark comes twice of a unit, where its status then allows it no more.
use Rattle.std.proofs.Common.{◌≡◌, ℕ, ◌+◌, ◌≤◌, Bool, true, false, cond, ◌&&◌, if◌then◌else◌, List, [], ◌∷◌, ◌++◌, Option, Some, None, refl, ap, ◌∙◌, subst, arith}
use Rattle.std.specs.List.{count_by}
use Rattle.std.proofs.lemmas.List.Sums.{sum_by-cons}
use Rattle.enq_base.specs.Owners.{same_unit}
use Rattle.enq_base.specs.declared.owner.UnitKey.{UnitKey}
use Rattle.enq_base.specs.declared.unit.Status.{Status}
use Rattle.enq_base.specs.declared.unit.Status.TheVariants.{Open, Posted, Bad, Closed, Cancelled}
use Rattle.record_laws.proofs.Status.{one_unit, status_push}
use Rattle.update_records.specs.Marks.{IsLegal, IsLegalAfter, given, has_no_v2, is_rec, may_follow, status_of}
use Rattle.update_records.specs.declared.records.Mark.{Mark}
use Rattle.update_records.specs.declared.records.MarkKind.{MarkKind}
use Rattle.update_records.specs.declared.records.Unit.{Unit as UnitOfWork}
use Rattle.ledger_laws.specs.Books.{IsEachOnce, is_v1, is_v2, tells}
use Rattle.ledger_laws.proofs.Follows.{by_follower}

abbrev bit : Bool → ℕ
bit b = cond b 1 0

-- whether a unit of this status may still be recorded, or have its V1 part posted, or its V2 part
abbrev may_rec : Option Status → Bool
may_rec None = true
may_rec (Some s) = false

abbrev may_v1 : Option Status → Bool
may_v1 None = true
may_v1 (Some Open) = true
may_v1 (Some Bad) = true
may_v1 (Some s) = false

abbrev may_v2 : Option Status → Bool
may_v2 (Some Closed) = false
may_v2 (Some Cancelled) = false
may_v2 s = true

-- a mark of the kind takes the leave away, and none gives it back
abbrev Spends : (MarkKind → Bool) → (Option Status → Bool) → Option Status → MarkKind → Type 0
Spends is_kind may s kind = (b : Bool) → bit (is_kind kind) + bit (may (given b kind s)) ≤ bit (may s)

spends_rec : (s : Option Status) (kind : MarkKind) → may_follow s kind ≡ true → Spends is_rec may_rec s kind
spends_rec = by_follower (Spends is_rec may_rec) (record {
  num = λ numbers b. omega arith;
  rec = λ b. omega arith;
  v1 = λ b. omega arith;
  bad1 = λ index reason b. omega arith;
  gone = λ b. omega arith;
  v2 = λ b. omega arith;
  bad2 = λ index reason b. omega arith;
  again1 = λ b. omega arith;
  gone1 = λ b. omega arith;
  again2 = λ b. omega arith;
  gone2 = λ b. omega arith;
})

v1_leaves : (b : Bool) → bit (may_v1 (Some (if b then Closed else Posted))) ≤ 0
v1_leaves true = omega arith
v1_leaves false = omega arith

spends_v1 : (s : Option Status) (kind : MarkKind) → may_follow s kind ≡ true → Spends is_v1 may_v1 s kind
spends_v1 = by_follower (Spends is_v1 may_v1) (record {
  num = λ numbers b. omega arith;
  rec = λ b. omega arith;
  v1 = λ b. let h = v1_leaves b in omega (arith, h);
  bad1 = λ index reason b. omega arith;
  gone = λ b. omega arith;
  v2 = λ b. omega arith;
  bad2 = λ index reason b. omega arith;
  again1 = λ b. omega arith;
  gone1 = λ b. omega arith;
  again2 = λ b. omega arith;
  gone2 = λ b. omega arith;
})

v2_leaves : (b : Bool) → bit (may_v2 (Some (if b then Closed else Posted))) ≤ 1
v2_leaves true = omega arith
v2_leaves false = omega arith

spends_v2 : (s : Option Status) (kind : MarkKind) → may_follow s kind ≡ true → Spends is_v2 may_v2 s kind
spends_v2 = by_follower (Spends is_v2 may_v2) (record {
  num = λ numbers b. omega arith;
  rec = λ b. omega arith;
  v1 = λ b. let h = v2_leaves b in omega (arith, h);
  bad1 = λ index reason b. omega arith;
  gone = λ b. omega arith;
  v2 = λ b. omega arith;
  bad2 = λ index reason b. omega arith;
  again1 = λ b. omega arith;
  gone1 = λ b. omega arith;
  again2 = λ b. omega arith;
  gone2 = λ b. omega arith;
})

count_cons : (p : Mark → Bool) (m : Mark) (marks : List Mark) → count_by p (m ∷ marks) ≡ bit (p m) + count_by p marks
count_cons p m marks = sum_by-cons (λ x. cond (p x) 1 0) m marks

and_true : (b : Bool) → (b && true) ≡ b
and_true true = refl
and_true false = refl

and_false : (b : Bool) → (b && false) ≡ false
and_false true = refl
and_false false = refl

counted : (is_kind : MarkKind → Bool) (may : Option Status → Bool)
    → ((s : Option Status) (kind : MarkKind) → may_follow s kind ≡ true → Spends is_kind may s kind)
    → (units : List UnitOfWork) (key : UnitKey) (before marks : List Mark) → IsLegalAfter units before marks
    → count_by (tells is_kind key) marks ≤ bit (may (status_of units before key))
counted is_kind may spends units key before [] h = omega arith
counted is_kind may spends units key before (m ∷ marks) h =
    let rest = counted is_kind may spends units key (before ++ m ∷ []) marks h.1 in
    let b = has_no_v2 units key in
    let s = status_of units before key in
    let push = status_push b key None before m in
    elim (same_unit m.unit key) as (λ t. same_unit m.unit key ≡ t → count_by (tells is_kind key) (m ∷ marks) ≤ bit (may s)) [
      | true ↦ λ is.
          let follows : may_follow s m.kind ≡ true = subst (λ k. may_follow (status_of units before k) m.kind ≡ true) (one_unit m.unit key is) h.0 in
          let now : status_of units (before ++ m ∷ []) key ≡ given b m.kind s = push ∙ ap (λ t. if t then given b m.kind s else s) is in
          let one : tells is_kind key m ≡ is_kind m.kind = ap (λ t. is_kind m.kind && t) is ∙ and_true (is_kind m.kind) in
          let step : bit (is_kind m.kind) + bit (may (given b m.kind s)) ≤ bit (may s) = spends s m.kind follows b in
          let tail : count_by (tells is_kind key) marks ≤ bit (may (given b m.kind s)) =
          subst (λ o. count_by (tells is_kind key) marks ≤ bit (may o)) now rest in
          let head : count_by (tells is_kind key) (m ∷ marks) ≡ bit (is_kind m.kind) + count_by (tells is_kind key) marks =
          count_cons (tells is_kind key) m marks ∙ ap (λ t. bit t + count_by (tells is_kind key) marks) one in
          omega (arith, step, tail, head)
      | false ↦ λ is.
          let now : status_of units (before ++ m ∷ []) key ≡ s = push ∙ ap (λ t. if t then given b m.kind s else s) is in
          let none : tells is_kind key m ≡ false = ap (λ t. is_kind m.kind && t) is ∙ and_false (is_kind m.kind) in
          let tail : count_by (tells is_kind key) marks ≤ bit (may s) = subst (λ o. count_by (tells is_kind key) marks ≤ bit (may o)) now rest in
          let head : count_by (tells is_kind key) (m ∷ marks) ≡ 0 + count_by (tells is_kind key) marks =
          count_cons (tells is_kind key) m marks ∙ ap (λ t. bit t + count_by (tells is_kind key) marks) none in
          omega (arith, tail, head)
    ] refl

pub each_once : (units : List UnitOfWork) (marks : List Mark) → IsLegal units marks → IsEachOnce marks
each_once units marks h =
    record {
      recorded = λ unit. counted is_rec may_rec spends_rec units unit [] marks h;
      v1 = λ unit. counted is_v1 may_v1 spends_v1 units unit [] marks h;
      v2 = λ unit. counted is_v2 may_v2 spends_v2 units unit [] marks h;
    }
