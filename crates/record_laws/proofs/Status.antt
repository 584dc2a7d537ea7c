-- What one more mark makes of the status of each unit, and of those that wait.
use Rattle.std.proofs.Common.{◌≡◌, Bool, true, false, not, ◌&&◌, List, [], ◌∷◌, ◌++◌, if◌then◌else◌, Option, Some, None, refl, sym, ap, ◌∙◌, subst}
use Rattle.std.specs.List.{AllByRecursion}
use Rattle.std.proofs.lemmas.List.Folds.{find-append}
use Rattle.std.proofs.lemmas.List.{append-nil}
use Rattle.std.proofs.Common.{append_assoc}
use Rattle.std.specs.Option.{option_or, option_map_or}
use Rattle.enq_base.specs.Owners.{same_unit}
use Rattle.enq_base.specs.declared.owner.Owner.TheVariants.{Upd}
use Rattle.enq_base.specs.declared.owner.UnitKey.{UnitKey}
use Rattle.enq_base.specs.declared.unit.Status.{Status}
use Rattle.enq_base.specs.declared.unit.Status.TheVariants.{Open, Posted, Bad, Closed, Bad2 as BadSecond, Cancelled}
use Rattle.enq_base.specs.declared.unit.Num.{Num as Number}
use Rattle.lock_entry.proofs.lemmas.Naming.{same_owner-refl, same_owner-same}
use Rattle.update_records.specs.declared.records.Mark.{Mark}
use Rattle.update_records.specs.declared.records.MarkKind.{MarkKind}
use Rattle.update_records.specs.declared.records.MarkKind.TheVariants.{Num, Rec, V1, Bad1, Again1, V2, Bad2, Again2, Gone}
use Rattle.update_records.specs.declared.records.Unit.{Unit as UnitOfWork}
use Rattle.update_records.specs.Marks.{unit_at, has_no_v2, is_empty_part, given, status_after, status_of, may_follow, IsLegalAfter, is_rec, draws_alone, decides}

pub unit_refl : (u : UnitKey) → same_unit u u ≡ true
unit_refl u = same_owner-refl (Upd u)

pub one_unit : (u v : UnitKey) → same_unit u v ≡ true → u ≡ v
one_unit u v h = let e = same_owner-same (Upd u) (Upd v) h in cc

-- the status with one mark more
pub status_push : (b : Bool) (key : UnitKey) (s : Option Status) (marks : List Mark) (m : Mark)
    → status_after b key s (marks ++ m ∷ []) ≡ (if same_unit m.unit key then given b m.kind (status_after b key s marks) else status_after b key s marks)
status_push b key s [] m = refl
status_push b key s (x ∷ marks) m = status_push b key (if same_unit x.unit key then given b x.kind s else s) marks m

-- a mark that gives a status leaves one for good
given_some : (b : Bool) (kind : MarkKind) (s : Status) → (t : Status) × (given b kind (Some s) ≡ Some t)
given_some b (Num numbers) s = (s, refl)
given_some b Rec s = (Open, refl)
given_some b V1 s = ((if b then Closed else Posted), refl)
given_some b (Bad1 i r) s = (_, refl)
given_some b Again1 s = (_, refl)
given_some b V2 s = (_, refl)
given_some b (Bad2 i r) s = (_, refl)
given_some b Again2 s = (_, refl)
given_some b Gone s = (_, refl)

once_some : (b : Bool) (key : UnitKey) (s : Status) (marks : List Mark) → status_after b key (Some s) marks ≡ None → ⊥
once_some b key s [] h = cc
once_some b key s (m ∷ marks) h =
    elim (same_unit m.unit key) as (λ t. status_after b key (if t then given b m.kind (Some s) else Some s) marks ≡ None → ⊥) [
      | true ↦ λ e. let g = given_some b m.kind s in once_some b key g.0 marks (sym (ap (λ o. status_after b key o marks) g.1) ∙ e)
      | false ↦ λ e. once_some b key s marks e
    ] h

-- no mark gives this unit a status
abbrev pub NoneOf : UnitKey → List Mark → Type 0
NoneOf key marks = AllByRecursion (λ m. decides key m ≡ false) marks

given_fresh : (b : Bool) (kind : MarkKind) → (given b kind None ≡ None) → draws_alone kind ≡ true
given_fresh b (Num numbers) h = refl
given_fresh b Rec h = cc
given_fresh b V1 h = cc
given_fresh b (Bad1 i r) h = cc
given_fresh b Again1 h = cc
given_fresh b V2 h = cc
given_fresh b (Bad2 i r) h = cc
given_fresh b Again2 h = cc
given_fresh b Gone h = cc

given_alone : (b : Bool) (kind : MarkKind) (s : Option Status) → draws_alone kind ≡ true → given b kind s ≡ s
given_alone b (Num numbers) s h = refl
given_alone b Rec s h = cc
given_alone b V1 s h = cc
given_alone b (Bad1 i r) s h = cc
given_alone b Again1 s h = cc
given_alone b V2 s h = cc
given_alone b (Bad2 i r) s h = cc
given_alone b Again2 s h = cc
given_alone b Gone s h = cc

-- numbers alone follow no recorded unit
numbers_never : (s : Status) (numbers : List Number) → may_follow (Some s) (Num numbers) ≡ true → ⊥
numbers_never Open numbers h = cc
numbers_never Posted numbers h = cc
numbers_never Bad numbers h = cc
numbers_never Closed numbers h = cc
numbers_never BadSecond numbers h = cc
numbers_never Cancelled numbers h = cc

pub not_alone : (s : Status) (kind : MarkKind) → may_follow (Some s) kind ≡ true → draws_alone kind ≡ false
not_alone s (Num numbers) h = absurd (numbers_never s numbers h)
not_alone s Rec h = refl
not_alone s V1 h = refl
not_alone s (Bad1 i r) h = refl
not_alone s Again1 h = refl
not_alone s V2 h = refl
not_alone s (Bad2 i r) h = refl
not_alone s Again2 h = refl
not_alone s Gone h = refl

-- no recorded unit is recorded again
rec_never : (s : Status) → may_follow (Some s) Rec ≡ true → ⊥
rec_never Open h = cc
rec_never Posted h = cc
rec_never Bad h = cc
rec_never Closed h = cc
rec_never BadSecond h = cc
rec_never Cancelled h = cc

pub not_rec : (s : Status) (kind : MarkKind) → may_follow (Some s) kind ≡ true → is_rec kind ≡ false
not_rec s (Num numbers) h = refl
not_rec s Rec h = absurd (rec_never s h)
not_rec s V1 h = refl
not_rec s (Bad1 i r) h = refl
not_rec s Again1 h = refl
not_rec s V2 h = refl
not_rec s (Bad2 i r) h = refl
not_rec s Again2 h = refl
not_rec s Gone h = refl

-- a mark that gives a status gives it whatever the one before
pub given_same : (b : Bool) (kind : MarkKind) (s : Option Status) → draws_alone kind ≡ false → given b kind None ≡ given b kind s
given_same b (Num numbers) s h = cc
given_same b Rec s h = refl
given_same b V1 s h = refl
given_same b (Bad1 i r) s h = refl
given_same b Again1 s h = refl
given_same b V2 s h = refl
given_same b (Bad2 i r) s h = refl
given_same b Again2 s h = refl
given_same b Gone s h = refl

-- where a unit has no status no mark gave it one
pub none_of : (b : Bool) (key : UnitKey) (marks : List Mark) → status_after b key None marks ≡ None → NoneOf key marks
none_of b key [] h = tt
none_of b key (m ∷ marks) h =
    elim (same_unit m.unit key)
    as (λ t. same_unit m.unit key ≡ t → status_after b key (if t then given b m.kind None else None) marks ≡ None → NoneOf key (m ∷ marks)) [
      | true ↦ λ is e.
          elim (given b m.kind None) as (λ o. given b m.kind None ≡ o → status_after b key o marks ≡ None → NoneOf key (m ∷ marks)) [
            | None ↦ λ g r. ((ap (λ t. t && not (draws_alone m.kind)) is ∙ ap not (given_fresh b m.kind g)), none_of b key marks r)
            | Some s ↦ λ g r. absurd (once_some b key s marks r)
          ] refl e
      | false ↦ λ is e. (ap (λ t. t && not (draws_alone m.kind)) is, none_of b key marks e)
    ] refl h

alone_of : (b : Bool) → not b ≡ false → b ≡ true
alone_of true h = refl
alone_of false h = cc

-- and then it has none, whatever its V2 part
pub no_status : (b : Bool) (key : UnitKey) (marks : List Mark) → NoneOf key marks → status_after b key None marks ≡ None
no_status b key [] h = refl
no_status b key (m ∷ marks) h =
    elim (same_unit m.unit key) as (λ t. same_unit m.unit key ≡ t → status_after b key (if t then given b m.kind None else None) marks ≡ None) [
      | true ↦ λ is.
          let alone : draws_alone m.kind ≡ true = alone_of (draws_alone m.kind) (sym (ap (λ t. t && not (draws_alone m.kind)) is) ∙ h.0) in
          ap (λ o. status_after b key o marks) (given_alone b m.kind None alone) ∙ no_status b key marks h.1
      | false ↦ λ is. no_status b key marks h.1
    ] refl

-- the unit of a key, with one unit more
unit_push : (units : List UnitOfWork) (u : UnitOfWork) (key : UnitKey) → unit_at (units ++ u ∷ []) key ≡ option_or (unit_at units key)
    (if same_unit u.key key then Some u else None)
unit_push units u key = find-append (λ (x : UnitOfWork). same_unit x.key key) units (u ∷ [])

or_none : {X : Type 0} (o : Option X) → option_or o None ≡ o
or_none None = refl
or_none (Some x) = refl

pub unit_other : (units : List UnitOfWork) (u : UnitOfWork) (key : UnitKey) → same_unit u.key key ≡ false → unit_at (units ++ u ∷ []) key ≡ unit_at units key
unit_other units u key other = unit_push units u key ∙ ap (λ b. option_or (unit_at units key) (if b then Some u else None)) other ∙ or_none (unit_at units key)

pub unit_new : (units : List UnitOfWork) (u : UnitOfWork) → unit_at units u.key ≡ None → unit_at (units ++ u ∷ []) u.key ≡ Some u
unit_new units u none = unit_push units u u.key ∙ ap (λ o. option_or o (if same_unit u.key u.key then Some u else None)) none
    ∙ ap (λ b. if b then Some u else None) (unit_refl u.key)

pub v2_other : (units : List UnitOfWork) (u : UnitOfWork) (key : UnitKey) → same_unit u.key key ≡ false → has_no_v2 (units ++ u ∷ []) key ≡ has_no_v2 units key
v2_other units u key other = ap (λ o. is_empty_part (option_map_or (λ (x : UnitOfWork). x.parts.v2) o [])) (unit_other units u key other)

-- a unit of which no mark tells changes no status
pub status_grows : (units : List UnitOfWork) (u : UnitOfWork) (marks : List Mark) (key : UnitKey) → NoneOf u.key marks
    → status_of (units ++ u ∷ []) marks key ≡ status_of units marks key
status_grows units u marks key none =
    elim (same_unit u.key key) as (λ b. same_unit u.key key ≡ b → status_of (units ++ u ∷ []) marks key ≡ status_of units marks key) [
      | true ↦ λ is.
          let here : NoneOf key marks = subst (λ k. NoneOf k marks) (one_unit u.key key is) none in
          no_status _ key marks here ∙ sym (no_status _ key marks here)
      | false ↦ λ is. ap (λ b. status_after b key None marks) (v2_other units u key is)
    ] refl

pub none_push : (key : UnitKey) (xs ys : List Mark) → NoneOf key xs → NoneOf key ys → NoneOf key (xs ++ ys)
none_push key [] ys a b = b
none_push key (x ∷ xs) ys a b = (a.0, none_push key xs ys a.1 b)

-- the marks stay legal where a unit comes of which none tells
pub legal_grows : (units : List UnitOfWork) (u : UnitOfWork) (before marks : List Mark) → NoneOf u.key before → NoneOf u.key marks
    → IsLegalAfter units before marks → IsLegalAfter (units ++ u ∷ []) before marks
legal_grows units u before [] a b h = tt
legal_grows units u before (m ∷ marks) a b h = (
  ap (λ s. may_follow s m.kind) (status_grows units u before m.unit a) ∙ h.0,
  legal_grows units u (before ++ m ∷ []) marks (none_push u.key before (m ∷ []) a (b.0, tt)) b.1 h.1,
)

pub legal_push : (units : List UnitOfWork) (before marks : List Mark) (m : Mark) → IsLegalAfter units before marks
    → may_follow (status_of units (before ++ marks) m.unit) m.kind ≡ true → IsLegalAfter units before (marks ++ m ∷ [])
legal_push units before [] m h last = (subst (λ ms. may_follow (status_of units ms m.unit) m.kind ≡ true) (append-nil before) last, tt)
legal_push units before (x ∷ marks) m h last = (
  h.0,
  legal_push units (before ++ x ∷ []) marks m h.1
      (subst (λ ms. may_follow (status_of units ms m.unit) m.kind ≡ true) (sym (append_assoc before (x ∷ []) marks)) last),
)

-- whether two keys are one, either way round
pub flip : (u v : UnitKey) → same_unit v u ≡ false → same_unit u v ≡ false
flip u v h = elim (same_unit u v) as (λ b. same_unit u v ≡ b → b ≡ false) [
  | true ↦ λ e. let same : same_unit v u ≡ true = subst (λ w. same_unit w u ≡ true) (one_unit u v e) (unit_refl u) in cc
  | false ↦ λ e. refl
] refl
