-- The units that wait for their V1 part are those of the list, and each stands there once.
use Rattle.std.proofs.Common.{◌≡◌, IsTrue, Bool, true, false, not, ◌&&◌, ◌||◌, List, [], ◌∷◌, map, inl, inr, refl, sym, ap, ◌∙◌}
use Rattle.std.specs.Prelude.{if◌then◌else◌, Option, Some, None}
use Rattle.std.specs.List.{AllByRecursion, list_all, list_any}
use Rattle.std.proofs.lemmas.Bool.{and_from, and_parts, not_from_false, or_parts}
use Rattle.enq_base.specs.Owners.{same_owner, same_unit}
use Rattle.enq_base.specs.declared.owner.Owner.{Owner}
use Rattle.enq_base.specs.declared.owner.UnitKey.{UnitKey}
use Rattle.enq_base.specs.declared.unit.Status.{Status}
use Rattle.enq_base.specs.declared.unit.Status.TheVariants.{Open, Posted, Bad, Closed, Bad2 as BadSecond, Cancelled}
use Rattle.enq_server.specs.Held.{owner_of}
use Rattle.lock_entry.specs.Names.{all_pairs}
use Rattle.ledger_steps.specs.Steps.{IsOpenUnit, waiting_for}
use Rattle.ledger_steps.specs.Views.{locks_of, open_locks}
use Rattle.record_laws.proofs.Status.{flip, given_same, one_unit}
use Rattle.update_records.specs.Ledger.{Ledger}
use Rattle.update_records.specs.Marks.{decides, draws_alone, given, has_no_v2, has_status, status_after, units_with, waiting}
use Rattle.update_records.specs.declared.records.Mark.{Mark}
use Rattle.update_records.specs.declared.records.MarkKind.{MarkKind}
use Rattle.update_records.specs.declared.records.MarkKind.TheVariants.{Num, Rec, V1, Bad1, Again1, V2, Bad2, Again2, Gone}
use Rattle.update_records.specs.declared.records.Unit.{Unit as UnitOfWork}
use Rattle.model_laws.proofs.OtherStatuses.{Ends, ends_with, undecided}
use Rattle.model_laws.proofs.LockLists.{Among}
use Rattle.ledger_steps.specs.declared.part.Part.TheVariants as parts

by_test : (P : Type 0) (b : Bool) → (b ≡ true → P) → (b ≡ false → P) → P
by_test P true f g = f refl
by_test P false f g = g refl

-- ---- those that are listed are open

ends_open : (ledger : Ledger) (keys : List UnitKey) → AllByRecursion (Ends ledger.units ledger.marks Open) keys → AllByRecursion (IsOpenUnit ledger) keys
ends_open ledger [] h = tt
ends_open ledger (key ∷ keys) h = (h.0 None, ends_open ledger keys h.1)

pub all_open : (ledger : Ledger) → AllByRecursion (IsOpenUnit ledger) (waiting_for parts.V1 ledger)
all_open ledger = ends_open ledger (waiting ledger.units ledger.marks) (ends_with Open ledger.units ledger.marks)

-- ---- those that are open are listed

itself : (status : Status) → has_status status (Some status) ≡ true
itself Open = refl
itself Posted = refl
itself Bad = refl
itself Closed = refl
itself BadSecond = refl
itself Cancelled = refl

at_last : (a b : Bool) → (a || b) ≡ true → b ≡ false → a ≡ true
at_last true b h k = refl
at_last false true h k = cc
at_last false false h k = cc

no_more : (b : Bool) → not b ≡ true → b ≡ false
no_more true h = cc
no_more false h = refl

listed_later : (test : Bool) (x key : UnitKey) (rest : List UnitKey) → Among rest key → Among (if test then x ∷ rest else rest) key
listed_later true x key rest k = inr k
listed_later false x key rest k = k

listed_here : (test : Bool) (x key : UnitKey) (rest : List UnitKey) → test ≡ true → x ≡ key → Among (if test then x ∷ rest else rest) key
listed_here true x key rest h is = inl is
listed_here false x key rest h is = absurd (cc)

never : false ≡ true → ⊥
never e = cc

listed : (status : Status) (units : List UnitOfWork) (marks : List Mark) (key : UnitKey) (before : Option Status)
    → list_any (decides key) marks ≡ true → status_after (has_no_v2 units key) key before marks ≡ Some status
    → Among (units_with status units marks) key
listed status units [] key before some h = absurd (never some)
listed status units (m ∷ marks) key before some h =
    let b = has_no_v2 units key in
    let after = if same_unit m.unit key then given b m.kind before else before in
    let gives : UnitKey → Bool = λ u. has_status status (given (has_no_v2 units u) m.kind None) && not (list_any (decides u) marks) in
    let rest = units_with status units marks in
    by_test (Among (if gives m.unit then m.unit ∷ rest else rest) key) (list_any (decides key) marks)
    (λ later. listed_later (gives m.unit) m.unit key rest (listed status units marks key after later h))
    (λ last.
    let parts = and_parts (same_unit m.unit key) (not (draws_alone m.kind)) (at_last (decides key m) (list_any (decides key) marks) some last) in
    let is : m.unit ≡ key = one_unit m.unit key parts.0 in
    let now : given b m.kind None ≡ Some status =
    given_same b m.kind before (no_more (draws_alone m.kind) parts.1)
    ∙ sym (ap (λ t. if t then given b m.kind before else before) parts.0)
    ∙ sym (undecided b key after marks last)
    ∙ h in
    let test : gives key ≡ true = and_from _ _ (ap (has_status status) now ∙ itself status) (ap not last) in
    listed_here (gives m.unit) m.unit key rest (ap gives is ∙ test) is)

none_or : (o : Option Status) (status : Status) → o ≡ None → o ≡ Some status → ⊥
none_or None status h k = cc
none_or (Some other) status h k = cc

pub open_listed : (ledger : Ledger) (unit : UnitKey) → IsOpenUnit ledger unit → Among (waiting_for parts.V1 ledger) unit
open_listed ledger unit h =
    by_test (Among (waiting ledger.units ledger.marks) unit) (list_any (decides unit) ledger.marks)
    (λ some. listed Open ledger.units ledger.marks unit None some h)
    (λ none. absurd (none_or _ Open (undecided (has_no_v2 ledger.units unit) unit None ledger.marks none) h))

-- ---- each once

gives_none : (status : Status) → has_status status None ≡ true → ⊥
gives_none status e = cc

-- a mark that gives a status decides
not_alone : (status : Status) (b : Bool) (kind : MarkKind) → has_status status (given b kind None) ≡ true → draws_alone kind ≡ false
not_alone status b (Num numbers) h = absurd (gives_none status h)
not_alone status b Rec h = refl
not_alone status b V1 h = refl
not_alone status b (Bad1 i r) h = refl
not_alone status b Again1 h = refl
not_alone status b V2 h = refl
not_alone status b (Bad2 i r) h = refl
not_alone status b Again2 h = refl
not_alone status b Gone h = refl

other_key : (a d : Bool) → (a && not d) ≡ false → d ≡ false → a ≡ false
other_key true true h k = cc
other_key true false h k = cc
other_key false d h k = refl

-- two keys of two units
abbrev pub differ : UnitKey → UnitKey → Bool
differ a b = not (same_unit a b)

-- a unit of which no mark decides isn't listed
unlisted : (status : Status) (units : List UnitOfWork) (marks : List Mark) (key : UnitKey) → list_any (decides key) marks ≡ false
    → list_all (differ key) (units_with status units marks) ≡ true
unlisted status units [] key h = refl
unlisted status units (m ∷ marks) key h =
    let parts = or_parts (decides key m) (list_any (decides key) marks) h in
    let rest = units_with status units marks in
    let others : list_all (differ key) rest ≡ true = unlisted status units marks key parts.1 in
    let given_by = has_status status (given (has_no_v2 units m.unit) m.kind None) in
    let test = given_by && not (list_any (decides m.unit) marks) in
    elim test as (λ t. test ≡ t → list_all (differ key) (if t then m.unit ∷ rest else rest) ≡ true) [
      | true ↦ λ e.
          let gives = and_parts given_by (not (list_any (decides m.unit) marks)) e in
          let decides_it = not_alone status (has_no_v2 units m.unit) m.kind gives.0 in
          let apart : same_unit m.unit key ≡ false = other_key (same_unit m.unit key) (draws_alone m.kind) parts.0 decides_it in
          and_from (differ key m.unit) (list_all (differ key) rest) (not_from_false (same_unit key m.unit) (flip key m.unit apart)) others
      | false ↦ λ e. others
    ] refl

-- those of a status stand in their list once
pub units_differ : (status : Status) (units : List UnitOfWork) (marks : List Mark) → all_pairs differ (units_with status units marks) ≡ true
units_differ status units [] = refl
units_differ status units (m ∷ marks) =
    let rest = units_with status units marks in
    let others : all_pairs differ rest ≡ true = units_differ status units marks in
    let given_by = has_status status (given (has_no_v2 units m.unit) m.kind None) in
    let test = given_by && not (list_any (decides m.unit) marks) in
    elim test as (λ t. test ≡ t → all_pairs differ (if t then m.unit ∷ rest else rest) ≡ true) [
      | true ↦ λ e.
          let gives = and_parts given_by (not (list_any (decides m.unit) marks)) e in
          let none = unlisted status units marks m.unit (no_more (list_any (decides m.unit) marks) gives.1) in
          and_from (list_all (differ m.unit) rest) (all_pairs differ rest) none others
      | false ↦ λ e. others
    ] refl

pub waiting_differ : (ledger : Ledger) → all_pairs differ (waiting_for parts.V1 ledger) ≡ true
waiting_differ ledger = units_differ Open ledger.units ledger.marks

abbrev owners_differ : Owner → Owner → Bool
owners_differ a b = not (same_owner a b)

one_of_owners : (ledger : Ledger) (key : UnitKey) (keys : List UnitKey) → list_all (differ key) keys ≡ true
    → list_all (owners_differ (owner_of (locks_of ledger key))) (map owner_of (map (locks_of ledger) keys)) ≡ true
one_of_owners ledger key [] h = refl
one_of_owners ledger key (other ∷ keys) h =
    let parts = and_parts (differ key other) (list_all (differ key) keys) h in
    and_from (differ key other) _ parts.0 (one_of_owners ledger key keys parts.1)

keys_of_owners : (ledger : Ledger) (keys : List UnitKey) → all_pairs differ keys ≡ true
    → all_pairs owners_differ (map owner_of (map (locks_of ledger) keys)) ≡ true
keys_of_owners ledger [] h = refl
keys_of_owners ledger (key ∷ keys) h =
    let parts = and_parts (list_all (differ key) keys) (all_pairs differ keys) h in
    and_from _ _ (one_of_owners ledger key keys parts.0) (keys_of_owners ledger keys parts.1)

pub open_owners_differ : (ledger : Ledger) → IsTrue (all_pairs (λ a b. not (same_owner a b)) (map owner_of (open_locks ledger)))
open_owners_differ ledger = keys_of_owners ledger (waiting_for parts.V1 ledger) (waiting_differ ledger)
