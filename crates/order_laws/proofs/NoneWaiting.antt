-- Where all workers rest no unit waits.
use Rattle.std.proofs.Common.{◌≡◌, ◌<◌, Bool, true, false, not, cond, ◌&&◌, ◌||◌, List, [], ◌∷◌, find, length, refl, sym, ap, ◌∙◌, subst}
use Rattle.std.specs.Prelude.{if◌then◌else◌, Option, Some, None}
use Rattle.std.specs.List.{list_any}
use Rattle.std.proofs.lemmas.Bool.{and_from, and_parts}
use Rattle.enq_base.specs.Owners.{same_unit}
use Rattle.enq_base.specs.declared.owner.UnitKey.{UnitKey}
use Rattle.enq_base.specs.declared.unit.Status.{Status}
use Rattle.enq_base.specs.declared.unit.Status.TheVariants.{Open, Posted}
use Rattle.record_laws.proofs.Status.{given_same, one_unit}
use Rattle.update_records.specs.Ledger.{Ledger}
use Rattle.update_records.specs.Marks.{decides, draws_alone, given, has_no_v2, has_status, status_after, status_of, units_with, waiting, waiting_again}
use Rattle.update_records.specs.declared.records.Mark.{Mark}
use Rattle.update_records.specs.declared.records.Unit.{Unit as UnitOfWork}
use Rattle.model_laws.proofs.OtherStatuses.{undecided}
use Rattle.hall_model.specs.Kept.{IsKept}
use Rattle.hall_model.specs.Orders.{first_unclaimed, is_claimed, waits_for}
use Rattle.hall_model.specs.State.{State}
use Rattle.ledger_steps.specs.Steps.{waiting_for}
use Rattle.order_laws.proofs.OrderLists.{never, or_no, some_none, unclaimed_all}
use Rattle.order_laws.specs.Behind.{NoneHasOrder}
use Rattle.order_laws.specs.Resting.{AllRest, AreClaimed, NoneWaits}
use Rattle.ledger_steps.specs.declared.part.Part.TheVariants.{V1, V2}
use Rattle.ledger_steps.specs.declared.part.Part.{Part}
use Rattle.ledger_steps.specs.Parts.{is_first}

by_test : (P : Type 0) (b : Bool) → (b ≡ true → P) → (b ≡ false → P) → P
by_test P true f g = f refl
by_test P false f g = g refl

not_from_true : (b : Bool) → not b ≡ true → b ≡ false
not_from_true true h = absurd (never h)
not_from_true false h = refl

true_from_not : (b : Bool) → not b ≡ false → b ≡ true
true_from_not true h = refl
true_from_not false h = absurd (never (sym h))

-- ---- the units of a status are those of their list

-- the first of a list, where there is one, and the rest
not_found : (p : UnitKey → Bool) (b : Bool) (x : UnitKey) (rest : List UnitKey) → find p (if b then x ∷ rest else rest) ≡ None
    → (b ≡ true → p x ≡ false) × (find p rest ≡ None)
not_found p true x rest h =
    elim (p x) as (λ c. cond c (Some x) (find p rest) ≡ None → (true ≡ true → c ≡ false) × (find p rest ≡ None)) [
      | true ↦ λ e. absurd (some_none x e)
      | false ↦ λ e. ((λ on. refl), e)
    ] h
not_found p false x rest h = ((λ on. absurd (never on)), h)

last_decides : (a b : Bool) → (a || b) ≡ true → b ≡ false → a ≡ true
last_decides true b h k = refl
last_decides false b h k = absurd (never (sym k ∙ h))

decided : (p : UnitKey → Bool) (status : Status) (units : List UnitOfWork) (marks : List Mark) (key : UnitKey) (before : Option Status)
    → find p (units_with status units marks) ≡ None → list_any (decides key) marks ≡ true
    → has_status status (status_after (has_no_v2 units key) key before marks) ≡ true → p key ≡ false
decided p status units [] key before none some has = absurd (never some)
decided p status units (m ∷ marks) key before none some has =
    let b = has_no_v2 units key in
    let after = if same_unit m.unit key then given b m.kind before else before in
    let gives : UnitKey → Bool = λ u. has_status status (given (has_no_v2 units u) m.kind None) && not (list_any (decides u) marks) in
    let parts = not_found p (gives m.unit) m.unit (units_with status units marks) none in
    by_test (p key ≡ false) (list_any (decides key) marks)
    (λ later. decided p status units marks key after parts.1 later has)
    (λ last.
    let own = and_parts (same_unit m.unit key) (not (draws_alone m.kind)) (last_decides (decides key m) (list_any (decides key) marks) some last) in
    let is : m.unit ≡ key = one_unit m.unit key own.0 in
    let now : given b m.kind None ≡ status_after b key after marks =
    given_same b m.kind before (not_from_true (draws_alone m.kind) own.1)
    ∙ sym (ap (λ t. if t then given b m.kind before else before) own.0)
    ∙ sym (undecided b key after marks last) in
    let on : gives key ≡ true = and_from _ _ (ap (has_status status) now ∙ has) (ap not last) in
    sym (ap p is) ∙ parts.0 (ap gives is ∙ on))

-- a unit of the status is in the list
pub listed_pass : (p : UnitKey → Bool) (status : Status) (ledger : Ledger) (key : UnitKey) → find p (units_with status ledger.units ledger.marks) ≡ None
    → has_status status (status_of ledger.units ledger.marks key) ≡ true → p key ≡ false
listed_pass p status ledger key none has =
    by_test (p key ≡ false) (list_any (decides key) ledger.marks)
    (λ some. decided p status ledger.units ledger.marks key None none some has)
    (λ last. absurd (never (sym (ap (has_status status) (undecided (has_no_v2 ledger.units key) key None ledger.marks last)) ∙ has)))

-- where there is no order of a part to take, each unit that waits for it is claimed
pub all_claimed : (part : Part) (s : State) → first_unclaimed s.orders (waiting_for part s.stored) ≡ None → AreClaimed part s
all_claimed part s none unit =
    let p : UnitKey → Bool = λ u. not (is_claimed s.orders u) in
    elim (is_first part) as (λ b. find p (if b then waiting s.stored.units s.stored.marks else waiting_again s.stored.units s.stored.marks) ≡ None
    → has_status (if b then Open else Posted) (status_of s.stored.units s.stored.marks unit) ≡ true → is_claimed s.orders unit ≡ true) [
      | true ↦ λ e has. true_from_not (is_claimed s.orders unit) (listed_pass p Open s.stored unit e has)
      | false ↦ λ e has. true_from_not (is_claimed s.orders unit) (listed_pass p Posted s.stored unit e has)
    ] none

-- ---- where no worker has an order

none_of_part : (part : Part) (s : State) (unit : UnitKey) → is_claimed s.orders unit ≡ false → AreClaimed part s → waits_for part s.stored unit ≡ false
none_of_part part s unit free claimed =
    by_test (waits_for part s.stored unit ≡ false) (waits_for part s.stored unit)
    (λ waits. absurd (never (sym free ∙ claimed unit waits))) (λ off. off)

pub none_waits : (s : State) → length s.orders ≡ 256 → NoneHasOrder s → AreClaimed V1 s → AreClaimed V2 s → NoneWaits s
none_waits s places free first second unit =
    let unclaimed : is_claimed s.orders unit ≡ false =
    unclaimed_all s.orders unit (λ worker within. free worker (subst (λ n. worker < n) places within)) in
    or_no (waits_for V1 s.stored unit) (waits_for V2 s.stored unit) (none_of_part V1 s unit unclaimed first) (none_of_part V2 s unit unclaimed second)

pub none_waits_claimed : (s : State) → IsKept s → NoneHasOrder s → AreClaimed V1 s → AreClaimed V2 s → NoneWaits s
none_waits_claimed s kept free first second = none_waits s kept.steady.places free first second

pub none_waits_at_rest : (s : State) → IsKept s → AllRest s → NoneWaits s
none_waits_at_rest s kept rest = none_waits_claimed s kept rest.free (all_claimed V1 s rest.first) (all_claimed V2 s rest.second)
