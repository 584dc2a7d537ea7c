-- Orders of workers, as units are recorded, taken, posted and given back.
use Rattle.std.proofs.Common.{◌≡◌, ℕ, zero, suc, Bool, true, false, cond, ◌||◌, List, [], ◌∷◌, set, refl, ap, ◌∙◌, subst}
use Rattle.std.specs.Prelude.{Option, Some, None, slice_get}
use Rattle.std.specs.List.{AllByRecursion, find}
use Rattle.std.specs.Option.{option_and_then}
use Rattle.enq_base.specs.Owners.{same_unit}
use Rattle.enq_base.specs.declared.owner.UnitKey.{UnitKey}
use Rattle.record_laws.proofs.Status.{flip, one_unit, unit_refl}
use Rattle.update_records.specs.Growing.{with_mark, with_unit}
use Rattle.update_records.specs.Ledger.{Ledger}
use Rattle.update_records.specs.declared.records.MarkKind.{MarkKind}
use Rattle.update_records.specs.declared.records.Unit.{Unit as UnitOfWork}
use Rattle.model_laws.proofs.OtherStatuses.{marked_waiting, recorded_waiting, status_in}
use Rattle.hall_model.specs.Kept.{AreOrders, IsWaiting, OutsideDoubt}
use Rattle.enq_base.specs.declared.condition.Condition.{Condition}
use Rattle.enq_base.specs.declared.condition.Condition.TheVariants as condition
use Rattle.hall_model.specs.Orders.{is_claimed, is_for}

no_or : (a b : Bool) → (a || b) ≡ false → (a ≡ false) × (b ≡ false)
no_or true b h = (cc, cc)
no_or false b h = (refl, h)

or_no : (a b : Bool) → a ≡ false → b ≡ false → (a || b) ≡ false
or_no true b h k = cc
or_no false b h k = k

-- what follows outside doubt
pub outside_more : {P Q : Type 0} (k : Condition) → (P → Q) → OutsideDoubt k P → OutsideDoubt k Q
outside_more condition.Up f h = f h
outside_more condition.NoServer f h = f h
outside_more (condition.Doubt n) f h = tt

-- ---- a unit that no worker has an order for, in more or fewer orders

unclaimed_without : (orders : List (Option UnitKey)) (i : ℕ) (unit : UnitKey) → is_claimed orders unit ≡ false → is_claimed (set orders i None) unit ≡ false
unclaimed_without [] i unit h = h
unclaimed_without (o ∷ orders) zero unit h = (no_or (is_for unit o) _ h).1
unclaimed_without (o ∷ orders) (suc i) unit h =
    let parts = no_or (is_for unit o) (is_claimed orders unit) h in
    or_no (is_for unit o) _ parts.0 (unclaimed_without orders i unit parts.1)

unclaimed_with : (orders : List (Option UnitKey)) (i : ℕ) (unit other : UnitKey) → same_unit other unit ≡ false → is_claimed orders unit ≡ false
    → is_claimed (set orders i (Some other)) unit ≡ false
unclaimed_with [] i unit other apart h = h
unclaimed_with (o ∷ orders) zero unit other apart h = or_no (same_unit other unit) _ apart (no_or (is_for unit o) _ h).1
unclaimed_with (o ∷ orders) (suc i) unit other apart h =
    let parts = no_or (is_for unit o) (is_claimed orders unit) h in
    or_no (is_for unit o) _ parts.0 (unclaimed_with orders i unit other apart parts.1)

-- ---- orders taken and given back

pub orders_with : (ledger : Ledger) (orders : List (Option UnitKey)) (i : ℕ) (unit : UnitKey) → AreOrders ledger orders → IsWaiting ledger unit
    → is_claimed orders unit ≡ false → AreOrders ledger (set orders i (Some unit))
orders_with ledger [] i unit h here free = tt
orders_with ledger (None ∷ orders) zero unit h here free = (here, free, h)
orders_with ledger (None ∷ orders) (suc i) unit h here free = orders_with ledger orders i unit h here free
orders_with ledger (Some other ∷ orders) zero unit h here free = (here, (no_or (same_unit other unit) _ free).1, h.2)
orders_with ledger (Some other ∷ orders) (suc i) unit h here free =
    let parts = no_or (same_unit other unit) (is_claimed orders unit) free in
    (h.0, unclaimed_with orders i other unit (flip unit other parts.0) h.1, orders_with ledger orders i unit h.2 here parts.1)

pub orders_without : (ledger : Ledger) (orders : List (Option UnitKey)) (i : ℕ) → AreOrders ledger orders → AreOrders ledger (set orders i None)
orders_without ledger [] i h = tt
orders_without ledger (None ∷ orders) zero h = h
orders_without ledger (None ∷ orders) (suc i) h = orders_without ledger orders i h
orders_without ledger (Some other ∷ orders) zero h = h.2
orders_without ledger (Some other ∷ orders) (suc i) h = (h.0, unclaimed_without orders i other h.1, orders_without ledger orders i h.2)

-- ---- orders as the ledger grows

pub orders_recorded : (ledger : Ledger) (unit : UnitOfWork) (orders : List (Option UnitKey)) → status_in ledger unit.key ≡ None → AreOrders ledger orders
    → AreOrders (with_unit ledger unit) orders
orders_recorded ledger unit [] fresh h = tt
orders_recorded ledger unit (None ∷ orders) fresh h = orders_recorded ledger unit orders fresh h
orders_recorded ledger unit (Some other ∷ orders) fresh h =
    (recorded_waiting ledger unit other fresh h.0, h.1, orders_recorded ledger unit orders fresh h.2)

-- orders for other units than the one that is marked
pub orders_marked : (ledger : Ledger) (key : UnitKey) (kind : MarkKind) (orders : List (Option UnitKey)) → is_claimed orders key ≡ false
    → AreOrders ledger orders → AreOrders (with_mark ledger key kind) orders
orders_marked ledger key kind [] free h = tt
orders_marked ledger key kind (None ∷ orders) free h = orders_marked ledger key kind orders free h
orders_marked ledger key kind (Some other ∷ orders) free h =
    let parts = no_or (same_unit other key) (is_claimed orders key) free in
    (marked_waiting ledger key other kind (flip key other parts.0) h.0, h.1, orders_marked ledger key kind orders parts.1 h.2)

abbrev pub held_at : List (Option UnitKey) → ℕ → Option UnitKey
held_at orders i = option_and_then (λ order. order) (slice_get orders i)

yes_or : (a : Bool) → (a || true) ≡ true
yes_or true = refl
yes_or false = refl

first_yes : (a b : Bool) → a ≡ true → (a || b) ≡ true
first_yes true b h = refl
first_yes false b h = cc

claimed_at : (orders : List (Option UnitKey)) (i : ℕ) (key : UnitKey) → held_at orders i ≡ Some key → is_claimed orders key ≡ true
claimed_at [] i key h = cc
claimed_at (None ∷ orders) zero key h = cc
claimed_at (Some other ∷ orders) zero key h =
    let same : other ≡ key = cc in
    first_yes (same_unit other key) _ (subst (λ u. same_unit other u ≡ true) same (unit_refl other))
claimed_at (o ∷ orders) (suc i) key h = ap (λ b. is_for key o || b) (claimed_at orders i key h) ∙ yes_or (is_for key o)

apart_from_held : (orders : List (Option UnitKey)) (i : ℕ) (key other : UnitKey) → held_at orders i ≡ Some key → is_claimed orders other ≡ false
    → same_unit key other ≡ false
apart_from_held orders i key other e free =
    elim (same_unit key other) as (λ b. same_unit key other ≡ b → b ≡ false) [
      | true ↦ λ same.
          let claimed : is_claimed orders other ≡ true = subst (λ u. is_claimed orders u ≡ true) (one_unit key other same) (claimed_at orders i key e) in
          cc
      | false ↦ λ apart. refl
    ] refl

-- the unit is marked, and its order goes
pub orders_posted : (ledger : Ledger) (orders : List (Option UnitKey)) (i : ℕ) (key : UnitKey) (kind : MarkKind) → AreOrders ledger orders
    → held_at orders i ≡ Some key → AreOrders (with_mark ledger key kind) (set orders i None)
orders_posted ledger [] i key kind h e = cc
orders_posted ledger (None ∷ orders) zero key kind h e = cc
orders_posted ledger (Some other ∷ orders) zero key kind h e =
    let same : other ≡ key = cc in
    orders_marked ledger key kind orders (subst (λ u. is_claimed orders u ≡ false) same h.1) h.2
orders_posted ledger (None ∷ orders) (suc i) key kind h e = orders_posted ledger orders i key kind h e
orders_posted ledger (Some other ∷ orders) (suc i) key kind h e =
    let apart = apart_from_held orders i key other e h.1 in
    (marked_waiting ledger key other kind apart h.0, unclaimed_without orders i other h.1, orders_posted ledger orders i key kind h.2 e)

-- ---- the unit that is taken

pub found_all : {X : Type 0} (Q : X → Type 0) (p : X → Bool) (xs : List X) (x : X) → find p xs ≡ Some x → AllByRecursion Q xs → Q x × (p x ≡ true)
found_all Q p [] x h all = cc
found_all Q p (y ∷ xs) x h all =
    elim (p y) as (λ b. p y ≡ b → cond b (Some y) (find p xs) ≡ Some x → Q x × (p x ≡ true)) [
      | true ↦ λ t e. let same : y ≡ x = cc in (subst Q same all.0, subst (λ z. p z ≡ true) same t)
      | false ↦ λ t e. found_all Q p xs x e all.1
    ] refl h
