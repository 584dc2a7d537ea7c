-- Orders in their list, by the worker's number.
use Rattle.std.proofs.Common.{◌≡◌, ◌≢◌, ℕ, zero, suc, ◌<◌, Bool, true, false, ◌||◌, List, [], ◌∷◌, length, set, replicate, refl, sym, ap, ◌∙◌, subst, arith}
use Rattle.std.specs.Prelude.{if◌then◌else◌, nat_eq, Option, Some, None}
use Rattle.std.proofs.lemmas.Bool.{eqb-true, or_parts}
use Rattle.std.proofs.lemmas.Bool.Decides.{nat_tests}
use Rattle.enq_base.specs.Owners.{same_unit}
use Rattle.enq_base.specs.declared.owner.UnitKey.{UnitKey}
use Rattle.record_laws.proofs.Status.{flip}
use Rattle.update_records.specs.Ledger.{Ledger}
use Rattle.hall_model.specs.Kept.{AreOrders}
use Rattle.hall_model.specs.Orders.{is_claimed, is_for, order_of}

pub never : false ≡ true → ⊥
never e = cc

pub or_no : (a b : Bool) → a ≡ false → b ≡ false → (a || b) ≡ false
or_no true b h k = absurd (never (sym h))
or_no false b h k = k

pub set_own : (orders : List (Option UnitKey)) (i : ℕ) (o : Option UnitKey) → i < length orders → order_of (set orders i o) i ≡ o
set_own [] i o h = absurd (omega (arith, h))
set_own (x ∷ xs) zero o h = refl
set_own (x ∷ xs) (suc i) o h = set_own xs i o (omega (arith, h))

pub set_other : (orders : List (Option UnitKey)) (i j : ℕ) (o : Option UnitKey) → i ≢ j → order_of (set orders i o) j ≡ order_of orders j
set_other [] i j o h = refl
set_other (x ∷ xs) zero zero o h = absurd (h refl)
set_other (x ∷ xs) zero (suc j) o h = refl
set_other (x ∷ xs) (suc i) zero o h = refl
set_other (x ∷ xs) (suc i) (suc j) o h = set_other xs i j o (λ e. h (ap suc e))

pub apart : (i j : ℕ) → nat_eq i j ≡ false → i ≢ j
apart i j h e = grind (arith, nat_tests)

-- what a worker's order is behind a change of one order
pub set_order : (orders : List (Option UnitKey)) (i j : ℕ) (o : Option UnitKey) → j < length orders
    → order_of (set orders i o) j ≡ (if nat_eq i j then o else order_of orders j)
set_order orders i j o within =
    elim (nat_eq i j) as (λ b. nat_eq i j ≡ b → order_of (set orders i o) j ≡ (if b then o else order_of orders j)) [
      | true ↦ λ e. ap (λ k. order_of (set orders k o) j) (eqb-true i j e) ∙ set_own orders j o within
      | false ↦ λ e. set_other orders i j o (apart i j e)
    ] refl

pub none_of : (n i : ℕ) → order_of (replicate n None) i ≡ None
none_of zero i = refl
none_of (suc n) zero = refl
none_of (suc n) (suc i) = none_of n i

-- ---- units that no worker has an order for

pub some_none : (unit : UnitKey) → Some unit ≡ None → ⊥
some_none unit e = cc

or_right : (a b : Bool) → b ≡ true → (a || b) ≡ true
or_right true b h = refl
or_right false b h = h

or_second : (a b : Bool) → (a || b) ≡ true → a ≡ false → b ≡ true
or_second true b h off = absurd (never (sym off))
or_second false b h off = h

-- a worker's order changes, and another one's is for the unit
pub claimed_elsewhere : (orders : List (Option UnitKey)) (i : ℕ) (o : Option UnitKey) (unit : UnitKey) → is_for unit (order_of orders i) ≡ false
    → is_claimed orders unit ≡ true → is_claimed (set orders i o) unit ≡ true
claimed_elsewhere [] i o unit off h = h
claimed_elsewhere (x ∷ xs) zero o unit off h = or_right (is_for unit o) (is_claimed xs unit) (or_second (is_for unit x) (is_claimed xs unit) h off)
claimed_elsewhere (x ∷ xs) (suc i) o unit off h =
    elim (is_for unit x) as (λ b. (b || is_claimed xs unit) ≡ true → (b || is_claimed (set xs i o) unit) ≡ true) [
      | true ↦ λ k. refl
      | false ↦ λ k. claimed_elsewhere xs i o unit off k
    ] h

none_some : (key : UnitKey) → ◌≡◌ {A = Option UnitKey} None (Some key) → ⊥
none_some key e = cc

same_key : (a b : UnitKey) → Some a ≡ Some b → a ≡ b
same_key a b e = cc

-- a unit that no worker has an order for is another than one that has
pub apart_from_order : (orders : List (Option UnitKey)) (i : ℕ) (key other : UnitKey) → order_of orders i ≡ Some key → is_claimed orders other ≡ false
    → same_unit key other ≡ false
apart_from_order [] i key other e free = absurd (none_some key e)
apart_from_order (None ∷ orders) zero key other e free = absurd (none_some key e)
apart_from_order (Some k ∷ orders) zero key other e free =
    subst (λ u. same_unit u other ≡ false) (same_key k key e) (or_parts (same_unit k other) (is_claimed orders other) free).0
apart_from_order (x ∷ orders) (suc i) key other e free =
    apart_from_order orders i key other e (or_parts (is_for other x) (is_claimed orders other) free).1

-- two workers have orders for two units
pub orders_apart : (ledger : Ledger) (orders : List (Option UnitKey)) (i j : ℕ) (a b : UnitKey) → AreOrders ledger orders → i ≢ j
    → order_of orders i ≡ Some a → order_of orders j ≡ Some b → same_unit a b ≡ false
orders_apart ledger [] i j a b h differ e f = absurd (none_some a e)
orders_apart ledger (x ∷ orders) zero zero a b h differ e f = absurd (differ refl)
orders_apart ledger (None ∷ orders) zero (suc j) a b h differ e f = absurd (none_some a e)
orders_apart ledger (Some k ∷ orders) zero (suc j) a b h differ e f =
    subst (λ u. same_unit u b ≡ false) (same_key k a e) (flip k b (apart_from_order orders j b k f h.1))
orders_apart ledger (None ∷ orders) (suc i) zero a b h differ e f = absurd (none_some b f)
orders_apart ledger (Some k ∷ orders) (suc i) zero a b h differ e f =
    subst (λ u. same_unit a u ≡ false) (same_key k b f) (apart_from_order orders i a k e h.1)
orders_apart ledger (None ∷ orders) (suc i) (suc j) a b h differ e f = orders_apart ledger orders i j a b h (λ same. differ (ap suc same)) e f
orders_apart ledger (Some k ∷ orders) (suc i) (suc j) a b h differ e f = orders_apart ledger orders i j a b h.2 (λ same. differ (ap suc same)) e f

-- where no worker has an order none has one for a unit
pub unclaimed_all : (orders : List (Option UnitKey)) (unit : UnitKey) → ((i : ℕ) → i < length orders → order_of orders i ≡ None)
    → is_claimed orders unit ≡ false
unclaimed_all [] unit h = refl
unclaimed_all (None ∷ orders) unit h = unclaimed_all orders unit (λ i within. h (suc i) (omega (arith, within)))
unclaimed_all (Some other ∷ orders) unit h = absurd (some_none other (h zero (omega arith)))
