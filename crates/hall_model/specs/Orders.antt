-- Orders of update work processes for units.
use Rattle.std.specs.Prelude.{ℕ, Bool, false, not, List, Option, Some, None, set, slice_get, if◌then◌else◌}
use Rattle.std.specs.List.{find, list_any, position}
use Rattle.std.specs.Option.{option_and_then}
use Rattle.enq_base.specs.Owners.{same_unit}
use Rattle.enq_base.specs.declared.owner.UnitKey.{UnitKey}
use Rattle.ledger_steps.specs.Posts.{status_for}
use Rattle.update_records.specs.Ledger.{Ledger}
use Rattle.update_records.specs.Marks.{has_status, status_of}
use Rattle.ledger_steps.specs.declared.part.Part.{Part}

-- the unit that a worker has an order for
abbrev pub order_of : List (Option UnitKey) → ℕ → Option UnitKey
order_of orders worker = option_and_then (λ order. order) (slice_get orders worker)

-- whether a unit waits for this part
abbrev pub waits_for : Part → Ledger → UnitKey → Bool
waits_for part ledger unit = has_status (status_for part) (status_of ledger.units ledger.marks unit)

-- the unit that a worker has an order for, where it waits for this part
abbrev pub order_for : Part → Ledger → List (Option UnitKey) → ℕ → Option UnitKey
order_for part ledger orders worker =
    elim (order_of orders worker) [ None ↦ None | Some unit ↦ if waits_for part ledger unit then Some unit else None ]

abbrev pub with_order : List (Option UnitKey) → ℕ → UnitKey → List (Option UnitKey)
with_order orders worker unit = set orders worker (Some unit)

abbrev pub without_order : List (Option UnitKey) → ℕ → List (Option UnitKey)
without_order orders worker = set orders worker None

abbrev pub is_for : UnitKey → Option UnitKey → Bool
is_for unit None = false
is_for unit (Some other) = same_unit other unit

-- whether some worker has an order for the unit
abbrev pub is_claimed : List (Option UnitKey) → UnitKey → Bool
is_claimed orders unit = list_any (is_for unit) orders

-- the worker that has an order for the unit, by its number from 0
abbrev pub worker_of : List (Option UnitKey) → UnitKey → Option ℕ
worker_of orders unit = position (is_for unit) orders

-- the first of these units that no worker has an order for
abbrev pub first_unclaimed : List (Option UnitKey) → List UnitKey → Option UnitKey
first_unclaimed orders units = find (λ unit. not (is_claimed orders unit)) units
