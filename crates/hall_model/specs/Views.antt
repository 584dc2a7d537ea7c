-- What the server tells of the units that are recorded, nothing while it is in doubt, of the number ranges, and of the
-- whole in five numbers.
use Rattle.std.specs.Prelude.{ℕ, List, [], length, map}
use Rattle.enq_base.specs.declared.condition.Condition.{Condition}
use Rattle.enq_base.specs.declared.condition.Condition.TheVariants as condition
use Rattle.enq_base.specs.declared.condition.Readings.{Readings}
use Rattle.number_ranges.specs.Draws.{RangeState}
use Rattle.ledger_steps.specs.Steps.{waiting_for}
use Rattle.ledger_steps.specs.Views.{views_of}
use Rattle.update_records.specs.Business.{numbers_of}
use Rattle.update_records.specs.declared.view.UnitView.{UnitView}
use Rattle.hall_model.specs.Numbers.{range_state}
use Rattle.hall_model.specs.State.{State, seen_locks}
use Rattle.ledger_steps.specs.declared.part.Part.TheVariants.{V1, V2}
use Rattle.ledger_steps.specs.declared.part.Part.{Part}

abbrev pub unless_in_doubt : {X : Type 0} → Condition → X → X → X
unless_in_doubt condition.Up none x = x
unless_in_doubt condition.NoServer none x = x
unless_in_doubt (condition.Doubt k) none x = none

-- each recorded unit, in the order in which they were recorded
abbrev pub units_shown : State → List UnitView
units_shown s = unless_in_doubt s.condition [] (views_of s.stored)

-- how many marks there are
abbrev pub marks_shown : State → ℕ
marks_shown s = unless_in_doubt s.condition 0 (length s.stored.marks)

-- how many numbers were committed, by units and alone
abbrev pub numbers_shown : State → ℕ
numbers_shown s = unless_in_doubt s.condition 0 (length (numbers_of s.stored.units s.stored.marks))

-- the number ranges in the order of the landscape
abbrev pub ranges_shown : State → List RangeState
ranges_shown s = map (range_state s) s.ranges

-- how many units wait for a part
abbrev pub waiting_shown : Part → State → ℕ
waiting_shown part s = unless_in_doubt s.condition 0 (length (waiting_for part s.stored))

-- ---- the gauges

abbrev pub condition_number : Condition → ℕ
condition_number condition.Up = 0
condition_number condition.NoServer = 1
condition_number (condition.Doubt k) = 2

-- what is counted of a state
abbrev pub readings_of : State → Readings
readings_of s =
    record {
      past = length s.past;
      waiting = waiting_shown V1 s;
      posted = waiting_shown V2 s;
      locks = length (seen_locks s);
      condition = condition_number s.condition;
    }
