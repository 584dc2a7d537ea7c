-- The calls that the rows of a target spell.
use Rattle.std.specs.Prelude.{ℕ, nat_le, List, [], ◌∷◌, map, drop, if◌then◌else◌, Option, Some, None}
use Rattle.keeper_api.specs.declared.rows.Row.{Row}
use Rattle.keeper_api.specs.Rows.{Rows}
use Rattle.remote_target.specs.declared.call.CallOutcome.{CallOutcome}
use Rattle.remote_target.specs.declared.call.CallOutcome.TheVariants.{Done}
use Rattle.remote_target.specs.Reading.{place_in}
use Rattle.remote_target.specs.Rows.{outcome_in}
use Rattle.remote_target.specs.Runs.{Execution}
use Rattle.table_reading.specs.Tables.{rows_in}

-- a good row of table 0 has an outcome
abbrev pub outcome_or_done : Option CallOutcome → CallOutcome
outcome_or_done None = Done
outcome_or_done (Some outcome) = outcome

-- the call of a row of table 0
abbrev pub call_in : Row → Execution
call_in row = record { tid = row.key; text = drop 10 row.value; outcome = outcome_or_done (outcome_in row.value) }

-- a row put before the first one of a later place
abbrev pub inserted : (Row → ℕ) → Row → List Row → List Row
inserted place x [] = x ∷ []
inserted place x (y ∷ ys) = if nat_le (place x) (place y) then x ∷ y ∷ ys else y ∷ inserted place x ys

-- rows by their places
abbrev pub placed : (Row → ℕ) → List Row → List Row
placed place [] = []
placed place (x ∷ xs) = inserted place x (placed place xs)

-- the calls of table 0 by their places
abbrev pub executed_in : Rows → List Execution
executed_in rows = map call_in (placed place_in (rows_in rows 0))
