-- The rows of a target, and those that a call writes.
use Rattle.std.specs.Prelude.{ℕ, ◌≡◌, ◌≤◌, ◌+◌, nat_eq, List, [], ◌∷◌, ◌++◌, length, if◌then◌else◌, Option, Some, None}
use Rattle.std.specs.Prelude.{option_map, IsSome, Result, Ok, Err, slice_get}
use Rattle.std.specs.Str.{bytes_eq}
use Rattle.std.specs.FinMap.{get}
use Rattle.byteorder.specs.Endian.{big_bytes}
use Rattle.enq_base.specs.Number.{◌>>=◌}
use Rattle.enq_base.specs.declared.unit.Reason.{Reason}
use Rattle.enq_base.specs.declared.unit.Reason.TheVariants.{Duplicate, Missing, NotNumber, Overflow}
use Rattle.enq_base.specs.declared.unit.Effect.{Effect}
use Rattle.keeper_api.specs.declared.rows.Change.{Change}
use Rattle.keeper_api.specs.declared.rows.Change.TheVariants as change
use Rattle.keeper_api.specs.Rows.{Rows, value_at}
use Rattle.module_effects.specs.Effects.{row_after}
use Rattle.module_effects.specs.Rows.{RowName, Tables, row_of}
use Rattle.module_effects.specs.Spots.{row_at}
use Rattle.module_effects.specs.declared.spot.Spot.{Spot}
use Rattle.remote_target.specs.declared.call.CallOutcome.{CallOutcome}
use Rattle.remote_target.specs.declared.call.CallOutcome.TheVariants.{Done, BadText, Refused}
use Rattle.remote_target.specs.Calls.{effect_of, outcome_by}
use Rattle.remote_target.specs.Runs.{Call, Execution, Ran, executed_as, execution}

-- ---- outcomes

abbrev pub reason_byte : Reason → ℕ
reason_byte Duplicate = 1
reason_byte Missing = 2
reason_byte NotNumber = 3
reason_byte Overflow = 4

-- an outcome's number, and the number of its reason or 0
abbrev pub outcome_codes : CallOutcome → ℕ × ℕ
outcome_codes Done = (1, 0)
outcome_codes BadText = (2, 0)
outcome_codes (Refused reason) = (3, reason_byte reason)

abbrev pub reason_coded : ℕ → Option Reason
reason_coded b =
    if nat_eq b 1 then Some Duplicate else
    if nat_eq b 2 then Some Missing else
    if nat_eq b 3 then Some NotNumber else
    if nat_eq b 4 then Some Overflow else None

abbrev pub plain_outcome : ℕ → Option CallOutcome
plain_outcome b = if nat_eq b 1 then Some Done else if nat_eq b 2 then Some BadText else None

-- the outcome of these two bytes
abbrev pub outcome_coded : ℕ → ℕ → Option CallOutcome
outcome_coded number reason = if nat_eq number 3 then option_map Refused
    (reason_coded reason) else if nat_eq reason 0 then plain_outcome number else None

-- ---- table 0: a call under its identifier

-- an outcome, and a text behind it
abbrev pub outcome_bytes : CallOutcome → List ℕ → List ℕ
outcome_bytes outcome text = (outcome_codes outcome).0 ∷ (outcome_codes outcome).1 ∷ text

-- its place among all calls, its outcome and its text
abbrev pub call_value : ℕ → Execution → List ℕ
call_value place x = big_bytes 8 place ++ outcome_bytes x.outcome x.text

-- the outcome in a call's value
abbrev pub outcome_in : List ℕ → Option CallOutcome
outcome_in value = slice_get value 8 >>= λ number. slice_get value 9 >>= λ reason. outcome_coded number reason

-- there is no value and no outcome, or the value has this outcome
abbrev pub IsOutcomeIn : Option (List ℕ) → Option CallOutcome → Type 0
IsOutcomeIn None outcome = outcome ≡ None
IsOutcomeIn (Some value) outcome = (outcome_in value ≡ outcome) × IsSome outcome

-- the value of the call with this identifier, of calls of which the first has this place
abbrev pub value_from : ℕ → List ℕ → List Execution → Option (List ℕ)
value_from place tid [] = None
value_from place tid (x ∷ xs) = if bytes_eq x.tid tid then Some (call_value place x) else value_from (place + 1) tid xs

-- ---- table 1: a business row under its name; table 2: the number of calls

-- the table with its length in front, and the key
abbrev pub row_key : RowName → List ℕ
row_key name = length name.0 ∷ (name.0 ++ name.1)

abbrev pub count_key : List ℕ
count_key = 83 ∷ []

-- the value of the one row of table 2, which may be missing where there is no call
abbrev pub IsCount : Option (List ℕ) → ℕ → Type 0
IsCount None n = n ≡ 0
IsCount (Some value) n = value ≡ big_bytes 8 n

-- ---- what a call writes

abbrev pub row_left : RowName → Option (List ℕ) → Change
row_left name None = change.Del 1 (row_key name)
row_left name (Some text) = change.Put 1 (row_key name) text

-- the change that leaves in a row what its spot has
abbrev pub spot_changes : Option Spot → List Change
spot_changes None = []
spot_changes (Some spot) = row_left (row_at spot) spot.text ∷ []

abbrev pub row_if : RowName → Result (Option (List ℕ)) Reason → List Change
row_if name (Ok row) = row_left name row ∷ []
row_if name (Err reason) = []

-- the business row that an effect changes, unless it is refused
abbrev pub rows_by : Option Effect → Tables → List Change
rows_by None tables = []
rows_by (Some effect) tables = row_if (row_of effect) (row_after (get tables (row_of effect)) effect.deed)

-- an effect comes to this outcome in these tables and writes this row, if any
pub record Makes (effect : Effect) (tables : Tables) (outcome : CallOutcome) (row : Option Spot) : Type 0 where
  pub comes : outcome ≡ outcome_by (Some effect) tables
  pub writes : spot_changes row ≡ rows_by (Some effect) tables

-- a call's row at a place, the count, and the changes of its text
abbrev pub written_at : ℕ → Execution → List Change → List Change
written_at place x rows = change.Put 0 x.tid (call_value place x) ∷ change.Put 2 count_key (big_bytes 8 place) ∷ rows

-- the changes of a call that isn't known, at this place
abbrev pub changes_at : ℕ → Call → Ran → List Change
changes_at place call r = written_at place (execution call r) (rows_by (effect_of call.text) r.tables)

abbrev pub changes_if : Option CallOutcome → Call → Ran → List Change
changes_if (Some outcome) call r = []
changes_if None call r = changes_at (length r.executed + 1) call r

-- the changes of one commit that executes a call; a call whose identifier is known writes none
abbrev pub changes_of : Call → Ran → List Change
changes_of call r = changes_if (executed_as call.tid r.executed) call r

-- ---- what rows stand for

-- The rows are those of a target that executed these calls and has these business rows. No key of a store is empty.
pub record StandFor (rows : Rows) (r : Ran) : Type 0 where
  pub calls : (tid : List ℕ) → 1 ≤ length tid → value_at rows 0 tid ≡ value_from 1 tid r.executed
  pub texts : (name : RowName) → value_at rows 1 (row_key name) ≡ get r.tables name
  pub count : IsCount (value_at rows 2 count_key) (length r.executed)
