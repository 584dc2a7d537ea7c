-- What sending makes of the rows that it found in an outbox.
use Rattle.std.specs.Prelude.{◌≡◌, ℕ, ◌⊎◌, Bool, true, List, Option, Some, None, IfSome, Contains, is_none, is_some}
use Rattle.std.specs.Prelude.{map}
use Rattle.std.specs.List.{AllByRecursion}
use Rattle.std.specs.FinMap.{get}
use Rattle.keeper_api.specs.Rows.{Rows, Spot, value_at}
use Rattle.table_reading.specs.Tables.{rows_in}
use Rattle.remote_target.specs.Runs.{Execution, executed_as}
use Rattle.remote_target.specs.declared.call.CallOutcome.{CallOutcome}
use Rattle.remote_sending.specs.declared.outbox.OutboxCall.{OutboxCall}
use Rattle.remote_sending.specs.Outbox.{call_in, outbox_value, outcome_at, with_call}

-- where a carrier tells what its target executed, this identifier was executed with this outcome
abbrev pub WasExecuted : Option (List Execution) → List ℕ → CallOutcome → Type 0
WasExecuted executed tid outcome = IfSome executed (λ executed. executed_as tid executed ≡ Some outcome)

-- an open call has got the outcome with which it was executed
pub record IsSettled (runs : Option (List Execution)) (spot : Spot) (before after : List ℕ) : Type 0 where
  pub text : List ℕ
  pub outcome : CallOutcome
  pub table : spot.0 ≡ 0
  pub was : before ≡ outbox_value None text
  pub now : after ≡ outbox_value (Some outcome) text
  pub executed : WasExecuted runs spot.1 outcome

-- a row has identifier and text of one of these calls, and if it has an outcome that with which it was executed
pub record IsOfCall (calls : Option (List OutboxCall)) (runs : Option (List Execution)) (spot : Spot)
    (value : List ℕ) : Type 0 where
  pub call : OutboxCall
  pub outcome : Option CallOutcome
  pub stands : IfSome calls (λ calls. Contains calls call)
  pub place : spot ≡ (0, call.tid)
  pub is : value ≡ outbox_value outcome call.text
  pub executed : IfSome outcome (WasExecuted runs call.tid)

-- a row that was found stands, with its text and, where it had one, its outcome; each other row is of a call
abbrev pub IsGrownRow : Option (List OutboxCall) → Option (List Execution) → Spot → Option (List ℕ) → Option (List ℕ)
    → Type 0
IsGrownRow calls executed spot (Some before) (Some after) = (after ≡ before) ⊎ IsSettled executed spot before after
IsGrownRow calls executed spot (Some before) None = ⊥
IsGrownRow calls executed spot None (Some after) = IsOfCall calls executed spot after
IsGrownRow calls executed spot None None = Unit {0}

abbrev pub IsGrown : Option (List OutboxCall) → Option (List Execution) → Rows → Rows → Type 0
IsGrown calls executed found left = (spot : Spot) → IsGrownRow calls executed spot (get found spot) (get left spot)

-- the identifier of each of these calls stands in the outbox
abbrev pub AllStand : List OutboxCall → Rows → Type 0
AllStand calls rows = (call : OutboxCall) → Contains calls call → is_some (value_at rows 0 call.tid) ≡ true

-- the rows are in the grammar of an outbox and spell these calls
abbrev pub AreCallsOf : Rows → List OutboxCall → Type 0
AreCallsOf rows calls = map call_in (rows_in rows 0) ≡ map Some calls

-- rows that have grown from others, and the calls that they spell
pub record IsUnderWay (told : Option (List OutboxCall)) (executed : Option (List Execution)) (found rows : Rows)
    (calls : List OutboxCall) : Type 0 where
  pub grown : IsGrown told executed found rows
  pub spelled : AreCallsOf rows calls

-- those of these calls are open that had no outcome in the rows before
abbrev pub AreOpenBefore : Rows → List OutboxCall → Type 0
AreOpenBefore before calls = AllByRecursion (λ call. is_none call.outcome ≡ is_none (outcome_at before call.tid)) calls

-- ---- a call at a time

-- the rows are the same, or a call is stored open that wasn't there
abbrev pub IsWith : OutboxCall → Rows → Rows → Type 0
IsWith call rows left =
    (left ≡ rows) ⊎ ((value_at rows 0 call.tid ≡ None) × (left ≡ with_call call.tid call.text None rows))

-- the rows once an open call was asked for
abbrev pub asked : OutboxCall → Option CallOutcome → Rows → Rows
asked call None rows = rows
asked call (Some outcome) rows = with_call call.tid call.text (Some outcome) rows

-- they may have this call's outcome, with which it was executed
pub record IsAsked (runs : Option (List Execution)) (call : OutboxCall) (rows left : Rows) : Type 0 where
  pub outcome : Option CallOutcome
  pub is : left ≡ asked call outcome rows
  pub executed : IfSome outcome (WasExecuted runs call.tid)
