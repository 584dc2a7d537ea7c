-- The words of a target's contract.
use Rattle.std.specs.Prelude.{ℕ, ◌≡◌, ◌≤◌, ◌<◌, List, length, Option, Some, None, Result, Ok, Err}
use Rattle.enq_base.specs.Causes.{Rose}
use Rattle.keeper_api.specs.Rows.{Rows}
use Rattle.keeper_api.specs.declared.fault.KeepFault.{KeepFault}
use Rattle.keeper_api.specs.declared.fault.KeepFault.TheVariants as keep
use Rattle.module_effects.specs.Rows.{Tables}
use Rattle.module_effects.specs.declared.spot.Spot.{Spot}
use Rattle.remote_target.specs.declared.call.CallOutcome.{CallOutcome}
use Rattle.remote_target.specs.Calls.{effect_of, outcome_of}
use Rattle.keeper_api.specs.Batch.{changed}
use Rattle.remote_target.specs.Rows.{StandFor, changes_at, rows_by, spot_changes}
use Rattle.remote_target.specs.Executed.{executed_in}
use Rattle.remote_target.specs.Runs.{Call, Execution, Ran}
use Rattle.remote_target.specs.declared.fault.TargetFault.{TargetFault}
use Rattle.remote_target.specs.declared.fault.TargetFault.TheVariants.{StoreFault, BadRow, Full, NoMemory}

-- a target's keeper, and how many calls it executed
pub record TargetView (K : Type 0) : Type 0 where
  pub keeper : K
  pub count : ℕ

-- rows that are told stand for what a target executed
abbrev pub Show : Option Rows → Ran → Type 0
Show None r = ⊥
Show (Some rows) r = StandFor rows r

-- the target executed these calls, as its rows tell, and has counted them
pub record HasRun {K : Type 0} (held : K → Option Rows) (t : TargetView K) (r : Ran) : Type 0 where
  pub rows : Show (held t.keeper) r
  pub count : t.count ≡ length r.executed

-- the target executed just these calls, which left some business rows
pub record HasExecuted {K : Type 0} (held : K → Option Rows) (t : TargetView K)
    (executed : List Execution) : Type 0 where
  pub tables : Tables
  pub run : HasRun held t (record { executed = executed; tables = tables })

-- The rows stand for the calls that they spell, so many. Whatever calls they stand for, up to the most that a target
-- executes, there are as many.
pub record HasCalls (rows : Rows) (n : ℕ) : Type 0 where
  pub tables : Tables
  pub stand : StandFor rows (record { executed = executed_in rows; tables = tables })
  pub number : n ≡ length (executed_in rows)
  pub same : (r : Ran) → StandFor rows r → length r.executed ≤ 9223372036854775807 → n ≡ length r.executed

abbrev pub target_fault : KeepFault → TargetFault
target_fault keep.Failed = StoreFault
target_fault keep.NoMemory = NoMemory

abbrev pub OnStoreFault : {T : Type 0} → Result T TargetFault → Type 0 → Type 0
OnStoreFault (Ok x) P = Unit {0}
OnStoreFault (Err StoreFault) P = P
OnStoreFault (Err (BadRow table row)) P = Unit {0}
OnStoreFault (Err Full) P = Unit {0}
OnStoreFault (Err NoMemory) P = Unit {0}

abbrev pub UnlessStoreFault : {T : Type 0} → Result T TargetFault → Type 0 → Type 0
UnlessStoreFault (Ok x) P = P
UnlessStoreFault (Err StoreFault) P = Unit {0}
UnlessStoreFault (Err (BadRow table row)) P = P
UnlessStoreFault (Err Full) P = P
UnlessStoreFault (Err NoMemory) P = P

-- the fault names no bad row
abbrev pub MayRefuse : TargetFault → Type 0
MayRefuse StoreFault = Unit {0}
MayRefuse (BadRow table row) = ⊥
MayRefuse Full = Unit {0}
MayRefuse NoMemory = Unit {0}

-- the store failed, or memory was wanting
abbrev pub MayRead : TargetFault → Type 0
MayRead StoreFault = Unit {0}
MayRead (BadRow table row) = ⊥
MayRead Full = ⊥
MayRead NoMemory = Unit {0}

-- where the store failed
abbrev pub OnFailed : TargetFault → Type 0 → Type 0
OnFailed StoreFault P = P
OnFailed (BadRow table row) P = Unit {0}
OnFailed Full P = Unit {0}
OnFailed NoMemory P = Unit {0}

-- where the store didn't fail
abbrev pub OnRefused : TargetFault → Type 0 → Type 0
OnRefused StoreFault P = Unit {0}
OnRefused (BadRow table row) P = P
OnRefused Full P = P
OnRefused NoMemory P = P

-- `Full` comes only for a new identifier where all places are taken, and there no outcome comes
abbrev pub IsFull : {T : Type 0} → Option CallOutcome → ℕ → Result T TargetFault → Type 0
IsFull known count (Ok x) = known ≡ None → count < 9223372036854775807
IsFull known count (Err StoreFault) = Unit {0}
IsFull known count (Err (BadRow table row)) = Unit {0}
IsFull known count (Err Full) = (known ≡ None) × (9223372036854775807 ≤ count)
IsFull known count (Err NoMemory) = Unit {0}

-- the count has not fallen, `StoreFault` comes only where it rose, and with any other answer it stands still
pub record HasTargetCause {T : Type 0} (before now : ℕ) (result : Result T TargetFault) : Type 0 where
  pub later : before ≤ now
  pub failed : OnStoreFault result (Rose before now)
  pub quiet : UnlessStoreFault result (now ≡ before)

-- a text comes to this outcome and writes this row, if any
pub record Comes (text : List ℕ) (tables : Tables) (outcome : CallOutcome) (row : Option Spot) : Type 0 where
  pub comes : outcome ≡ outcome_of text tables
  pub writes : spot_changes row ≡ rows_by (effect_of text) tables

-- the rows after executing a call at this place
abbrev pub with_call_at : ℕ → Call → Ran → Rows → Rows
with_call_at place call r held = changed (changes_at place call r) held

-- a call was executed at this place, with the outcome of its text, and its changes were made
pub record IsDoneAt (place : ℕ) (call : Call) (r : Ran) (before : Rows) (outcome : CallOutcome)
    (after : Option Rows) : Type 0 where
  pub comes : outcome ≡ outcome_of call.text r.tables
  pub made : after ≡ Some (with_call_at place call r before)

-- the same of a fault
pub record IsTargetCause (before now : ℕ) (fault : TargetFault) : Type 0 where
  pub later : before ≤ now
  pub failed : OnFailed fault (Rose before now)
  pub quiet : OnRefused fault (now ≡ before)
