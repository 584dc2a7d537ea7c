-- The words of a carrier's contract.
use mathlib.Core.List.{IsPrefix}
use Rattle.std.specs.Prelude.{ℕ, ◌≡◌, Bool, true, false, List, if◌then◌else◌, is_some, option_map, Option, Some, None}
use Rattle.std.specs.Prelude.{IfOk, IfSome, Result, Ok, Err}
use Rattle.std.specs.Str.{bytes_eq}
use Rattle.enq_base.specs.Causes.{Rose}
use Rattle.enq_base.specs.declared.no_memory.NoMemory.{NoMemory}
use Rattle.keeper_api.specs.Rows.{Rows}
use Rattle.remote_target.specs.declared.call.CallAnswer.{CallAnswer}
use Rattle.remote_target.specs.declared.call.CallOutcome.{CallOutcome}
use Rattle.remote_target.specs.declared.fault.TargetFault.{TargetFault}
use Rattle.remote_target.specs.declared.fault.TargetFault.TheVariants as fault
use Rattle.remote_target.specs.Executed.{executed_in}
use Rattle.remote_target.specs.Runs.{Execution, executed_as}
use Rattle.remote_target.specs.Targets.{HasExecuted, TargetView}

-- the answer is one of this identifier
abbrev pub is_own : List ℕ → Option CallAnswer → Bool
is_own tid None = false
is_own tid (Some answer) = bytes_eq answer.tid tid

abbrev pub RisesUnless : Bool → ℕ → ℕ → Type 0
RisesUnless true before now = now ≡ before
RisesUnless false before now = Rose before now

-- the count rises in each turn that gives no answer of this identifier, and only there
abbrev pub HasTurnCause : ℕ → ℕ → List ℕ → Result (Option CallAnswer) NoMemory → Type 0
HasTurnCause before now tid (Ok answer) = RisesUnless (is_own tid answer) before now
HasTurnCause before now tid (Err e) = now ≡ before

-- what is told stays told, calls only come behind those that were executed, and an answer is that of an executed one
pub record Carries (before now : Option (List Execution)) (result : Result (Option CallAnswer) NoMemory) : Type 0 where
  pub told : is_some now ≡ is_some before
  pub kept : IfSome before (λ xs. IfSome now (λ ys. IsPrefix xs ys))
  pub answered : IfOk result (λ answer. IfSome answer (λ a. IfSome now (λ xs. executed_as a.tid xs ≡ Some a.outcome)))

-- ---- a target that may have failed

-- a target, the target before the call in which it failed, and whether a call of it failed since it was opened
pub record LineView (K : Type 0) : Type 0 where
  pub target : TargetView K
  pub before : TargetView K
  pub failed : Bool

-- the target as its last call left it that didn't fail
abbrev pub steady : {K : Type 0} → LineView K → TargetView K
steady l = if l.failed then l.before else l.target

-- the calls that the target executed, where its keeper tells its rows
abbrev pub executed_by : {K : Type 0} → (K → Option Rows) → LineView K → Option (List Execution)
executed_by held l = option_map executed_in (held (steady l).keeper)

-- where the rows are told, the target has executed the calls that they spell
abbrev pub HasPast : {K : Type 0} → (K → Option Rows) → TargetView K → Type 0
HasPast held t = IfSome (held t.keeper) (λ rows. HasExecuted held t (executed_in rows))

-- The target may be called unless it failed. Whatever is found by an opening, no executed call is missing from it.
pub record IsLine {K : Type 0} (held : K → Option Rows) (may_leave : K → Rows → Type 0) (is_open : K → Type 0)
    (l : LineView K) : Type 0 where
  pub past : HasPast held (steady l)
  pub told : is_some (held l.target.keeper) ≡ is_some (held (steady l).keeper)
  pub left : IfSome (held (steady l).keeper)
      (λ rows. (left : Rows) → may_leave l.target.keeper left → IsPrefix (executed_in rows) (executed_in left))
  pub opened : l.failed ≡ false → is_open l.target.keeper

-- a carrier's line to its target, and its count
pub record CarrierView (K : Type 0) : Type 0 where
  pub line : LineView K
  pub misses : ℕ

-- ---- what a target's answer comes to

abbrev pub is_store_fault : {T : Type 0} → Result T TargetFault → Bool
is_store_fault (Ok x) = false
is_store_fault (Err fault.StoreFault) = true
is_store_fault (Err (fault.BadRow table row)) = false
is_store_fault (Err fault.Full) = false
is_store_fault (Err fault.NoMemory) = false

-- the outcome is the answer; a fault gives none
abbrev pub answer_of : List ℕ → Result CallOutcome TargetFault → Option CallAnswer
answer_of tid (Ok outcome) = Some (record { tid = tid; outcome = outcome })
answer_of tid (Err e) = None
