-- What a call that writes the store leaves of it.
use Rattle.std.specs.Prelude.{◌≡◌, ℕ, false, nat_eq, Option, Some, Result, IfSome, OnErr, OnOk, is_some}
use Rattle.enq_base.specs.declared.refusal.Refusal.TheVariants as refusal
use Rattle.keeper_api.specs.Keeping.{HasFaultCause, IsWithin, OnNoMemory, UnlessFailed}
use Rattle.keeper_api.specs.Rows.{Rows}
use Rattle.keeper_api.specs.declared.fault.KeepFault.{KeepFault}
use Rattle.number_ranges.specs.Intervals.{with_level}
use Rattle.number_ranges.specs.declared.interval.Interval.{Interval}
use Rattle.posting.specs.BooksView.{IsUsable, BooksView, StandForEither}
use Rattle.ledger_steps.specs.Steps.{after_step}
use Rattle.ledger_steps.specs.declared.step.Step.{Step}
use Rattle.ledger_steps.specs.Drawn.{stored_as}
use Rattle.hall_calls.specs.Written.{OnAnswer, OnStoreFailure, written_reply}
use Rattle.hall_calls.specs.Leaving.{HasStoreCause, KeepsStore, LeavesWritten}
use Rattle.hall_model.specs.declared.command.Reply.TheVariants as reply
use Rattle.ledger_steps.specs.declared.step.Step.TheVariants as step
use Rattle.hall_calls.specs.declared.units.Written.{Written}
use Rattle.hall_calls.specs.declared.units.Written.TheVariants.{Answered, Failed, Unfiled}

-- the keeper holds what it held, and nothing new may be left
pub record StaysAsItWas {K : Type 0} (held : K → Option Rows) (may_leave : K → Rows → Type 0)
    (old new : K) : Type 0 where
  pub rows : held new ≡ held old
  pub crash : IsWithin (may_leave new) (may_leave old)

-- A step was written, or memory was wanting before, or the store failed: then a stop may leave what was, or what the
-- step makes of it.
pub record TriesStep {K : Type 0} (held : K → Option Rows) (is_open : K → Type 0) (may_leave : K → Rows → Type 0)
    (faults : K → ℕ) (old new : BooksView K) (step : Step) (result : Result Unit KeepFault) : Type 0 where
  pub done : OnOk result (new.ledger ≡ after_step old.ledger step)
  pub kept : OnErr result (new.ledger ≡ old.ledger)
  pub usable : UnlessFailed result (IsUsable held is_open new)
  pub told : is_some (held new.keeper) ≡ is_some (held old.keeper)
  pub left : IfSome (held new.keeper)
      (λ _. (left : Rows) → may_leave new.keeper left → StandForEither left old.ledger step)
  pub cause : HasFaultCause (faults old.keeper) (faults new.keeper) result
  pub untouched : OnNoMemory result (StaysAsItWas held may_leave old.keeper new.keeper)

-- how a call ends that uses the store: what it leaves of the books and of the keeper
pub record EndsAs {K : Type 0} (held : K → Option Rows) (is_open : K → Type 0) (may_leave : K → Rows → Type 0)
    (faults : K → ℕ) (old new : BooksView K) (w : Written) : Type 0 where
  pub ledger : OnStoreFailure w (new.ledger ≡ old.ledger)
  pub usable : OnAnswer w (IsUsable held is_open new)
  pub told : is_some (held new.keeper) ≡ is_some (held old.keeper)
  pub left : LeavesWritten held may_leave new w
  pub cause : HasStoreCause (faults old.keeper) (faults new.keeper) (written_reply w)
  pub kept : KeepsStore held may_leave old.keeper new.keeper (written_reply w)

-- why a level isn't raised to this one: memory was wanting, or the store failed in it
abbrev pub IsRaiseFault : Interval → ℕ → Written → Type 0
IsRaiseFault i level (Answered r) = r ≡ reply.Refused refusal.NoMemory
IsRaiseFault i level (Failed change) =
    (change ≡ Some (step.Level (stored_as (with_level level i)))) × (nat_eq level i.level ≡ false)
IsRaiseFault i level Unfiled = ⊥
