-- What a stop may leave in the store, and when the store fails.
use Rattle.std.specs.Prelude.{ℕ, ◌≡◌, ◌⊎◌, ◌≤◌, Bool, true, false, Option, Some, None, IfSome}
use Rattle.std.specs.Option.{option_map}
use Rattle.enq_base.specs.Causes.{Rose}
use Rattle.enq_base.specs.declared.refusal.Refusal.TheVariants as refusal
use Rattle.keeper_api.specs.Keeping.{IsWithin}
use Rattle.keeper_api.specs.Rows.{Rows}
use Rattle.posting.specs.BooksView.{BooksView}
use Rattle.update_records.specs.Ledger.{Ledger, StandFor}
use Rattle.hall_model.specs.declared.command.Reply.{Reply}
use Rattle.hall_model.specs.declared.command.Reply.TheVariants as reply
use Rattle.hall_calls.specs.declared.units.Written.{Written}
use Rattle.hall_calls.specs.declared.units.Written.TheVariants.{Answered, Failed, Unfiled}
use Rattle.ledger_steps.specs.declared.step.Step.{Step}
use Rattle.ledger_steps.specs.Steps.{after_step}
use Rattle.hall_model.specs.State.{State}
use Rattle.hall_calls.specs.View.{View}

-- rows stand for the change in flight, if there is one
abbrev pub StandForInFlight : Rows → Option Ledger → Type 0
StandForInFlight rows None = ⊥
StandForInFlight rows (Some in_flight) = StandFor rows in_flight

-- rows stand for what is recorded, with or without the change in flight, by what is known of it
abbrev pub StandForKnown : Option Bool → Rows → Ledger → Option Ledger → Type 0
StandForKnown None rows stored in_flight = StandFor rows stored ⊎ StandForInFlight rows in_flight
StandForKnown (Some false) rows stored in_flight = StandFor rows stored
StandForKnown (Some true) rows stored in_flight = StandForInFlight rows in_flight

abbrev pub StandForState : Rows → State → Type 0
StandForState rows s = StandForKnown s.found rows s.stored s.in_flight

-- where the keeper tells its rows, each map that a stop may leave stands for the state
abbrev pub LeavesState : {K D L : Type 0} → (K → Option Rows) → (K → Rows → Type 0) → View K D L → Type 0
LeavesState held may_leave view =
    IfSome (held view.keeper) (λ _. (left : Rows) → may_leave view.keeper left → StandForState left view.state)

-- rows stand for the ledger, without the change in flight or with it
abbrev pub StandOrInFlight : Rows → Ledger → Option Step → Type 0
StandOrInFlight rows ledger change = StandFor rows ledger
    ⊎ StandForInFlight rows (option_map (after_step ledger) change)

-- rows stand for the ledger, or where the store failed for the ledger without the change in flight or with it
abbrev pub StandForWritten : Rows → Ledger → Written → Type 0
StandForWritten rows ledger (Answered r) = StandFor rows ledger
StandForWritten rows ledger (Failed change) = StandOrInFlight rows ledger change
StandForWritten rows ledger Unfiled = StandFor rows ledger

-- the same of each map that a stop may leave
abbrev pub LeavesWritten :
    {K : Type 0} → (K → Option Rows) → (K → Rows → Type 0) → BooksView K → Written → Type 0
LeavesWritten held may_leave shelf written =
    IfSome (held shelf.keeper)
    (λ _. (left : Rows) → may_leave shelf.keeper left → StandForWritten left shelf.ledger written)

-- the store's count of faults has risen where the store failed, and else it stands still
abbrev pub HasCounted : Bool → ℕ → ℕ → Type 0
HasCounted true before now = (before ≤ now) × Rose before now
HasCounted false before now = now ≡ before

-- the store's fault is answered only where the count of faults has risen, and with any other answer it stands still
abbrev pub HasStoreCause : ℕ → ℕ → Reply → Type 0
HasStoreCause before now (reply.Refused refusal.StoreFault) = (before ≤ now) × Rose before now
HasStoreCause before now _ = now ≡ before

-- a call that is refused, but for a failure of the store or of the backup file, leaves what the keeper holds and what a
-- stop may leave of it, and so does one that tells a row
abbrev pub KeepsStore : {K : Type 0} → (K → Option Rows) → (K → Rows → Type 0) → K → K → Reply → Type 0
KeepsStore held may_leave old new (reply.Refused refusal.StoreFault) = Unit {0}
KeepsStore held may_leave old new (reply.Refused refusal.BackupFault) = Unit {0}
KeepsStore held may_leave old new (reply.Refused _) = (held new ≡ held old) × IsWithin (may_leave new) (may_leave old)
KeepsStore held may_leave old new (reply.Row text) = (held new ≡ held old) × IsWithin (may_leave new) (may_leave old)
KeepsStore held may_leave old new _ = Unit {0}
