-- A call that uses the store or the backup file, and what it leaves where one of them fails.
use Rattle.std.specs.Prelude.{◌≡◌, ℕ, ◌+◌, List, Option, Some, None, Ok, if◌then◌else◌}
use Rattle.std.specs.Option.{option_map}
use Rattle.enq_base.specs.declared.condition.Condition.{Condition}
use Rattle.enq_base.specs.declared.condition.Condition.TheVariants as condition
use Rattle.hall_calls.specs.declared.units.Failure.{Failure}
use Rattle.enq_base.specs.declared.refusal.Refusal.TheVariants as refusal
use Rattle.enq_base.specs.declared.unit.Num.{Num}
use Rattle.enq_base.specs.declared.owner.UnitKey.{UnitKey}
use Rattle.enq_base.specs.declared.unit.Status.TheVariants.{Bad}
use Rattle.lock_entry.specs.Granting.{readmitted}
use Rattle.lock_entry.specs.Table.{Table}
use Rattle.lock_entry.specs.declared.entry.Entry.{Entry}
use Rattle.ledger_steps.specs.Posts.{entries_of}
use Rattle.update_records.specs.Ledger.{Ledger}
use Rattle.update_records.specs.Marks.{status_of}
use Rattle.ledger_steps.specs.Drawn.{passed}
use Rattle.ledger_steps.specs.declared.range.NumberRange.{NumberRange}
use Rattle.hall_model.specs.declared.command.Command.{Command}
use Rattle.hall_model.specs.declared.command.Reply.{Reply}
use Rattle.hall_model.specs.declared.command.Reply.TheVariants as reply
use Rattle.hall_calls.specs.declared.units.Written.{Written}
use Rattle.hall_calls.specs.declared.units.Written.TheVariants.{Answered, Failed, Unfiled}
use Rattle.hall_model.specs.Calls.{call_of}
use Rattle.ledger_steps.specs.Steps.{after_step}
use Rattle.hall_model.specs.History.{doubted, unfiled, without_stock}
use Rattle.hall_model.specs.Sessions.{has_one_of, owners_of, with_marks}
use Rattle.hall_model.specs.State.{State, unhanded}
use Rattle.hall_model.specs.declared.command.Session.{Session}
use Rattle.hall_model.specs.Acts.{IsAct}
use Rattle.ledger_steps.specs.declared.part.Part.{Part}
use Rattle.ledger_steps.specs.Parts.{is_first}

-- the locks that a post leaves, of those before: with a V1 part some go, and a V2 part touches none
abbrev pub locks_posted : (part : Part) → (before now : List Entry) → List Entry
locks_posted part before now = if is_first part then now else before

-- a call that uses store and file leaves this state, or where one of them fails a server in doubt
abbrev pub IsWritten : State → Command → State → Written → Type 0
IsWritten s c after (Answered r) = IsAct s c after r
IsWritten s c after (Failed change) =
    IsAct s c (doubted (without_stock (call_of c) s) (call_of c) None (option_map (after_step s.stored) change))
    (reply.Refused refusal.StoreFault)
IsWritten s c after Unfiled = IsAct s c (unfiled s (call_of c) None after.stored) (reply.Refused refusal.BackupFault)

-- where the store fails, or the disk of the backup file
abbrev pub OnFailure : Written → Type 0 → Type 0
OnFailure (Answered r) P = Unit {0}
OnFailure (Failed change) P = P
OnFailure Unfiled P = P

-- where the store fails
abbrev pub OnStoreFailure : Written → Type 0 → Type 0
OnStoreFailure (Answered r) P = Unit {0}
OnStoreFailure (Failed change) P = P
OnStoreFailure Unfiled P = Unit {0}

-- memory goes behind the numbers of a stock that were recorded, or that the store may have where it failed
abbrev pub ranges_behind : List Num → List NumberRange → Written → List NumberRange
ranges_behind stock ranges (Answered (reply.Refused r)) = ranges
ranges_behind stock ranges (Answered r) = passed stock ranges
ranges_behind stock ranges (Failed change) = passed stock ranges
ranges_behind stock ranges Unfiled = ranges

abbrev pub OnAnswer : Written → Type 0 → Type 0
OnAnswer (Answered r) P = P
OnAnswer (Failed change) P = Unit {0}
OnAnswer Unfiled P = Unit {0}

-- what a call that uses the store or the file is answered, and what it leaves of the condition and of the change in
-- flight
abbrev pub written_reply : Written → Reply
written_reply (Answered r) = r
written_reply (Failed change) = reply.Refused refusal.StoreFault
written_reply Unfiled = reply.Refused refusal.BackupFault

-- the sessions where a device failed, each with its mark: it had a lock of its own in the table that stood, or where
-- none did any more it was marked before
abbrev pub marked_in : Condition → (start : ℕ) → List Entry → List Session → List Session
marked_in k start entries sessions =
    elim k [
      | condition.Up ↦ with_marks (has_one_of start (unhanded entries)) sessions
      | condition.NoServer ↦ sessions
      | condition.Doubt n ↦ sessions
    ]

-- the sessions behind a call
abbrev pub written_sessions : Condition → (start : ℕ) → List Entry → List Session → Written → List Session
written_sessions k start entries sessions (Answered r) = sessions
written_sessions k start entries sessions (Failed change) = marked_in k start entries sessions
written_sessions k start entries sessions Unfiled = marked_in k start entries sessions

abbrev pub written_condition : Condition → ℕ → Written → Condition
written_condition before calls (Answered r) = before
written_condition before calls (Failed change) = condition.Doubt (calls + 1)
written_condition before calls Unfiled = condition.Doubt (calls + 1)

-- the change in flight, and the session in whose call the device failed, if a session made it
abbrev pub written_failure : Failure → Option (List ℕ) → Written → Failure
written_failure before caller (Answered r) = before
written_failure before caller (Failed change) = record before { in_flight = change; caller = caller }
written_failure before caller Unfiled = record before { caller = caller }

-- the locks that are stored with a unit whose V1 part was refused stand again
pub record IsRegained (ledger : Ledger) (unit : UnitKey) (before : Table) (now : List Entry) : Type 0 where
  pub refused : status_of ledger.units ledger.marks unit ≡ Some Bad
  pub regained : readmitted before (owners_of unit) (entries_of ledger.units unit) ≡ Ok now
