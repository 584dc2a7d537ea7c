-- What becomes of a session's unit that is to be recorded, or of its numbers alone.
use Rattle.std.specs.Prelude.{◌≡◌, ◌≤◌, ◌+◌, ◌++◌, ℕ, Bool, false, List, length, nat_le, None, Some, IfErr, OnOk}
use Rattle.std.specs.Prelude.{Result}
use Rattle.backup_file.specs.declared.fault.WriteFault.{WriteFault}
use Rattle.backup_file.specs.declared.fault.WriteFault.TheVariants as write
use Rattle.update_records.specs.Marks.{status_of, unit_at}
use Rattle.hall_model.specs.Acts.{Admits, IsAct}
use Rattle.hall_model.specs.State.{State}
use Rattle.hall_model.specs.Step.{effects_in, handed_locks, unit_of}
use Rattle.hall_model.specs.declared.command.Command.TheVariants as command
use Rattle.enq_server.specs.Server.{Server, lasting}
use Rattle.enq_base.specs.declared.owner.UnitKey.{UnitKey}
use Rattle.enq_base.specs.declared.refusal.Refusal.TheVariants as refusal
use Rattle.enq_base.specs.declared.unit.Num.{Num as Number}
use Rattle.enq_base.specs.declared.unit.Parts.{Parts}
use Rattle.lock_entry.specs.declared.entry.Entry.{Entry}
use Rattle.lock_entry.specs.Freeing.{handed_over}
use Rattle.lock_entry.specs.Table.{IsTable, Table}
use Rattle.ledger_steps.specs.Drawn.{settled_rows}
use Rattle.ledger_steps.specs.declared.range.NumberRange.{NumberRange}
use Rattle.ledger_steps.specs.Intervals.{with_intervals}
use Rattle.update_records.specs.Growing.{with_mark, with_unit}
use Rattle.update_records.specs.Ledger.{Ledger}
use Rattle.update_records.specs.declared.records.MarkKind.TheVariants.{Num}
use Rattle.update_records.specs.declared.records.Unit.{Unit as UnitOfWork}
use Rattle.update_records.specs.declared.stored.StoredInterval.{StoredInterval}
use Rattle.hall_model.specs.declared.command.Reply.{Reply}
use Rattle.hall_model.specs.declared.command.Reply.TheVariants as reply
use Rattle.hall_model.specs.declared.command.Session.{Session}
use Rattle.ledger_steps.specs.declared.step.Step.TheVariants as step
use Rattle.hall_calls.specs.Filing.{FilesAs, HasFileCause, IsSaved}
use Rattle.hall_calls.specs.Leaving.{HasStoreCause}
use Rattle.hall_calls.specs.Written.{ranges_behind}
use Rattle.hall_calls.specs.declared.units.Change.{Change}
use Rattle.hall_calls.specs.declared.units.Change.TheVariants as change
use Rattle.hall_calls.specs.declared.units.Written.{Written}
use Rattle.hall_calls.specs.declared.units.Written.TheVariants.{Answered, Failed, Unfiled}
use Rattle.hall_model.specs.Sessions.{session_at, unit_key, with_next_unit, with_session, without_draws}

-- ---- what is to be recorded

-- the session is logged on and has something to record, with the numbers of a stock, and not too much of it; and the
-- store has room for one more mark
pub record IsCommitting (sessions : List Session) (ledger : Ledger) (limit : ℕ) (name : List ℕ) (parts : Parts)
    (stock : List Number) (x : Session) : Type 0 where
  pub found : session_at sessions name ≡ Some x
  pub few_numbers : length (x.draws ++ stock) ≤ 64
  pub few_effects : effects_in parts ≤ 200
  pub something : 1 ≤ effects_in parts + length (x.draws ++ stock)
  pub room : nat_le limit (length ledger.marks) ≡ false

-- a commit is answered so and records nothing
abbrev pub AnswersCommit : List Session → Ledger → (limit : ℕ) → (name : List ℕ) → Parts → List Number → Reply
    → Type 0
AnswersCommit sessions ledger limit name parts stock r =
    (s : State) (ranges : List NumberRange) (entries : List Entry)
    → s.sessions ≡ sessions → s.ranges ≡ ranges → s.locks ≡ entries → s.stored ≡ ledger → s.mark_limit ≡ limit
    → Admits s (command.Commit name parts stock)
    → IsAct s (command.Commit name parts stock)
    (record s {
      sessions = sessions;
      ranges = ranges_behind stock ranges (Answered r);
      locks = entries;
      stored = ledger;
    })
    r

-- an answer that tells of no failure
pub record TellsNoFault (r : Reply) : Type 0 where
  pub store : (n : ℕ) → HasStoreCause n n r
  pub file : (n : ℕ) → HasFileCause n n r

-- a session's numbers and those of a stock, alone or within its open unit, with the rows of their intervals
abbrev pub IsChange : Ledger → List NumberRange → Table → Session → Parts → List Number → Change → Type 0
IsChange ledger ranges table x parts stock (change.Numbers drawn) =
    (effects_in parts ≡ 0) × (drawn.unit ≡ unit_key ledger.start x) × (drawn.numbers ≡ x.draws ++ stock)
    × (drawn.levels ≡ settled_rows ledger.levels ranges (x.draws ++ stock))
IsChange ledger ranges table x parts stock (change.Unit made) =
    (1 ≤ effects_in parts) × (made.unit ≡ unit_of ledger.start table.entries x parts (x.draws ++ stock))
    × (made.levels ≡ settled_rows ledger.levels ranges (x.draws ++ stock)) × IsTable table

-- ---- what is recorded

-- the unit that a commit records: it is new, and has the locks that stand for it, under its user
pub record IsOfCommit (ledger : Ledger) (unit : UnitOfWork) (locks : List Entry) : Type 0 where
  pub fresh : status_of ledger.units ledger.marks unit.key ≡ None
  pub new : unit_at ledger.units unit.key ≡ None
  pub entries : unit.entries ≡ handed_locks unit.user locks unit.key

-- The unit is recorded with these levels, its locks are handed over and the session's next unit is open; or memory was
-- wanting and all is as before; or the store failed with it in flight; or the disk failed as its list was written.
abbrev pub RecordsUnit : (old new : List Session) (entries left : List Entry) (ledger now : Ledger) (name : List ℕ)
    → UnitOfWork → List StoredInterval → Written → Type 0
RecordsUnit old new entries left ledger now name unit levels (Answered (reply.Unit key)) =
    (key ≡ unit.key) × (new ≡ with_session name with_next_unit old) × (left ≡ handed_over entries key)
    × (now ≡ with_intervals levels (with_unit ledger unit))
RecordsUnit old new entries left ledger now name unit levels (Answered (reply.Refused refusal.NoMemory)) =
    (new ≡ old) × (left ≡ entries) × (now ≡ ledger)
RecordsUnit old new entries left ledger now name unit levels (Failed (Some (step.Record recorded rows))) =
    (recorded ≡ unit) × (rows ≡ levels)
RecordsUnit old new entries left ledger now name unit levels Unfiled =
    (now ≡ ledger) × (1 ≤ length (lasting unit.key entries))
RecordsUnit old new entries left ledger now name unit levels _ = ⊥

-- the same of numbers alone, which the session then has no more
abbrev pub RecordsNumbers : (old new : List Session) (ledger now : Ledger) (name : List ℕ) → UnitKey → List Number
    → List StoredInterval → Written → Type 0
RecordsNumbers old new ledger now name unit numbers levels (Answered reply.Done) =
    (new ≡ with_session name without_draws old) × (now ≡ with_intervals levels (with_mark ledger unit (Num numbers)))
RecordsNumbers old new ledger now name unit numbers levels (Answered (reply.Refused refusal.NoMemory)) =
    (new ≡ old) × (now ≡ ledger)
RecordsNumbers old new ledger now name unit numbers levels (Failed (Some (step.Draw key drawn rows))) =
    (key ≡ unit) × (drawn ≡ numbers) × (rows ≡ levels)
RecordsNumbers old new ledger now name unit numbers levels _ = ⊥

-- how a call ends whose unit isn't written into the backup file
abbrev pub unsaved : WriteFault → Written
unsaved write.NoMemory = Answered (reply.Refused refusal.NoMemory)
unsaved write.Failed = Unfiled

-- the file has the list of a unit that is about to be recorded; or memory was wanting, or the disk failed in writing it
pub record SavesList {T D L : Type 0} (tells : Bool) (reads : D → List ℕ) (may_leave : D → List ℕ → Type 0)
    (faults : D → ℕ) (ledger : Ledger) (unit : UnitOfWork) (levels : List StoredInterval) (old new : Server D L)
    (result : Result T WriteFault) : Type 0 where
  pub saved : OnOk result
      (IsSaved tells reads may_leave ledger (with_intervals levels (with_unit ledger unit)) new.file)
  pub quiet : OnOk result (faults new.file.disk ≡ faults old.file.disk)
  pub ends : IfErr result (λ f. FilesAs tells reads may_leave faults ledger old.file new.file (unsaved f))
  pub needed : IfErr result (λ f. f ≡ write.Failed → 1 ≤ length (lasting unit.key old.table.entries))
  pub stands : new.stands ≡ old.stands
  pub table : new.table ≡ old.table
  pub replica : new.replica ≡ old.replica
