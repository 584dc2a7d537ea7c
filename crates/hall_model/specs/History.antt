-- A call with what the devices did in it, and the history that calls make.
use Rattle.std.specs.Prelude.{◌≡◌, ◌⊎◌, ℕ, ◌+◌, ◌&&◌, not, Bool, true, false, if◌then◌else◌, List, [], ◌∷◌, ◌++◌}
use Rattle.std.specs.Prelude.{length, Option, Some, None, IsTrue}
use Rattle.enq_base.specs.declared.condition.Condition.TheVariants as condition
use Rattle.enq_base.specs.declared.refusal.Refusal.{Refusal}
use Rattle.enq_base.specs.declared.refusal.Refusal.TheVariants as refusal
use Rattle.enq_server.specs.Server.{replicated}
use Rattle.hall_model.specs.declared.command.After.{After}
use Rattle.hall_model.specs.declared.command.Command.{Command}
use Rattle.hall_model.specs.declared.command.PastEntry.{PastEntry}
use Rattle.hall_model.specs.declared.command.Reply.{Reply}
use Rattle.hall_model.specs.declared.command.Reply.TheVariants as reply
use Rattle.hall_model.specs.declared.command.Session.{Session}
use Rattle.hall_model.specs.Calls.{Call, OfSession, Commits, call_of, only_reads, who_of}
use Rattle.hall_model.specs.Calls.{writes_store_first}
use Rattle.hall_model.specs.Devices.{DeviceOutcome, Event, AllWell, Wanting, StoreFails, BackupFails, LinkFails}
use Rattle.hall_model.specs.Devices.{NotRemade, IsAllowed, fault_told, found_by, Reading, AsKnown, Shows}
use Rattle.hall_model.specs.Devices.{Reopens, Hands}
use Rattle.hall_model.specs.Numbers.{stocked}
use Rattle.hall_model.specs.Sessions.{with_marks}
use Rattle.hall_model.specs.State.{State}
use Rattle.hall_model.specs.Step.{Verdict, Refuses, Leaves, call_verdict, detached, has_lock}
use Rattle.update_records.specs.Ledger.{Ledger}

-- the state after a call, and the answer
pub record Served : Type 0 where
  pub state : State
  pub reply : Reply

abbrev pub refused : State → Refusal → Served
refused s r = record { state = s; reply = reply.Refused r }

-- a call that the devices did well
abbrev pub judged : State → Verdict → Served
judged s (Refuses r) = refused s r
judged s (Leaves after r) = record { state = after; reply = r }

-- where the replica was lost in the call it follows no more
abbrev pub losing : Bool → Served → Served
losing lost done = record done { state = record done.state { attached = not lost && done.state.attached } }

-- a session had a lock in the table, or where there was none any more was marked before
abbrev pub had_lock : State → Session → Bool
had_lock s x =
    elim s.condition [
      | condition.Up ↦ has_lock s x
      | condition.NoServer ↦ x.marked
      | condition.Doubt k ↦ x.marked
    ]

-- the session that makes this call; any other call leaves the one before
abbrev pub caller_behind : Option (List ℕ) → Call → Option (List ℕ)
caller_behind before (OfSession session call) = Some session
caller_behind before call = before

-- what was read, or else what was known before
abbrev pub known_behind : Option Bool → Option Bool → Option Bool
known_behind before None = before
known_behind before (Some taken) = Some taken

-- In doubt since this call, whose place in the history it has. The table and the replica are gone, each session that
-- had a lock is marked, and the store may have what is in flight, unless the call has read which it is.
abbrev pub doubted : State → Call → Option Bool → Option Ledger → State
doubted s call read in_flight =
    record s {
      condition = condition.Doubt (length s.past + 1);
      sessions = with_marks (had_lock s) s.sessions;
      locks = [];
      limit = (replicated s.max_locks []).limit;
      attached = false;
      failed_caller = caller_behind s.failed_caller call;
      in_flight = in_flight;
      found = known_behind s.found read;
    }

-- numbers of a stock that were about to be recorded aren't handed out again
abbrev pub without_stock : Call → State → State
without_stock (OfSession session (Commits parts stock)) s = stocked stock s
without_stock call s = s

-- what the store may have where it fails: the change that the call makes, or where it makes none what was in flight
-- before
abbrev pub in_flight_after : State → Call → Verdict → Option Ledger
in_flight_after s call (Refuses r) = s.in_flight
in_flight_after s call (Leaves after r) = if only_reads call then s.in_flight else Some after.stored

-- the disk failed: the mark of a post or of a cancelling stands already, and of any other call there is none
abbrev pub unfiled : State → Call → Option Bool → Ledger → State
unfiled s call read stored = record (doubted s call read s.in_flight) { stored = stored }

abbrev pub stored_before_file : State → Call → Verdict → Ledger
stored_before_file s call (Refuses r) = s.stored
stored_before_file s call (Leaves after r) = if writes_store_first call then after.stored else s.stored

-- what a restart has read of the change in flight
abbrev pub read_anew : Reading → Option Bool
read_anew (Reopens taken) = Some taken
read_anew reading = None

-- a call's end, by what went wrong, what was read, and what the call comes to
abbrev pub ends_in : Event → Reading → State → Call → Verdict → Served
ends_in AllWell reading s call v = judged s v
ends_in Wanting reading s call v = refused s refusal.NoMemory
ends_in StoreFails reading s call v =
    refused (doubted (without_stock call s) call None (in_flight_after s call v)) refusal.StoreFault
ends_in BackupFails reading s call v = refused (unfiled s call (read_anew reading) (stored_before_file s call v))
    refusal.BackupFault
ends_in LinkFails reading s call v = refused (detached s) refusal.LinkFault
ends_in (NotRemade fault) reading s call v = refused (doubted s call (read_anew reading) s.in_flight) (fault_told fault)

abbrev pub served : DeviceOutcome → State → Command → Served
served o s c = losing o.lost
    (ends_in o.event o.reading s (call_of c) (call_verdict (found_by o.reading s) s (call_of c)))

-- a call that finds the history full is not in it, nor is one that finds no unit to take
abbrev pub is_unrecorded : Reply → Bool
is_unrecorded (reply.Refused refusal.LogFull) = true
is_unrecorded (reply.Refused refusal.Idle) = true
is_unrecorded _ = false

-- an answer with the text of a row
abbrev pub is_row : Reply → Bool
is_row (reply.Row (Some text)) = true
is_row _ = false

-- the answer as it is given: a text that can't be told twice, to the caller and to the history, is told to neither
abbrev pub IsGiven : Reply → Reply → Type 0
IsGiven made given = (given ≡ made) ⊎ (IsTrue (is_row made) × (given ≡ reply.Refused refusal.NoMemory))

-- a restart has found the change in flight in the store
abbrev pub finds_flight : Reading → Bool
finds_flight AsKnown = false
finds_flight (Shows text) = false
finds_flight (Reopens taken) = taken
finds_flight (Hands list) = false

-- and was done
abbrev pub takes_flight : DeviceOutcome → Bool
takes_flight o = elim o.event [
  | AllWell ↦ finds_flight o.reading
  | Wanting ↦ false
  | StoreFails ↦ false
  | BackupFails ↦ false
  | LinkFails ↦ false
  | NotRemade fault ↦ false
]

-- what stands after a call
abbrev pub after_of : Bool → State → After
after_of taken s = record { condition = s.condition; attached = s.attached; taken = taken }

-- what the history keeps of a call
abbrev pub entry_of : ℕ → Command → Reply → After → PastEntry
entry_of line c r after = record { who = who_of c; line = line; command = c; reply = r; after = after }

abbrev pub past_entry : ℕ → Command → Bool → Served → PastEntry
past_entry line c taken r = entry_of line c r.reply (after_of taken r.state)

-- the call goes last into the history
abbrev pub with_entry : ℕ → Command → Bool → Served → State
with_entry line c taken r = record r.state { past = r.state.past ++ past_entry line c taken r ∷ [] }

abbrev pub noted : ℕ → Command → Bool → Served → Served
noted line c taken r = if is_unrecorded r.reply then r else record r { state = with_entry line c taken r }

-- one call, of this line of the script
abbrev pub step : DeviceOutcome → State → ℕ → Command → Served
step o s line c = noted line c (takes_flight o) (served o s c)

-- the state and the answer after a call are those of a step, with some outcome that may be
pub record IsStep (old new : State) (line : ℕ) (c : Command) (r : Reply) : Type 0 where
  pub outcome : DeviceOutcome
  pub allowed : IsAllowed outcome old c
  pub same : record { state = new; reply = r } ≡ step outcome old line c
