-- What a command does to the state, and what it is answered.
use Rattle.std.specs.Prelude.{ℕ, ◌+◌, Bool, true, false, not, ◌&&◌, ◌||◌, nat_eq, nat_le, nat_lt, if◌then◌else◌, List}
use Rattle.std.specs.Prelude.{[], ◌∷◌, ◌++◌, length, fold, map, replicate, Option, Some, None, is_some, Result, Ok, Err}
use Rattle.std.specs.FinMap.{get}
use Rattle.std.specs.List.{filter, list_all}
use Rattle.enq_base.specs.declared.condition.Bad.TheVariants as bad
use Rattle.enq_base.specs.declared.condition.Condition.{Condition}
use Rattle.enq_base.specs.declared.condition.Condition.TheVariants as condition
use Rattle.enq_base.specs.declared.owner.Owner.TheVariants.{Upd}
use Rattle.enq_base.specs.declared.owner.UnitKey.{UnitKey}
use Rattle.enq_base.specs.declared.unit.Num.{Num}
use Rattle.enq_base.specs.declared.unit.Parts.{Parts}
use Rattle.enq_base.specs.declared.unit.Status.{Status}
use Rattle.enq_base.specs.declared.unit.Status.TheVariants.{Open, Bad, Bad2}
use Rattle.enq_base.specs.declared.refusal.Refusal.{Refusal}
use Rattle.enq_base.specs.declared.refusal.Refusal.TheVariants as refusal
use Rattle.enq_server.specs.Server.{of_user, recovered, replicated}
use Rattle.enq_server.specs.declared.fault.ServerFault.{ServerFault}
use Rattle.enq_server.specs.declared.fault.ServerFault.TheVariants as server
use Rattle.lock_entry.specs.declared.fault.AskFault.{AskFault}
use Rattle.lock_entry.specs.declared.fault.AskFault.TheVariants as fault
use Rattle.lock_entry.specs.declared.entry.Entry.{Entry}
use Rattle.lock_entry.specs.declared.entry.Request.{Request}
use Rattle.lock_entry.specs.Granting.{asked, readmitted}
use Rattle.lock_entry.specs.Converting.{Conversion, converted}
use Rattle.lock_entry.specs.Freeing.{freed, freed_owner, handed_over}
use Rattle.lock_entry.specs.Names.{halves, has_distinct_names, is_of}
use Rattle.lock_entry.specs.Sound.{first_clash, has_count, has_no_conflict}
use Rattle.lock_entry.specs.Table.{Table}
use Rattle.update_records.specs.Business.{tables_of}
use Rattle.update_records.specs.Growing.{with_mark, with_unit}
use Rattle.update_records.specs.Ledger.{Ledger}
use Rattle.update_records.specs.Marks.{status_of}
use Rattle.update_records.specs.declared.records.MarkKind.{MarkKind}
use Rattle.update_records.specs.declared.records.MarkKind.TheVariants as mark
use Rattle.update_records.specs.declared.records.MarkKind.TheVariants.{Again1, Again2, Gone}
use Rattle.update_records.specs.declared.records.Unit.{Unit as UnitOfWork}
use Rattle.hall_model.specs.declared.command.Command.{Command}
use Rattle.hall_model.specs.declared.command.Reply.{Reply}
use Rattle.hall_model.specs.declared.command.Reply.TheVariants as reply
use Rattle.hall_model.specs.declared.command.Session.{Session}
use Rattle.number_ranges.specs.Intervals.{block_level, code_of, is_buffered}
use Rattle.number_ranges.specs.declared.interval.Interval.{Interval}
use Rattle.ledger_steps.specs.Posts.{entries_of, kind_for}
use Rattle.ledger_steps.specs.Levels.{present, range_at}
use Rattle.ledger_steps.specs.declared.range.NumberRange.{NumberRange}
use Rattle.ledger_steps.specs.Steps.{waiting_for}
use Rattle.ledger_steps.specs.Views.{open_locks}
use Rattle.ledger_steps.specs.declared.step.Outcome.{Outcome}
use Rattle.ledger_steps.specs.declared.step.Outcome.TheVariants as outcome
use Rattle.hall_model.specs.Calls.{Call, LogsOn, OfSession, OfWorker, OfAdmin, AdminCall, Kills, FailsOver, Restarts}
use Rattle.hall_model.specs.Calls.{Attaches, Cancels, Resubmits, WorkerCall, Takes, Posts, Drops, SessionCall, LogsOff}
use Rattle.hall_model.specs.Calls.{Asks, Frees, FreesAll, Converts, Draws, Reserves, Reads, Commits, RollsBack, call_of}
use Rattle.hall_model.specs.Calls.{ends_unit, restarts, wants_server}
use Rattle.hall_model.specs.Coming.{outcome_in}
use Rattle.hall_model.specs.Orders.{order_for, order_of, with_order, without_order, first_unclaimed, worker_of}
use Rattle.hall_model.specs.Numbers.{drawn, next_number, other_holder, raised_to, stocked, with_numbers}
use Rattle.hall_model.specs.Sessions.{begun, bereft_if, has_one_of, session_at, with_marks, with_session}
use Rattle.hall_model.specs.Sessions.{without_draws, without_marks, without_session}
use Rattle.hall_model.specs.Sessions.{with_fresh_unit, with_next_unit, owners_of, pair_of, unit_key}
use Rattle.hall_model.specs.State.{State, table_for, unhanded}
use Rattle.ledger_steps.specs.Parts.{is_first}
use Rattle.ledger_steps.specs.declared.part.Part.{Part}

abbrev pub answer_of : Result Unit Refusal → Reply
answer_of (Ok done) = reply.Done
answer_of (Err r) = reply.Refused r

-- what a call comes to where the devices do well and memory suffices
pub data Verdict : Type 0 where
  Refuses : Refusal → Verdict
  Leaves : State → Reply → Verdict

abbrev pub leaves : Verdict → Bool
leaves (Refuses r) = false
leaves (Leaves s r) = true

abbrev pub unless_refused : Option Refusal → Verdict → Verdict
unless_refused None v = v
unless_refused (Some r) v = Refuses r

-- What a part of a unit comes to in the rows, and what the devices give where a call reads them: the text of a row,
-- where a restart read the store anew, whether the change in flight is in it, and the list that the link handed over.
pub record Found : Type 0 where
  pub part : Part → UnitKey → Outcome
  pub row : List ℕ → List ℕ → Option (List ℕ)
  pub anew : Option Bool
  pub list : List Entry

-- ---- by a session

-- the session goes last, with the next number and its first unit
abbrev pub entered : State → List ℕ → List ℕ → State
entered s name user =
    record s {
      sessions = s.sessions ++ begun name user s.next_session ∷ [];
      next_session = s.next_session + 1;
    }

abbrev pub logon : State → List ℕ → List ℕ → Verdict
logon s name user =
    if is_some (session_at s.sessions name) then Refuses refusal.SessionExists
    else if nat_le 1024 (length s.sessions) then Refuses refusal.SessionsFull
    else Leaves (entered s name user) reply.Done

-- the locks of the session's two owners go; those of its committed units have other owners
abbrev pub freed_all : State → Session → State
freed_all s x =
    let pair = pair_of s.stored.start x in
    record s { locks = freed_owner (freed_owner s.locks pair.dialogue) pair.update }

-- the session goes, and with it the locks of its two owners and what it has drawn
abbrev pub logged_off : State → Session → State
logged_off s x = record (freed_all s x) { sessions = without_session x.name s.sessions }

-- the locks of the open unit go, what it has drawn is given back, and the next unit is open
abbrev pub rolled_back : State → Session → State
rolled_back s x =
    record s {
      sessions = with_session x.name with_fresh_unit s.sessions;
      locks = freed_owner s.locks (pair_of s.stored.start x).update;
    }

-- the lock that stands in the way
abbrev pub foreign : Entry → Refusal
foreign e = refusal.ForeignLock e.owner e.user e.table e.pattern

abbrev pub ask_refusal : AskFault → Refusal
ask_refusal (fault.Foreign e) = foreign e
ask_refusal (fault.Full used limit) = refusal.LockTableFull used limit
ask_refusal fault.Count = refusal.CountFull
ask_refusal fault.Lost = refusal.OptimisticLost
ask_refusal fault.NoMemory = refusal.NoMemory

-- the same of the lock server's; only what writes the backup file can fail
abbrev pub fault_refusal : ServerFault → Refusal
fault_refusal (server.Ask f) = ask_refusal f
fault_refusal server.Failed = refusal.BackupFault
fault_refusal server.NoMemory = refusal.NoMemory

abbrev pub granting : State → Result (List Entry) AskFault → Verdict
granting s (Ok locks) = Leaves (record s { locks = locks }) reply.Done
granting s (Err f) = Refuses (ask_refusal f)

abbrev pub converting : State → Result Conversion AskFault → Verdict
converting s (Ok c) = Leaves (record s { locks = c.entries }) reply.Done
converting s (Err f) = Refuses (ask_refusal f)

-- one is taken from each lock that a half of a request names
abbrev pub lowered : State → Session → List Request → State
lowered s x requests = record s { locks = fold freed s.locks (halves (pair_of s.stored.start x) requests) }

abbrev pub effects_in : Parts → ℕ
effects_in parts = length parts.v1 + length parts.v2

-- The locks of a unit as they are stored with it: handed over to the update, without the optimistic ones, with the user
-- of the session.
abbrev pub handed_locks : List ℕ → List Entry → UnitKey → List Entry
handed_locks user locks unit = of_user user (filter (is_of (Upd unit)) (handed_over locks unit))

-- the unit that a commit records
abbrev pub unit_of : ℕ → List Entry → Session → Parts → List Num → UnitOfWork
unit_of start locks x parts numbers =
    let key = unit_key start x in
    record { key = key; user = x.user; numbers = numbers; parts = parts; entries = handed_locks x.user locks key }

-- the unit is recorded with its numbers, its locks are handed over to the update, and the session's next unit is open
abbrev pub committed : State → Session → Parts → List Num → State
committed s x parts numbers =
    record s {
      sessions = with_session x.name with_next_unit s.sessions;
      locks = handed_over s.locks (unit_key s.stored.start x);
      stored = with_numbers s numbers (with_unit s.stored (unit_of s.stored.start s.locks x parts numbers));
    }

-- numbers are recorded alone, and the same unit stays open
abbrev pub numbered : State → Session → List Num → State
numbered s x numbers =
    record s {
      sessions = with_session x.name without_draws s.sessions;
      stored = with_numbers s numbers (with_mark s.stored (unit_key s.stored.start x) (mark.Num numbers));
    }

-- where the store has room for the mark that a call adds
abbrev pub with_room : State → Verdict → Verdict
with_room s v = if nat_le s.mark_limit (length s.stored.marks) then Refuses (refusal.StoreFull s.mark_limit) else v

-- what there is to record: a unit, or numbers alone
abbrev pub recording : State → Session → Parts → List Num → Verdict
recording s x parts numbers =
    if nat_eq (effects_in parts) 0 then Leaves (numbered s x numbers) reply.Done
    else Leaves (committed s x parts numbers) (reply.Unit (unit_key s.stored.start x))

-- with at most 200 effects and 64 numbers; with neither nothing changes
abbrev pub committing : State → Session → Parts → List Num → Verdict
committing s x parts numbers =
    if nat_lt 64 (length numbers) || nat_lt 200 (effects_in parts) then Refuses refusal.UnitTooLarge
    else if nat_eq (effects_in parts) 0 && nat_eq (length numbers) 0 then Leaves s reply.Done
    else with_room s (recording s x parts numbers)

-- of a commit that is done memory hands out what is behind the numbers of its stock
abbrev pub passing : List Num → Verdict → Verdict
passing stock (Refuses r) = Refuses r
passing stock (Leaves after r) = Leaves (stocked stock after) r

-- with the numbers that the session has drawn, and behind them those of a stock
abbrev pub commit : State → Session → Parts → List Num → Verdict
commit s x parts stock = passing stock (committing s x parts (x.draws ++ stock))

-- ---- numbers

-- a number up to the interval's end
abbrev pub giving : State → Session → Interval → ℕ → Verdict
giving s x i number =
    if nat_lt i.to number then Refuses (refusal.IntervalOverflow i.to)
    else Leaves (drawn s x i number) (reply.Number number (code_of i number))

-- where no other session holds the interval
abbrev pub drawing : State → Session → NumberRange → Interval → Verdict
drawing s x r i =
    if nat_le 64 (length x.draws) then Refuses refusal.UnitTooLarge
    else elim (other_holder s.sessions x.name i) [
      | Some y ↦ Refuses (refusal.IntervalBusy y.name)
      | None ↦ giving s x i (next_number r i x)
    ]

abbrev pub draw : State → Session → List ℕ → List ℕ → Verdict
draw s x object nr =
    elim (range_at s.ranges object nr) [
      | None ↦ Refuses refusal.IntervalNotFound
      | Some r ↦ drawing s x r (present s.stored.levels r.interval)
    ]

-- the numbers up to this one are reserved, in whole blocks
abbrev pub reserving : State → Interval → ℕ → Verdict
reserving s i upto =
    if not (is_buffered i) then Refuses refusal.IntervalNotFound
    else if nat_lt i.to upto then Refuses (refusal.IntervalOverflow i.to)
    else Leaves (record s { stored = raised_to i upto s.stored }) (reply.Level (block_level i upto))

abbrev pub reserve : State → List ℕ → List ℕ → ℕ → Verdict
reserve s object nr upto =
    elim (range_at s.ranges object nr) [
      | None ↦ Refuses refusal.IntervalNotFound
      | Some r ↦ reserving s (present s.stored.levels r.interval) upto
    ]

-- a call of a session that is logged on
abbrev pub session_call : Found → State → Session → SessionCall → Verdict
session_call found s x LogsOff = Leaves (logged_off s x) reply.Done
session_call found s x (Asks requests) =
    granting s (asked (record { entries = s.locks; limit = s.limit }) (pair_of s.stored.start x) x.user requests)
session_call found s x (Frees requests) = Leaves (lowered s x requests) reply.Done
session_call found s x FreesAll = Leaves (freed_all s x) reply.Done
session_call found s x (Converts asked) = converting s (converted s.locks (pair_of s.stored.start x) asked)
session_call found s x (Draws object nr) = draw s x object nr
session_call found s x (Reserves object nr upto) = reserve s object nr upto
session_call found s x (Reads table key) = Leaves s (reply.Row (found.row table key))
session_call found s x (Commits parts stock) = commit s x parts stock
session_call found s x RollsBack = Leaves (rolled_back s x) reply.Done

-- a call of a session, where it is logged on
abbrev pub called : Found → State → SessionCall → Option Session → Verdict
called found s call None = Refuses refusal.UnknownSession
called found s call (Some x) = session_call found s x call

-- ---- by a worker

-- the worker has an order for this unit
abbrev pub taken : State → ℕ → UnitKey → State
taken s worker unit = record s { orders = with_order s.orders worker unit }

-- the order for a unit, of those that wait for a part the oldest that no worker has an order for
abbrev pub taking : State → ℕ → Option UnitKey → Verdict
taking s worker None = Refuses refusal.Idle
taking s worker (Some unit) = Leaves (taken s worker unit) (reply.Unit unit)

-- a worker has at most one order, for either part
abbrev pub take : Part → State → ℕ → Verdict
take part s worker = elim (order_of s.orders worker) [
  | Some unit ↦ Refuses (refusal.WorkerBusy unit)
  | None ↦ taking s worker (first_unclaimed s.orders (waiting_for part s.stored))
]

-- with the V1 part of a unit its locks go; the V2 part touches none
abbrev pub locks_behind : Part → List Entry → UnitKey → List Entry
locks_behind part locks unit = if is_first part then freed_owner locks (Upd unit) else locks

-- the unit has one mark more, and with its V1 part no locks; the order goes
abbrev pub marked : Part → State → ℕ → UnitKey → MarkKind → State
marked part s worker unit kind =
    record s {
      orders = without_order s.orders worker;
      locks = locks_behind part s.locks unit;
      stored = with_mark s.stored unit kind;
    }

abbrev pub posted_reply : Part → UnitKey → Outcome → Reply
posted_reply part unit outcome.Done = if is_first part then reply.Posted unit else reply.Closed unit
posted_reply part unit (outcome.Refused index reason) =
    if is_first part then reply.Bad unit index reason else reply.Bad2 unit index reason

-- the part is posted, or its refusal is recorded
abbrev pub posting : Part → State → ℕ → UnitKey → Outcome → Verdict
posting part s worker unit outcome =
    Leaves (marked part s worker unit (kind_for part outcome)) (posted_reply part unit outcome)

-- a call of a worker that has an order
abbrev pub with_order_of : State → ℕ → (UnitKey → Verdict) → Verdict
with_order_of s worker act =
    elim (order_of s.orders worker) [ None ↦ Refuses refusal.NoOrder | Some unit ↦ act unit ]

-- a call of a worker that has an order for a unit which waits for this part
abbrev pub with_order_for : Part → State → ℕ → (UnitKey → Verdict) → Verdict
with_order_for part s worker act =
    elim (order_for part s.stored s.orders worker) [ None ↦ Refuses refusal.NoOrder | Some unit ↦ act unit ]

-- by what the part of a unit comes to
abbrev pub post : Part → (Part → UnitKey → Outcome) → State → ℕ → Verdict
post part come s worker =
    with_order_for part s worker (λ unit. with_room s (posting part s worker unit (come part unit)))

abbrev pub drop_order : State → ℕ → Verdict
drop_order s worker =
    with_order_of s worker (λ unit. Leaves (record s { orders = without_order s.orders worker }) (reply.Unit unit))

abbrev pub worker_call : Found → State → ℕ → WorkerCall → Verdict
worker_call found s worker (Takes part) = take part s worker
worker_call found s worker (Posts part) = post part found.part s worker
worker_call found s worker Drops = drop_order s worker

-- ---- by an administrator

-- a unit that can be cancelled waits for its V1 part, or one of its parts was refused
abbrev pub may_cancel : Status → Bool
may_cancel Open = true
may_cancel Bad = true
may_cancel Bad2 = true
may_cancel status = false

-- a unit of which a part was refused can be tried again
abbrev pub may_resubmit : Status → Bool
may_resubmit Bad = true
may_resubmit Bad2 = true
may_resubmit status = false

-- a unit of another status is refused
abbrev pub if_status : (Status → Bool) → UnitKey → Status → Result Status Refusal → Result Status Refusal
if_status may unit status next = if may status then next else Err (refusal.WrongStatus unit status)

-- a unit that a worker has an order for stays
abbrev pub if_unclaimed : Option ℕ → Result Status Refusal → Result Status Refusal
if_unclaimed None next = next
if_unclaimed (Some worker) next = Err (refusal.UnitClaimed worker)

-- where the store has room for one more mark
abbrev pub if_room : Ledger → ℕ → Status → Result Status Refusal
if_room ledger limit status = if nat_le limit (length ledger.marks) then Err (refusal.StoreFull limit) else Ok status

-- the status of a unit that can be cancelled, or why it can't be
abbrev pub to_cancel : Ledger → List (Option UnitKey) → ℕ → UnitKey → Result Status Refusal
to_cancel ledger orders limit unit =
    elim (status_of ledger.units ledger.marks unit) [
      | None ↦ Err refusal.UnknownUnit
      | Some status ↦ if_status may_cancel unit status
          (if_unclaimed (worker_of orders unit) (if_room ledger limit status))
    ]

-- the locks of a unit that waited for its V1 part go; any other has none
abbrev pub locks_without : Status → List Entry → UnitKey → List Entry
locks_without Open locks unit = freed_owner locks (Upd unit)
locks_without status locks unit = locks

-- the unit has one mark more, by which neither part is offered again
abbrev pub cancelled : State → UnitKey → Status → State
cancelled s unit status =
    record s { locks = locks_without status s.locks unit; stored = with_mark s.stored unit Gone }

abbrev pub cancelling : State → UnitKey → Result Status Refusal → Verdict
cancelling s unit (Ok status) = Leaves (cancelled s unit status) (reply.Unit unit)
cancelling s unit (Err r) = Refuses r

abbrev pub cancel : State → UnitKey → Verdict
cancel s unit = cancelling s unit (to_cancel s.stored s.orders s.mark_limit unit)

-- the status of a unit that can be tried again, or why it can't be
abbrev pub to_resubmit : Ledger → ℕ → UnitKey → Result Status Refusal
to_resubmit ledger limit unit =
    elim (status_of ledger.units ledger.marks unit) [
      | None ↦ Err refusal.UnknownUnit
      | Some status ↦ if_status may_resubmit unit status (if_room ledger limit status)
    ]

-- the V1 part waits again, with these locks
abbrev pub reopened : State → UnitKey → List Entry → State
reopened s unit locks = record s { locks = locks; stored = with_mark s.stored unit Again1 }

-- it does once the unit's stored locks stand again, all or none
abbrev pub reopening : State → UnitKey → Result (List Entry) AskFault → Verdict
reopening s unit (Ok locks) = Leaves (reopened s unit locks) (reply.Unit unit)
reopening s unit (Err f) = Refuses (ask_refusal f)

-- the V2 part waits again; it has no locks
abbrev pub reposted : State → UnitKey → State
reposted s unit = record s { stored = with_mark s.stored unit Again2 }

-- the part that was refused is tried again
abbrev pub trying_again : State → UnitKey → Status → Verdict
trying_again s unit Bad =
    reopening s unit
    (readmitted (record { entries = s.locks; limit = s.limit }) (owners_of unit) (entries_of s.stored.units unit))
trying_again s unit status = Leaves (reposted s unit) (reply.Unit unit)

abbrev pub resubmitting : State → UnitKey → Result Status Refusal → Verdict
resubmitting s unit (Ok status) = trying_again s unit status
resubmitting s unit (Err r) = Refuses r

abbrev pub resubmit : State → UnitKey → Verdict
resubmit s unit = resubmitting s unit (to_resubmit s.stored s.mark_limit unit)

-- the session has a lock in the table that wasn't handed over to the update
abbrev pub has_lock : State → Session → Bool
has_lock s x = has_one_of s.stored.start (unhanded s.locks) x

-- what is known of the replica's list
abbrev pub replica_list : State → List Entry
replica_list s = if s.attached && s.link_told then s.locks else []

-- the table is gone, and each session that had a lock of its own in it is marked
abbrev pub killed : State → State
killed s =
    record s {
      condition = condition.NoServer;
      sessions = with_marks (has_lock s) s.sessions;
      locks = replica_list s;
      limit = (replicated s.max_locks (replica_list s)).limit;
    }

-- no replica follows any more; where there is no lock server, its list is gone too
abbrev pub detached : State → State
detached s =
    record s {
      attached = false;
      locks = (table_for s.condition s.max_locks (record { entries = s.locks; limit = s.limit }) []).entries;
      limit = (table_for s.condition s.max_locks (record { entries = s.locks; limit = s.limit }) []).limit;
    }

-- the table of the replica's list; the sessions keep what they had, and no replica follows any more
abbrev pub followed_over : List Entry → State → State
followed_over list s =
    record s {
      condition = condition.Up;
      sessions = without_marks s.sessions;
      locks = (replicated s.max_locks list).entries;
      limit = (replicated s.max_locks list).limit;
      taken_over = true;
      attached = false;
    }

-- a list that doesn't become the table, by these two places; no replica follows any more
abbrev pub not_over : State → ℕ → ℕ → Verdict
not_over s first second = Leaves (detached s) (reply.Refused (refusal.Unsound (bad.Replica first second)))

-- by the first two locks that exclude each other
abbrev pub clashing : State → Option (ℕ × ℕ) → Verdict
clashing s None = not_over s 0 0
clashing s (Some places) = not_over s places.0 places.1

-- the locks may stand together
abbrev pub is_sound : List Entry → Bool
is_sound list = has_distinct_names list && (list_all has_count list && has_no_conflict list)

-- a list becomes the table whose locks may stand together; else it is told by the places of two that can't
abbrev pub handing : State → List Entry → Verdict
handing s list =
    if is_sound list then Leaves (followed_over list s) reply.Done else clashing s (first_clash list)

-- where one followed the lock server that was ended
abbrev pub from_replica : Found → State → Verdict
from_replica found s = if s.attached then handing s found.list else Refuses refusal.NotAttached

abbrev pub fail_over : Found → State → Verdict
fail_over found s =
    elim s.condition [
      | condition.Up ↦ Refuses refusal.ServerUp
      | condition.NoServer ↦ from_replica found s
      | condition.Doubt k ↦ Refuses (refusal.Down k)
    ]

-- a replica gets the whole table, and follows it from then on
abbrev pub attached : State → State
attached s = record s { attached = true }

-- the table of the locks of the units that wait for their V1 part, one unit behind the other
abbrev pub recovered_table : State → Table
recovered_table s = recovered s.max_locks (open_locks s.stored)

-- what the store has that was read anew: the change in flight was taken, or not
abbrev pub stored_anew : Bool → Ledger → Option Ledger → Ledger
stored_anew false stored in_flight = stored
stored_anew true stored None = stored
stored_anew true stored (Some changed) = changed

-- it is known then, and nothing is in flight
abbrev pub settled : Bool → State → State
settled taken s = record s { stored = stored_anew taken s.stored s.in_flight; in_flight = None; found = None }

-- A new lock server has the locks of the units that wait for their V1 part, and no others. No order stands, and numbers
-- in memory go on. A session that had a lock has lost it, and so has one in whose call a device failed.
abbrev pub remade : State → State
remade s =
    record s {
      condition = condition.Up;
      sessions = map (bereft_if s.failed_caller) s.sessions;
      orders = replicate 256 None;
      locks = (recovered_table s).entries;
      limit = (recovered_table s).limit;
      taken_over = false;
      attached = false;
      failed_caller = None;
    }

abbrev pub restarted : Bool → State → State
restarted taken s = remade (settled taken s)

-- whether the change in flight was found in a store that was read anew
abbrev pub is_taken : Option Bool → Bool
is_taken None = false
is_taken (Some taken) = taken

-- outside doubt nothing is in flight, and the store isn't read
abbrev pub restart : Found → State → Verdict
restart found s =
    elim s.condition [
      | condition.Up ↦ Refuses refusal.ServerUp
      | condition.NoServer ↦ Leaves (restarted (is_taken found.anew) s) reply.Done
      | condition.Doubt k ↦ Leaves (restarted (is_taken found.anew) s) reply.Done
    ]

abbrev pub admin_call : Found → State → AdminCall → Verdict
admin_call found s Kills = Leaves (killed s) reply.Done
admin_call found s FailsOver = fail_over found s
admin_call found s Restarts = restart found s
admin_call found s Attaches = Leaves (attached s) reply.Done
admin_call found s (Cancels unit) = cancel s unit
admin_call found s (Resubmits unit) = resubmit s unit

-- ---- why a call isn't served

-- the number of calls that the history holds
abbrev pub history_limit : ℕ
history_limit = 262144

abbrev pub is_full : State → Bool
is_full s = nat_le history_limit (length s.past)

-- in doubt a restart is served alone
abbrev pub down_refusal : Condition → Call → Option Refusal
down_refusal condition.Up call = None
down_refusal condition.NoServer call = None
down_refusal (condition.Doubt k) call = if restarts call then None else Some (refusal.Down k)

-- the call isn't served now: the history is full, or the server is in doubt
abbrev pub barred : State → Call → Option Refusal
barred s call = if is_full s then Some refusal.LogFull else down_refusal s.condition call

-- the session lost a lock with a lock server, and hasn't rolled back since
abbrev pub lost_refusal : SessionCall → Session → Option Refusal
lost_refusal call x = if x.lost && not (ends_unit call) then Some refusal.LocksLost else None

abbrev pub session_refusal : SessionCall → Option Session → Option Refusal
session_refusal call None = Some refusal.UnknownSession
session_refusal call (Some x) = lost_refusal call x

-- why the caller may not call
abbrev pub caller_refusal : List Session → Call → Option Refusal
caller_refusal sessions (LogsOn session user) = None
caller_refusal sessions (OfSession session call) = session_refusal call (session_at sessions session)
caller_refusal sessions (OfWorker worker call) = None
caller_refusal sessions (OfAdmin call) = None

-- there is no lock server, and the call wants one
abbrev pub server_refusal : Condition → Call → Option Refusal
server_refusal condition.Up call = None
server_refusal condition.NoServer call = if wants_server call then Some refusal.SystemFailure else None
server_refusal (condition.Doubt k) call = None

abbrev pub or_else : Option Refusal → Option Refusal → Option Refusal
or_else None later = later
or_else (Some r) later = Some r

-- why the call isn't served, whatever it asks for
abbrev pub unavailable : State → Call → Option Refusal
unavailable s call =
    or_else (barred s call) (or_else (caller_refusal s.sessions call) (server_refusal s.condition call))

-- ---- all calls

-- the text of a business row, as the posted parts have made it
abbrev pub row_in : Ledger → List ℕ → List ℕ → Option (List ℕ)
row_in ledger table key = get (tables_of ledger.units ledger.marks) (table, key)

-- what the devices give, as the state tells it
abbrev pub found_in : State → Found
found_in s = record { part = outcome_in s.stored; row = row_in s.stored; anew = None; list = s.locks }

-- what a call comes to that is served
abbrev pub own_verdict : Found → State → Call → Verdict
own_verdict found s (LogsOn session user) = logon s session user
own_verdict found s (OfSession session call) = called found s call (session_at s.sessions session)
own_verdict found s (OfWorker worker call) = worker_call found s worker call
own_verdict found s (OfAdmin call) = admin_call found s call

unfoldable pub call_verdict : Found → State → Call → Verdict
call_verdict found s call = unless_refused (unavailable s call) (own_verdict found s call)

abbrev pub verdict : Found → State → Command → Verdict
verdict found s c = call_verdict found s (call_of c)
