-- What the devices do in a call, and which of it may be.
use Rattle.std.specs.Prelude.{◌≡◌, ◌≢◌, ℕ, Bool, true, false, ◌&&◌, ◌||◌, ◌++◌, nat_lt, length, List, []}
use Rattle.std.specs.Prelude.{if◌then◌else◌, Option, Some, None, IfSome, IsTrue, is_ok, is_some}
use Rattle.enq_base.specs.declared.condition.BackupBad.{BackupBad}
use Rattle.enq_base.specs.declared.condition.Condition.{Condition}
use Rattle.enq_base.specs.declared.condition.Condition.TheVariants as condition
use Rattle.enq_base.specs.declared.condition.Bad.TheVariants as bad
use Rattle.enq_base.specs.declared.owner.UnitKey.{UnitKey}
use Rattle.enq_base.specs.declared.refusal.Refusal.{Refusal}
use Rattle.enq_base.specs.declared.refusal.Refusal.TheVariants as refusal
use Rattle.enq_base.specs.declared.unit.Num.{Num}
use Rattle.enq_base.specs.declared.unit.Parts.{Parts}
use Rattle.enq_base.specs.declared.unit.Status.TheVariants as status
use Rattle.enq_server.specs.Server.{lasting}
use Rattle.lock_entry.specs.Table.{IsTable}
use Rattle.lock_entry.specs.declared.entry.Entry.{Entry}
use Rattle.ledger_steps.specs.Posts.{entries_of}
use Rattle.update_records.specs.Marks.{has_status, status_of}
use Rattle.hall_model.specs.declared.command.Command.{Command}
use Rattle.hall_model.specs.Calls.{AdminCall, Kills, FailsOver, Restarts, Attaches, Cancels, Resubmits, Call, LogsOn}
use Rattle.hall_model.specs.Calls.{OfSession, OfWorker, OfAdmin, WorkerCall, Posts, SessionCall, LogsOff, Frees}
use Rattle.hall_model.specs.Calls.{FreesAll, Draws, Reserves, Reads, Commits, RollsBack, admin_touches_store, call_of}
use Rattle.hall_model.specs.Calls.{restarts, ships, talks, session_touches_store, touches_store}
use Rattle.hall_model.specs.declared.command.Session.{Session}
use Rattle.hall_model.specs.Sessions.{session_at, unit_key}
use Rattle.number_ranges.specs.Intervals.{is_buffered}
use Rattle.ledger_steps.specs.Levels.{present, range_at}
use Rattle.ledger_steps.specs.declared.range.NumberRange.{NumberRange}
use Rattle.std.specs.Option.{option_map_or}
use Rattle.hall_model.specs.Kept.{IsInFlight}
use Rattle.hall_model.specs.OpenUnits.{waits_with_locks}
use Rattle.hall_model.specs.Orders.{order_for}
use Rattle.hall_model.specs.State.{State}
use Rattle.hall_model.specs.Stocks.{MayCall}
use Rattle.hall_model.specs.Step.{Found, Verdict, Refuses, Leaves, call_verdict, effects_in, found_in, leaves, row_in}
use Rattle.hall_model.specs.Step.{to_resubmit, unavailable}
use Rattle.ledger_steps.specs.Parts.{is_first}

-- what a device gave that the state doesn't tell
pub data Reading : Type 0 where
  -- all that was read is as the state tells it
  AsKnown : Reading
  -- a row has this text, or isn't there
  Shows : Option (List ℕ) → Reading
  -- a restart read the store anew, and has found the change in flight, or not
  Reopens : Bool → Reading
  -- the link handed this list over
  Hands : List Entry → Reading

-- why no lock server could be made anew, but for a failure of the disk
pub data RemakeFault : Type 0 where
  -- memory was wanting behind the first call of a device
  MeetsWant : RemakeFault
  -- the backup file isn't good
  FindsBad : BackupBad → RemakeFault
  -- The store isn't good, at this row of this table; or it has neither what it had nor the change in flight, and then
  -- both are 0.
  FindsBadStore : (table row : ℕ) → RemakeFault

abbrev pub fault_told : RemakeFault → Refusal
fault_told MeetsWant = refusal.NoMemory
fault_told (FindsBad place) = refusal.Unsound (bad.Backup place)
fault_told (FindsBadStore table row) = refusal.Unsound (bad.Store table row)

-- what went wrong
pub data Event : Type 0 where
  AllWell : Event
  -- memory was wanting
  Wanting : Event
  -- the store failed
  StoreFails : Event
  -- the disk of the backup file failed
  BackupFails : Event
  -- the link failed in a call that speaks to it
  LinkFails : Event
  -- no lock server could be made anew, for this reason
  NotRemade : RemakeFault → Event

abbrev pub is_store_failure : Event → Bool
is_store_failure AllWell = false
is_store_failure Wanting = false
is_store_failure StoreFails = true
is_store_failure BackupFails = false
is_store_failure LinkFails = false
is_store_failure (NotRemade fault) = false

abbrev pub is_file_failure : Event → Bool
is_file_failure AllWell = false
is_file_failure Wanting = false
is_file_failure StoreFails = false
is_file_failure BackupFails = true
is_file_failure LinkFails = false
is_file_failure (NotRemade fault) = false

pub record DeviceOutcome : Type 0 where
  pub event : Event
  pub reading : Reading
  -- the replica that followed was lost
  pub lost : Bool

abbrev pub all_well : DeviceOutcome
all_well = record { event = AllWell; reading = AsKnown; lost = false }

abbrev pub only : Event → DeviceOutcome
only event = record { event = event; reading = AsKnown; lost = false }

-- what a call finds, by what the devices gave
abbrev pub found_by : Reading → State → Found
found_by AsKnown s = found_in s
found_by (Shows text) s = record (found_in s) { row = λ table key. text }
found_by (Reopens taken) s = record (found_in s) { anew = Some taken }
found_by (Hands list) s = record (found_in s) { list = list }

-- ---- what may have been read

-- where the store tells its rows a row has the text that the posted parts have made, and else any
abbrev pub IsTold : Bool → Type 0 → Type 0
IsTold true P = P
IsTold false P = Unit {0}

-- it is as it was known before, if it was
abbrev pub IsAsBefore : Option Bool → Bool → Type 0
IsAsBefore found taken = IfSome found (λ known. taken ≡ known)

-- a store that is read anew has the change in flight, or not
pub record MayFind (s : State) (taken : Bool) : Type 0 where
  pub flight : IsTrue taken → IsInFlight s.stored s.in_flight
  pub known : IsAsBefore s.found taken

abbrev pub MayRead : Reading → State → Call → Type 0
MayRead AsKnown s call = Unit {0}
MayRead (Shows text) s (OfSession session (Reads table key)) = IsTold s.told (text ≡ row_in s.stored table key)
MayRead (Reopens taken) s (OfAdmin Restarts) = MayFind s taken
MayRead (Hands list) s (OfAdmin FailsOver) = IsTold s.link_told (list ≡ s.locks)
MayRead reading s call = ⊥

-- ---- what may have gone wrong

-- a number or a reservation that the level doesn't reach
abbrev pub is_past_level : State → NumberRange → ℕ → Bool
is_past_level s r number = nat_lt (present s.stored.levels r.interval).level number

abbrev pub raises_level : State → SessionCall → Bool
raises_level s (Draws object nr) =
    option_map_or (λ (r : NumberRange). is_buffered r.interval && is_past_level s r r.next)
    (range_at s.ranges object nr) false
raises_level s (Reserves object nr upto) =
    option_map_or (λ r. is_past_level s r upto) (range_at s.ranges object nr) false
raises_level s call = false

-- the calls that may touch the store: of draws and reservations those that raise a level, as the others find theirs in
-- memory
abbrev pub session_reaches_store : State → SessionCall → Bool
session_reaches_store s (Draws object nr) = raises_level s (Draws object nr)
session_reaches_store s (Reserves object nr upto) = raises_level s (Reserves object nr upto)
session_reaches_store s call = session_touches_store call

abbrev pub is_doubt : Condition → Bool
is_doubt (condition.Doubt k) = true
is_doubt k = false

-- a restart reads the store in doubt alone
abbrev pub admin_reaches_store : State → AdminCall → Bool
admin_reaches_store s Restarts = is_doubt s.condition
admin_reaches_store s call = admin_touches_store call

abbrev pub reaches_store : State → Call → Bool
reaches_store s (OfSession session call) = session_reaches_store s call
reaches_store s (OfAdmin call) = admin_reaches_store s call
reaches_store s call = touches_store call

-- there are numbers to record
abbrev pub has_numbers : State → List ℕ → List Num → Bool
has_numbers s session stock =
    option_map_or (λ (x : Session). nat_lt 0 (length (x.draws ++ stock))) (session_at s.sessions session) false

abbrev pub session_uses_store : State → List ℕ → SessionCall → Bool
session_uses_store s session (Reads table key) = true
session_uses_store s session (Commits parts stock) = nat_lt 0 (effects_in parts) || has_numbers s session stock
session_uses_store s session call = raises_level s call

abbrev pub worker_uses_store : WorkerCall → Bool
worker_uses_store (Posts part) = true
worker_uses_store call = false

-- the calls that write the store or read it: a block of numbers, a row, a unit with effects, numbers that are recorded,
-- a part of a unit, and all that is done to one; and a restart in doubt
abbrev pub uses_store : State → Call → Bool
uses_store s (LogsOn session user) = false
uses_store s (OfSession session call) = session_uses_store s session call
uses_store s (OfWorker worker call) = worker_uses_store call
uses_store s (OfAdmin call) = admin_reaches_store s call

-- the session's open unit has locks to hand over, and something to record
abbrev pub hands_over : State → List ℕ → Parts → Bool
hands_over s session parts =
    nat_lt 0 (effects_in parts)
    && option_map_or (λ (x : Session). nat_lt 0 (length (lasting (unit_key s.stored.start x) s.locks)))
    (session_at s.sessions session) false

abbrev pub session_uses_file : State → List ℕ → SessionCall → Bool
session_uses_file s session (Commits parts stock) = hands_over s session parts
session_uses_file s session call = false

-- the unit that the worker has an order for waits for its V1 part, and has locks
abbrev pub worker_uses_file : State → ℕ → WorkerCall → Bool
worker_uses_file s worker (Posts part) =
    is_first part && option_map_or (waits_with_locks s.stored) (order_for part s.stored s.orders worker) false
worker_uses_file s worker call = false

-- the locks that were stored with a unit whose V1 part was refused
abbrev pub refused_locks : State → UnitKey → List Entry
refused_locks s unit =
    if has_status status.Bad (status_of s.stored.units s.stored.marks unit) then entries_of s.stored.units unit else []

abbrev pub admin_uses_file : State → AdminCall → Bool
admin_uses_file s Kills = false
admin_uses_file s FailsOver = false
admin_uses_file s Attaches = false
admin_uses_file s Restarts = true
admin_uses_file s (Cancels unit) = waits_with_locks s.stored unit
admin_uses_file s (Resubmits unit) = nat_lt 0 (length (refused_locks s unit))

-- the calls that write the backup file: those that record a unit with locks, that end the V1 part of one, that cancel
-- one which waits for it, or by which a refused V1 part of one is tried again; and a restart
abbrev pub uses_file : State → Call → Bool
uses_file s (LogsOn session user) = false
uses_file s (OfSession session call) = session_uses_file s session call
uses_file s (OfWorker worker call) = worker_uses_file s worker call
uses_file s (OfAdmin call) = admin_uses_file s call

abbrev pub session_may_want : SessionCall → Bool
session_may_want LogsOff = false
session_may_want (Frees requests) = false
session_may_want FreesAll = false
session_may_want RollsBack = false
session_may_want call = true

abbrev pub worker_may_want : State → ℕ → WorkerCall → Bool
worker_may_want s worker (Posts part) = is_some (order_for part s.stored s.orders worker)
worker_may_want s worker call = false

abbrev pub admin_may_want : State → Verdict → AdminCall → Bool
admin_may_want s v Kills = false
admin_may_want s v FailsOver = leaves v
admin_may_want s v Restarts = leaves v
admin_may_want s v Attaches = leaves v
admin_may_want s v (Cancels unit) = leaves v
admin_may_want s v (Resubmits unit) = is_ok (to_resubmit s.stored s.mark_limit unit)

-- the calls in which memory may be wanting, by what they come to with enough of it
abbrev pub may_want : State → Verdict → Call → Bool
may_want s v (LogsOn session user) = leaves v
may_want s v (OfSession session call) = session_may_want call
may_want s v (OfWorker worker call) = worker_may_want s worker call
may_want s v (OfAdmin call) = admin_may_want s v call

-- what a call leaves has a table that can stand
abbrev pub LeavesTable : Verdict → Type 0
LeavesTable (Refuses r) = Unit {0}
LeavesTable (Leaves after r) = IsTable (record { entries = after.locks; limit = after.limit })

-- a lock server is made, by a restart or from a replica's list, only where its locks can stand together
abbrev pub MayBeDone : Call → Verdict → Type 0
MayBeDone (OfAdmin FailsOver) v = LeavesTable v
MayBeDone (OfAdmin Restarts) v = LeavesTable v
MayBeDone call v = Unit {0}

-- a call that isn't served wants no memory, and one that is refused uses no device
abbrev pub MayHappen : Event → State → Call → Verdict → Type 0
MayHappen AllWell s call v = MayBeDone call v
MayHappen Wanting s call v = (unavailable s call ≡ None) × IsTrue (may_want s v call)
MayHappen StoreFails s call v = IsTrue (leaves v) × IsTrue (uses_store s call)
MayHappen BackupFails s call v = IsTrue (leaves v) × IsTrue (uses_file s call)
MayHappen LinkFails s call v = IsTrue (leaves v) × IsTrue (talks call)
MayHappen (NotRemade fault) s call v = IsTrue (leaves v) × IsTrue (restarts call)

-- the call is done, and leaves other locks
abbrev pub ChangesLocks : State → Verdict → Type 0
ChangesLocks s (Refuses r) = ⊥
ChangesLocks s (Leaves after r) = after.locks ≢ s.locks

-- the calls in which a replica may be lost: those that ship what they change, where they are done and change it, and
-- one that brings another for which memory was wanting
abbrev pub MayLoseIn : Event → State → Call → Verdict → Type 0
MayLoseIn Wanting s (OfAdmin Attaches) v = Unit {0}
MayLoseIn AllWell s call v = (ships call ≡ true) × ChangesLocks s v
MayLoseIn event s call v = ⊥

-- a replica follows, and a call is served in which it may be lost
pub record LosesReplica (event : Event) (s : State) (call : Call) (v : Verdict) : Type 0 where
  pub served : unavailable s call ≡ None
  pub attached : s.attached ≡ true
  pub may : MayLoseIn event s call v

abbrev pub MayLose : Bool → Event → State → Call → Verdict → Type 0
MayLose false event s call v = Unit {0}
MayLose true event s call v = LosesReplica event s call v

-- the devices may have done this in a call
pub record IsPossible (o : DeviceOutcome) (s : State) (c : Command) : Type 0 where
  pub reading : MayRead o.reading s (call_of c)
  pub event : MayHappen o.event s (call_of c) (call_verdict (found_by o.reading s) s (call_of c))
  pub lost : MayLose o.lost o.event s (call_of c) (call_verdict (found_by o.reading s) s (call_of c))

-- a call may be made, and may have this outcome
pub record IsAllowed (o : DeviceOutcome) (s : State) (c : Command) : Type 0 where
  pub call : MayCall s (call_of c)
  pub possible : IsPossible o s c
