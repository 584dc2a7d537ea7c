-- Calls by who makes them.
use Rattle.std.specs.Prelude.{ℕ, Bool, true, false, List}
use Rattle.enq_base.specs.declared.owner.UnitKey.{UnitKey}
use Rattle.enq_base.specs.declared.unit.Num.{Num}
use Rattle.enq_base.specs.declared.unit.Parts.{Parts}
use Rattle.lock_entry.specs.declared.entry.Asked.{Asked}
use Rattle.lock_entry.specs.declared.entry.Request.{Request}
use Rattle.hall_model.specs.declared.command.Command.{Command}
use Rattle.hall_model.specs.declared.command.Command.TheVariants as command
use Rattle.hall_model.specs.declared.command.Who.{Who}
use Rattle.hall_model.specs.declared.command.Who.TheVariants as who
use Rattle.ledger_steps.specs.declared.part.Part.TheVariants.{V1, V2}
use Rattle.ledger_steps.specs.Parts.{is_first}
use Rattle.ledger_steps.specs.declared.part.Part.{Part}

-- what a session that is logged on may ask for
pub data SessionCall : Type 0 where
  LogsOff : SessionCall
  Asks : List Request → SessionCall
  Frees : List Request → SessionCall
  FreesAll : SessionCall
  Converts : List Asked → SessionCall
  -- a number of this object and these two digits
  Draws : List ℕ → List ℕ → SessionCall
  -- and whole blocks of them, up to this number
  Reserves : List ℕ → List ℕ → ℕ → SessionCall
  -- the row of this table and this key
  Reads : List ℕ → List ℕ → SessionCall
  -- a unit with these effects, what the session has drawn, and these numbers of a stock
  Commits : Parts → List Num → SessionCall
  RollsBack : SessionCall

-- what a worker may do
pub data WorkerCall : Type 0 where
  Takes : Part → WorkerCall
  Posts : Part → WorkerCall
  Drops : WorkerCall

-- what an administrator may do
pub data AdminCall : Type 0 where
  -- ends the lock server
  Kills : AdminCall
  -- makes the replica's list the table of a lock server that goes on
  FailsOver : AdminCall
  -- makes a lock server anew, with the locks of the units that wait for their V1 part
  Restarts : AdminCall
  -- has a replica follow the table
  Attaches : AdminCall
  Cancels : UnitKey → AdminCall
  Resubmits : UnitKey → AdminCall

pub data Call : Type 0 where
  -- a session of this name and user begins
  LogsOn : List ℕ → List ℕ → Call
  OfSession : List ℕ → SessionCall → Call
  OfWorker : ℕ → WorkerCall → Call
  OfAdmin : AdminCall → Call

abbrev pub call_of : Command → Call
call_of (command.Logon session user) = LogsOn session user
call_of (command.Logoff session) = OfSession session LogsOff
call_of (command.Ask session requests) = OfSession session (Asks requests)
call_of (command.Free session requests) = OfSession session (Frees requests)
call_of (command.FreeAll session) = OfSession session FreesAll
call_of (command.Convert session asked) = OfSession session (Converts asked)
call_of (command.Number session object nr) = OfSession session (Draws object nr)
call_of (command.Reserve session object nr upto) = OfSession session (Reserves object nr upto)
call_of (command.Read session table key) = OfSession session (Reads table key)
call_of (command.Commit session parts stock) = OfSession session (Commits parts stock)
call_of (command.Rollback session) = OfSession session RollsBack
call_of (command.Take1 worker) = OfWorker worker (Takes V1)
call_of (command.Take2 worker) = OfWorker worker (Takes V2)
call_of (command.Do1 worker) = OfWorker worker (Posts V1)
call_of (command.Do2 worker) = OfWorker worker (Posts V2)
call_of (command.DropOrder worker) = OfWorker worker Drops
call_of command.Kill = OfAdmin Kills
call_of command.FailOver = OfAdmin FailsOver
call_of command.Restart = OfAdmin Restarts
call_of command.Attach = OfAdmin Attaches
call_of (command.Cancel unit) = OfAdmin (Cancels unit)
call_of (command.Resubmit unit) = OfAdmin (Resubmits unit)

-- the command by which a worker takes an order for a part, and the one by which it does it
abbrev pub take_of : Part → (worker : ℕ) → Command
take_of V1 worker = command.Take1 worker
take_of V2 worker = command.Take2 worker

abbrev pub post_of : Part → (worker : ℕ) → Command
post_of V1 worker = command.Do1 worker
post_of V2 worker = command.Do2 worker

abbrev pub who_calls : Call → Who
who_calls (LogsOn session user) = who.Session session
who_calls (OfSession session call) = who.Session session
who_calls (OfWorker worker call) = who.Worker worker
who_calls (OfAdmin call) = who.Admin

abbrev pub who_of : Command → Who
who_of c = who_calls (call_of c)

-- ---- what calls want

-- the calls of a session that want a lock server: all but those for numbers and rows
abbrev pub session_wants_server : SessionCall → Bool
session_wants_server (Draws object nr) = false
session_wants_server (Reserves object nr upto) = false
session_wants_server (Reads table key) = false
session_wants_server call = true

-- a V1 part ends locks, and so it wants the server that has them
abbrev pub worker_wants_server : WorkerCall → Bool
worker_wants_server (Posts part) = is_first part
worker_wants_server call = false

-- all but those that bring one
abbrev pub admin_wants_server : AdminCall → Bool
admin_wants_server FailsOver = false
admin_wants_server Restarts = false
admin_wants_server call = true

abbrev pub wants_server : Call → Bool
wants_server (LogsOn session user) = false
wants_server (OfSession session call) = session_wants_server call
wants_server (OfWorker worker call) = worker_wants_server call
wants_server (OfAdmin call) = admin_wants_server call

-- the calls that end a lock server or make one anew
abbrev pub is_of_server : Call → Bool
is_of_server (OfAdmin Kills) = true
is_of_server (OfAdmin FailsOver) = true
is_of_server (OfAdmin Restarts) = true
is_of_server call = false

-- a lock server is made anew, whatever became of the one before
abbrev pub restarts : Call → Bool
restarts (OfAdmin Restarts) = true
restarts call = false

-- the replica's list becomes the table
abbrev pub fails_over : Call → Bool
fails_over (OfAdmin FailsOver) = true
fails_over call = false

-- the calls behind which another replica follows than before, or none
abbrev pub renews_replica : Call → Bool
renews_replica (OfAdmin FailsOver) = true
renews_replica (OfAdmin Restarts) = true
renews_replica (OfAdmin Attaches) = true
renews_replica call = false

-- what a session may still do that lost a lock with a lock server
abbrev pub ends_unit : SessionCall → Bool
ends_unit LogsOff = true
ends_unit RollsBack = true
ends_unit call = false

-- the calls that speak to the link themselves
abbrev pub talks : Call → Bool
talks (OfAdmin FailsOver) = true
talks (OfAdmin Attaches) = true
talks call = false

-- the calls in which a change of the table may be shipped: those that want the lock server, but for the one that ends
-- it, and the one that brings a replica
abbrev pub ships : Call → Bool
ships (OfAdmin Kills) = false
ships (OfAdmin Attaches) = false
ships call = wants_server call

-- a call that only reads leaves no change in flight where the store fails
abbrev pub only_reads : Call → Bool
only_reads (OfSession session (Reads table key)) = true
only_reads (OfAdmin Restarts) = true
only_reads call = false

-- ---- what calls do to the store

abbrev pub session_touches_store : SessionCall → Bool
session_touches_store (Draws object nr) = true
session_touches_store (Reserves object nr upto) = true
session_touches_store (Reads table key) = true
session_touches_store (Commits parts stock) = true
session_touches_store call = false

abbrev pub worker_touches_store : WorkerCall → Bool
worker_touches_store (Posts part) = true
worker_touches_store call = false

abbrev pub admin_touches_store : AdminCall → Bool
admin_touches_store Kills = false
admin_touches_store FailsOver = false
admin_touches_store Attaches = false
admin_touches_store call = true

-- the calls that read rows of the store, or write some where they aren't refused; of these a restart only in doubt
abbrev pub touches_store : Call → Bool
touches_store (LogsOn session user) = false
touches_store (OfSession session call) = session_touches_store call
touches_store (OfWorker worker call) = worker_touches_store call
touches_store (OfAdmin call) = admin_touches_store call

-- ---- what calls do to the backup file

abbrev pub session_touches_file : SessionCall → Bool
session_touches_file (Commits parts stock) = true
session_touches_file call = false

abbrev pub worker_touches_file : WorkerCall → Bool
worker_touches_file (Posts part) = is_first part
worker_touches_file call = false

abbrev pub admin_touches_file : AdminCall → Bool
admin_touches_file Kills = false
admin_touches_file FailsOver = false
admin_touches_file Attaches = false
admin_touches_file call = true

-- the calls that hand locks of a unit over to the update, end them, or take them back, and a restart
abbrev pub touches_file : Call → Bool
touches_file (LogsOn session user) = false
touches_file (OfSession session call) = session_touches_file call
touches_file (OfWorker worker call) = worker_touches_file call
touches_file (OfAdmin call) = admin_touches_file call

-- of these the ones that write the store first: where the disk fails their mark stands already
abbrev pub writes_store_first : Call → Bool
writes_store_first (OfWorker worker (Posts part)) = true
writes_store_first (OfAdmin (Cancels unit)) = true
writes_store_first call = false
