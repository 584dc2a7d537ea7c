-- What a history tells of the lock server and of the orders of workers.
use Rattle.std.specs.Prelude.{◌≡◌, ℕ, ◌<◌, Bool, true, false, ◌&&◌, ◌||◌, if◌then◌else◌, nat_eq, List, ◌++◌, fold}
use Rattle.std.specs.Prelude.{Option, Some, None}
use Rattle.std.specs.List.{list_any}
use Rattle.enq_base.specs.declared.condition.Condition.{Condition}
use Rattle.enq_base.specs.declared.condition.Condition.TheVariants as condition
use Rattle.enq_base.specs.declared.owner.UnitKey.{UnitKey}
use Rattle.enq_base.specs.declared.refusal.Refusal.TheVariants as refusal
use Rattle.hall_model.specs.declared.command.PastEntry.{PastEntry}
use Rattle.hall_model.specs.declared.command.Reply.{Reply}
use Rattle.hall_model.specs.declared.command.Reply.TheVariants as reply
use Rattle.hall_model.specs.Calls.{Call, OfAdmin, OfWorker, Kills, Restarts, WorkerCall, Takes, Posts, call_of}
use Rattle.hall_model.specs.Kept.{IsKept}
use Rattle.hall_model.specs.Orders.{order_of}
use Rattle.hall_model.specs.Recall.{Made, state_after}
use Rattle.hall_model.specs.State.{State}

-- ---- where a history begins

-- no worker has an order
abbrev pub NoneHasOrder : State → Type 0
NoneHasOrder s = (worker : ℕ) → worker < 256 → order_of s.orders worker ≡ None

-- a state in order, with the server up and no orders
pub record IsFresh (s : State) : Type 0 where
  pub kept : IsKept s
  pub up : s.condition ≡ condition.Up
  pub free : NoneHasOrder s

-- ---- the lock server

abbrev pub is_up : Condition → Bool
is_up condition.Up = true
is_up condition.NoServer = false
is_up (condition.Doubt k) = false

abbrev pub up_behind : Bool → PastEntry → Bool
up_behind before call = is_up call.after.condition

-- whether the lock server is up behind these calls, which begin with it up
abbrev pub up_after : List PastEntry → Bool
up_after calls = fold up_behind true calls

-- in each state on the way the server is up
abbrev pub StaysUp : State → List Made → Type 0
StaysUp first made = (earlier later : List Made) → made ≡ earlier ++ later
    → (state_after first earlier).condition ≡ condition.Up

-- ---- orders

-- A worker's order behind a call of its own. A take that gives a unit begins it, and a post or a drop that isn't
-- refused ends it.
abbrev pub own_order : WorkerCall → Reply → Option UnitKey → Option UnitKey
own_order (Takes part) (reply.Unit unit) before = Some unit
own_order (Takes part) r before = before
own_order call (reply.Refused r) before = before
own_order call r before = None

-- and behind any call; none stands behind a restart
abbrev pub order_by : ℕ → Call → Reply → Option UnitKey → Option UnitKey
order_by worker (OfWorker other call) r before = if nat_eq other worker then own_order call r before else before
order_by worker (OfAdmin Restarts) reply.Done before = None
order_by worker call r before = before

abbrev pub order_behind : ℕ → Option UnitKey → PastEntry → Option UnitKey
order_behind worker before call = order_by worker (call_of call.command) call.reply before

-- the unit that this worker has an order for behind these calls, which begin without orders
abbrev pub order_after : ℕ → List PastEntry → Option UnitKey
order_after worker calls = fold (order_behind worker) None calls

-- ---- what goes wrong

-- the store or the disk of the backup file failed
abbrev pub is_device_fault : Reply → Bool
is_device_fault (reply.Refused refusal.StoreFault) = true
is_device_fault (reply.Refused refusal.BackupFault) = true
is_device_fault r = false

-- the store has no room for a mark
abbrev pub is_store_full : Reply → Bool
is_store_full (reply.Refused (refusal.StoreFull limit)) = true
is_store_full r = false

abbrev pub ends_server : Call → Reply → Bool
ends_server (OfAdmin Kills) reply.Done = true
ends_server call r = false

abbrev pub is_post : Call → Bool
is_post (OfWorker worker (Posts part)) = true
is_post call = false

-- The lock server was ended, a device failed, or an order wasn't done for want of room in the store.
abbrev pub goes_wrong : Call → Reply → Bool
goes_wrong call r = is_device_fault r || (ends_server call r || (is_post call && is_store_full r))

-- behind such a call orders may be left
abbrev pub is_trouble : PastEntry → Bool
is_trouble call = goes_wrong (call_of call.command) call.reply

abbrev pub is_no_memory : Reply → Bool
is_no_memory (reply.Refused refusal.NoMemory) = true
is_no_memory r = false

-- memory was wanting in the call
abbrev pub wants : PastEntry → Bool
wants call = is_no_memory call.reply

-- none of these calls is trouble
abbrev pub HasNoTrouble : List PastEntry → Type 0
HasNoTrouble calls = list_any is_trouble calls ≡ false
