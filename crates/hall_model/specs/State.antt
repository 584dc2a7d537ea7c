-- The state of the server.
use Rattle.std.specs.Prelude.{ℕ, Bool, true, false, not, ◌||◌, List, [], Option, Some, None, replicate}
use Rattle.std.specs.List.{filter}
use Rattle.enq_base.specs.declared.condition.Condition.{Condition}
use Rattle.enq_base.specs.declared.condition.Condition.TheVariants.{Up, NoServer, Doubt}
use Rattle.enq_base.specs.declared.owner.UnitKey.{UnitKey}
use Rattle.enq_server.specs.Server.{recovered, replicated}
use Rattle.lock_entry.specs.declared.entry.Entry.{Entry}
use Rattle.number_ranges.specs.declared.interval.Interval.{Interval}
use Rattle.ledger_steps.specs.Levels.{first_ranges}
use Rattle.ledger_steps.specs.declared.range.NumberRange.{NumberRange}
use Rattle.lock_entry.specs.Table.{Table}
use Rattle.ledger_steps.specs.Views.{open_locks}
use Rattle.update_records.specs.Ledger.{Ledger}
use Rattle.hall_model.specs.declared.command.Session.{Session}
use Rattle.hall_model.specs.declared.command.PastEntry.{PastEntry}

pub record State : Type 0 where
  pub condition : Condition
  -- in the order of their logons
  pub sessions : List Session
  pub next_session : ℕ
  -- The unit that each worker has an order for, by the worker's number from 0. Which part the order is for follows from
  -- the status of its unit: V1 of an open one, V2 of one whose V1 part is posted. No call changes the status of a unit
  -- with an order but the post that ends the order.
  pub orders : List (Option UnitKey)
  -- In the order in which they were granted. Where the lock server was ended its table is gone: the list of a replica
  -- that followed it stands here, where the link tells it, and else there are none. In doubt there are none.
  pub locks : List Entry
  -- how many locks may stand in the table; more than `max_locks` once more were recovered
  pub limit : ℕ
  -- whether the table was taken over from a replica, and no lock server was made anew since
  pub taken_over : Bool
  -- how many locks the landscape allows
  pub max_locks : ℕ
  -- how many marks the store may have
  pub mark_limit : ℕ
  -- whether the store tells its rows, and the link to a replica its list
  pub told : Bool
  pub link_told : Bool
  -- in the order of the landscape
  pub ranges : List NumberRange
  -- whether a replica follows the table, or where the lock server was ended has followed it until then
  pub attached : Bool
  -- what the store has, and the number of this start
  pub stored : Ledger
  -- what the store may have instead, after a commit that failed
  pub in_flight : Option Ledger
  -- Whether a restart that failed later has found what is in flight in the store. None where no restart has read it
  -- since.
  pub found : Option Bool
  -- the session in whose call a device failed, where the server is in doubt since then
  pub failed_caller : Option (List ℕ)
  pub past : List PastEntry

-- the call since which the server is in doubt
abbrev pub doubt_in : Condition → Option ℕ
doubt_in Up = None
doubt_in NoServer = None
doubt_in (Doubt k) = Some k

abbrev pub is_up : Condition → Bool
is_up Up = true
is_up NoServer = false
is_up (Doubt k) = false

-- The locks can be told from the calls: no table was taken over from a replica whose list the link doesn't tell.
abbrev pub is_honest : State → Bool
is_honest s = s.link_told || not s.taken_over

-- the table of a lock server; where it was ended, what a replica would make of its list; in doubt there is nothing
abbrev pub table_for : Condition → ℕ → (table : Table) → (replica : List Entry) → Table
table_for Up max_locks table replica = table
table_for NoServer max_locks table replica = replicated max_locks replica
table_for (Doubt k) max_locks table replica = replicated max_locks []

-- the locks but those that were handed over to the update
abbrev pub unhanded : List Entry → List Entry
unhanded entries = filter (λ (e : Entry). not e.handed) entries

-- a doubt detaches the replica
abbrev pub attached_in : Condition → Bool → Bool
attached_in Up attached = attached
attached_in NoServer attached = attached
attached_in (Doubt k) attached = false

-- the state that a table of locks belongs to, or the list of the replica that followed one
abbrev pub state_of :
    Bool → Bool → Bool → Bool → Condition → List Session → ℕ → List (Option UnitKey) → (table : Table)
    → (replica : List Entry) → ℕ → ℕ → List NumberRange → Ledger → Option Ledger → Option Bool → Option (List ℕ)
    → List PastEntry → State
state_of told link_told attached taken_over condition sessions next_session orders table replica max_locks mark_limit
    ranges stored in_flight found failed_caller past =
    record {
      condition = condition;
      sessions = sessions;
      next_session = next_session;
      orders = orders;
      locks = (table_for condition max_locks table replica).entries;
      limit = (table_for condition max_locks table replica).limit;
      taken_over = taken_over;
      max_locks = max_locks;
      mark_limit = mark_limit;
      told = told;
      link_told = link_told;
      ranges = ranges;
      attached = attached_in condition attached;
      stored = stored;
      in_flight = in_flight;
      found = found;
      failed_caller = failed_caller;
      past = past;
    }

-- A start of a server with the limits and the intervals of its landscape, before any call, over a store that has this.
-- The table has the locks of the units that wait for their V1 part.
abbrev pub opened : ℕ → ℕ → List Interval → Bool → Bool → Ledger → State
opened max_locks mark_limit intervals told link_told stored =
    record {
      condition = Up;
      sessions = [];
      next_session = 1;
      orders = replicate 256 None;
      locks = (recovered max_locks (open_locks stored)).entries;
      limit = (recovered max_locks (open_locks stored)).limit;
      taken_over = false;
      max_locks = max_locks;
      mark_limit = mark_limit;
      told = told;
      link_told = link_told;
      ranges = first_ranges stored.levels intervals;
      attached = false;
      stored = stored;
      in_flight = None;
      found = None;
      failed_caller = None;
      past = [];
    }

-- the locks that are seen: there are none where there is no lock server
abbrev pub locks_shown : Condition → List Entry → List Entry
locks_shown Up entries = entries
locks_shown NoServer entries = []
locks_shown (Doubt k) entries = []

abbrev pub seen_locks : State → List Entry
seen_locks s = locks_shown s.condition s.locks
