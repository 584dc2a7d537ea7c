-- What holds of all that is present, and how a call ends in which a device may have failed.
use Rattle.std.specs.Prelude.{◌≡◌, ℕ, Bool, List, Option}
use Rattle.enq_base.specs.declared.condition.Condition.{Condition}
use Rattle.enq_server.specs.Server.{Server}
use Rattle.keeper_api.specs.Rows.{Rows}
use Rattle.posting.specs.BooksView.{BooksView, IsUsable}
use Rattle.hall_calls.specs.Filing.{AllRecover, HasOpenLists}
use Rattle.hall_calls.specs.Remaking.{LeavesKnown, flight_over}
use Rattle.hall_calls.specs.Written.{OnAnswer, written_condition, written_failure, written_reply, written_sessions}
use Rattle.hall_calls.specs.declared.units.Failure.{Failure}
use Rattle.hall_calls.specs.declared.units.Written.{Written}
use Rattle.hall_model.specs.Kept.{OutsideDoubt}
use Rattle.hall_model.specs.State.{is_up}
use Rattle.hall_model.specs.declared.command.Reply.{Reply}
use Rattle.hall_model.specs.declared.command.Session.{Session}

-- Outside doubt the books may be called, and the file has the lists of just the open units. What a stop may leave in
-- the store and in the file stands for what is recorded, by what is known of a change in flight. A lock table stands
-- where the server is up.
pub record IsPresent {K D L : Type 0} (held : K → Option Rows) (is_open : K → Type 0) (may_leave : K → Rows → Type 0)
    (tells : Bool) (reads : D → List ℕ) (disk_may_leave : D → List ℕ → Type 0)
    (condition : Condition) (books : BooksView K) (failure : Failure) (locks : Server D L) : Type 0 where
  pub usable : OutsideDoubt condition (IsUsable held is_open books)
  pub left : LeavesKnown held may_leave books.keeper failure.found books.ledger (flight_over books.ledger failure)
  pub filed : OutsideDoubt condition (HasOpenLists tells reads disk_may_leave books.ledger locks.file)
  pub lists : AllRecover tells disk_may_leave condition books.ledger (flight_over books.ledger failure) failure.found
      locks.file
  pub stands : locks.stands ≡ is_up condition

-- what changes where a device fails in a call
pub record Standing (D L : Type 0) : Type 0 where
  pub condition : Condition
  pub failure : Failure
  pub sessions : List Session
  pub locks : Server D L

-- How a call ends that uses the store, or the file. Where one of them fails the server is in doubt since this call, of
-- this session if a session made it, the lock table goes that stood, and each session is marked that had a lock of its
-- own in it.
pub record IsEnded {D L : Type 0} (old new : Standing D L) (calls start : ℕ) (caller : Option (List ℕ)) (w : Written)
    (r : Reply) : Type 0 where
  pub reply : r ≡ written_reply w
  pub condition : new.condition ≡ written_condition old.condition calls w
  pub failure : new.failure ≡ written_failure old.failure caller w
  pub sessions : new.sessions ≡ written_sessions old.condition start old.locks.table.entries old.sessions w
  pub stands : new.locks.stands ≡ is_up new.condition
  pub kept : OnAnswer w (new.locks ≡ old.locks)
  pub file : new.locks.file ≡ old.locks.file
  pub replica : new.locks.replica ≡ old.locks.replica
