-- What is known of a server that was opened with its landscape, and of a site of which none came.
use Rattle.std.specs.Prelude.{◌≡◌, Bool, true, ℕ, List, [], Option, is_some, IfSome, IsTrue}
use Rattle.enq_server.specs.Server.{recovered}
use Rattle.lock_entry.specs.Table.{IsTable}
use Rattle.lock_entry.specs.declared.entry.Entry.{Entry}
use Rattle.ledger_steps.specs.Views.{open_locks}
use Rattle.hall_calls.specs.View.{View}
use Rattle.keeper_api.specs.Rows.{Rows}
use Rattle.landscape.specs.declared.landscape.Landscape.{Landscape}
use Rattle.lock_objects.specs.Objects.{Object}
use Rattle.posting.specs.Reopening.{HasStood}
use Rattle.ledger_steps.specs.Starts.{IsRaised}
use Rattle.ledger_steps.specs.Levels.{AreIntervals, FitRows}
use Rattle.script_runner.specs.Replay.{seen}
use Rattle.script_runner.specs.declared.runner.Why.{Why}
use Rattle.store_reading.specs.Good.{IsSound}
use Rattle.enq_cmd.specs.Main.{HadHanded, IsLandEnd, IsRead, IsUnopened, first_state, found_in, left_in}

-- a server before its first call, with the lock objects of its landscape
pub record IsOpened {K D L : Type 0} (held : K → Option Rows) (may_leave : K → Rows → Type 0) (faults : K → ℕ)
    (tells : Bool) (reads : D → List ℕ) (file_faults : D → ℕ)
    (applied : L → Option (List Entry)) (left : Option (List ℕ)) (keeper : K) (disk : D) (link : L) (hall : View K D L)
    (objects : List Object) : Type 0 where
  pub land : Landscape
  pub read : IsRead left land
  pub known : objects ≡ land.objects
  pub first : hall.state ≡ first_state land (is_some (held keeper)) (is_some (applied link)) hall.state.stored
  pub intervals : AreIntervals land.ranges
  pub sound : IsRaised IsSound true hall.state.stored
  pub stored : IfSome (held hall.keeper) (λ _. IsRaised (HasStood (may_leave keeper)) true hall.state.stored)
  pub fits : FitRows land.ranges hall.state.stored.levels
  pub table : IsTable (recovered land.max_locks (open_locks hall.state.stored))
  pub filed : IsTrue tells → HadHanded (reads disk) hall.state.stored
  pub told : is_some (held hall.keeper) ≡ is_some (held keeper)
  pub counts : faults hall.keeper ≡ faults keeper
  pub file_counts : file_faults hall.file.disk ≡ file_faults disk
  pub linked : hall.replica.link ≡ link

-- a landscape that wasn't read: the site is as it was
pub record IsUnlanded {K D : Type 0} (before now : ℕ) (keeper keeper_now : K) (disk disk_now : D)
    (why : Why) : Type 0 where
  pub end : IsLandEnd before now why
  pub storing : keeper_now ≡ keeper
  pub filing : disk_now ≡ disk

-- a landscape with which the site wasn't opened, whatever is seen of a source and of a sink, and whatever the link
-- tells
pub record IsLandedAlone {K D L : Type 0} (held : K → Option Rows) (may_leave : K → Rows → Type 0) (faults : K → ℕ)
    (tells : Bool) (reads : D → List ℕ) (images : D → List ℕ → Type 0) (file_faults : D → ℕ)
    (applied : L → Option (List Entry)) (left : Option (List ℕ)) (keeper keeper_now : K) (disk disk_now : D)
    (link link_now : L) (why : Why) : Type 0 where
  pub land : Landscape
  pub read : IsRead left land
  pub unopened : (rest written : Option (List ℕ)) (source sink : ℕ)
      → IsUnopened (found_in held may_leave tells reads images applied keeper disk link)
      (left_in may_leave images applied keeper_now disk_now link_now) disk disk_now link link_now
      (seen rest written source sink (faults keeper) (file_faults disk))
      (seen rest written source sink (faults keeper_now) (file_faults disk_now)) [] why
