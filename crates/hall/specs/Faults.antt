-- Why a hall isn't opened.
use Rattle.std.specs.Prelude.{ℕ, ◌≡◌, ◌⊎◌, ◌≤◌, ◌<◌, Bool, true, List, Option, IfSome, IsTrue}
use Rattle.enq_base.specs.Causes.{Rose}
use Rattle.enq_base.specs.declared.condition.BackupBad.{BackupBad}
use Rattle.enq_base.specs.declared.condition.Bad.TheVariants as bad
use Rattle.bk_disk.specs.Disk.{Follows}
use Rattle.backup_file.specs.File.{Keeps}
use Rattle.enq_server.specs.Faults.{IsOpenFault}
use Rattle.enq_server.specs.Recovery.{FreesOthers}
use Rattle.enq_server.specs.declared.fault.OpenFault.{OpenFault}
use Rattle.enq_server.specs.declared.fault.OpenFault.TheVariants as opening
use Rattle.keeper_api.specs.Rows.{Rows}
use Rattle.lock_entry.specs.declared.entry.UnitLocks.{UnitLocks}
use Rattle.number_ranges.specs.declared.interval.Interval.{Interval}
use Rattle.ledger_steps.specs.Intervals.{in_row_order}
use Rattle.posting.specs.Reopening.{HasStood}
use Rattle.ledger_steps.specs.Starts.{IsRaised}
use Rattle.posting.specs.declared.opening.BooksFault.{BooksFault}
use Rattle.posting.specs.declared.opening.BooksFault.TheVariants as books
use Rattle.ledger_steps.specs.Views.{open_locks}
use Rattle.ledger_steps.specs.Levels.{FitRows, IsFirstUnfit}
use Rattle.store_reading.specs.Good.{IsBadPlace, IsSound}
use Rattle.update_records.specs.Ledger.{Ledger, Levels, StandFor}
use Rattle.hall.specs.declared.opening.HallFault.{HallFault}
use Rattle.hall.specs.declared.opening.HallFault.TheVariants as hall

-- why the hall isn't opened where its books aren't
abbrev pub hall_fault : BooksFault → HallFault
hall_fault books.StoreFault = hall.Store
hall_fault (books.BadStore table row) = hall.Bad (bad.Store table row)
hall_fault books.NoStart = hall.NoStart
hall_fault books.NoMemory = hall.NoMemory

-- and where its backup file isn't
abbrev pub file_fault : OpenFault → HallFault
file_fault opening.Failed = hall.Backup
file_fault (opening.Bad place) = hall.Bad (bad.Backup place)
file_fault opening.NoMemory = hall.NoMemory

-- the levels of a store that was opened aren't taken over
abbrev pub IsRangesFault : List Interval → Levels → HallFault → Type 0
IsRangesFault intervals levels (hall.Interval row) = IsFirstUnfit intervals (in_row_order levels) row
IsRangesFault intervals levels fault = ⊥

-- a backup file of these bytes isn't opened for the locks of these units: the disk failed, the file isn't good or
-- doesn't have them, or memory was wanting
abbrev pub IsFileFault : (tells : Bool) → (bytes : List ℕ) → List UnitLocks → HallFault → Type 0
IsFileFault tells bytes units hall.Backup = Unit {0}
IsFileFault tells bytes units (hall.Bad (bad.Backup place)) = IsTrue tells → IsOpenFault bytes units (opening.Bad place)
IsFileFault tells bytes units hall.NoMemory = Unit {0}
IsFileFault tells bytes units fault = ⊥

-- one of both, behind the books that were opened: the backup file is opened only where all stored intervals are these
abbrev pub IsLateFault : List Interval → Ledger → (tells : Bool) → (bytes : List ℕ) → HallFault → Type 0
IsLateFault intervals ledger tells bytes fault =
    IsRangesFault intervals ledger.levels fault
    ⊎ (FitRows intervals ledger.levels × IsFileFault tells bytes (open_locks ledger) fault)

-- what a store had whose rows, where they are told, were some of those before, with the start after
pub record StoodUnlike (intervals : List Interval) (told : Option Rows) (before : Rows → Type 0) (bytes : List ℕ)
    (place : BackupBad) : Type 0 where
  pub ledger : Ledger
  pub sound : IsRaised IsSound true ledger
  pub stood : IfSome told (λ _. IsRaised (HasStood before) true ledger)
  -- all its intervals are these
  pub fits : FitRows intervals ledger.levels
  -- for its units that wait the file of these bytes isn't good
  pub fault : IsOpenFault bytes (open_locks ledger) (opening.Bad place)

-- a file of these bytes that isn't good for such a store is told by its place
abbrev pub IsBadFile : List Interval → Option Rows → (Rows → Type 0) → List ℕ → HallFault → Type 0
IsBadFile intervals told before bytes (hall.Bad (bad.Backup place)) = StoodUnlike intervals told before bytes place
IsBadFile intervals told before bytes fault = Unit {0}

-- what a stop may leave of the backup file where it isn't opened for the locks of these units, by what it might have
-- left before: all that was there, and only where the disk failed or memory was wanting less lists of other units
abbrev pub LeavesFile : List UnitLocks → HallFault → (images images_now : List ℕ → Type 0) → Type 0
LeavesFile units hall.Backup images images_now = Follows (FreesOthers units) images images_now
LeavesFile units hall.NoMemory images images_now = Follows (FreesOthers units) images images_now
LeavesFile units fault images images_now = Follows Keeps images images_now

-- the same for the units that wait in a store whose rows, where they are told, were some of those before
pub record FreesUnlike (told : Option Rows) (before : Rows → Type 0)
    (images images_now : List ℕ → Type 0) : Type 0 where
  pub ledger : Ledger
  pub sound : IsRaised IsSound true ledger
  pub stood : IfSome told (λ _. IsRaised (HasStood before) true ledger)
  pub frees : Follows (FreesOthers (open_locks ledger)) images images_now

-- What a stop may leave of the backup file of a hall that isn't opened: all that it might have left before. Only where
-- the disk failed, or memory was wanting behind the store's opening, lists of units that don't wait may be gone.
abbrev pub LeavesFileOf : Option Rows → (Rows → Type 0) → HallFault → (images images_now : List ℕ → Type 0) → Type 0
LeavesFileOf told before hall.Backup images images_now = FreesUnlike told before images images_now
LeavesFileOf told before hall.NoMemory images images_now =
    Follows Keeps images images_now ⊎ FreesUnlike told before images images_now
LeavesFileOf told before fault images images_now = Follows Keeps images images_now

-- what is said of a hall that is refused by its store, before its backup file is touched
abbrev pub OnStore : HallFault → Type 0 → Type 0
OnStore hall.Store P = P
OnStore hall.Backup P = Unit {0}
OnStore (hall.Bad (bad.Store table row)) P = P
OnStore (hall.Bad place) P = Unit {0}
OnStore hall.NoStart P = P
OnStore (hall.Interval row) P = P
OnStore hall.NoMemory P = Unit {0}

-- the disk's count of faults has risen just where the fault is the disk's
abbrev pub CountsFileFault : HallFault → ℕ → ℕ → Type 0
CountsFileFault hall.Backup before now = (before ≤ now) × Rose before now
CountsFileFault fault before now = now ≡ before

-- a store that may have been left before has a ledger in which that row is the first
abbrev pub StoodUnfit : List Interval → (Rows → Type 0) → ℕ → Type 0
StoodUnfit intervals before row = (ledger : Ledger) × HasStood before ledger
    × IsFirstUnfit intervals (in_row_order ledger.levels) row

-- Why a hall with these intervals isn't opened over a store that has these rows, and whose rows were some of those
-- before: it isn't good, is at the last start that there is, or has an interval that isn't one of these. Of the backup
-- file nothing is said here.
abbrev pub IsHallFault : List Interval → (Rows → Type 0) → Rows → HallFault → Type 0
IsHallFault intervals before rows hall.Store = Unit {0}
IsHallFault intervals before rows hall.Backup = Unit {0}
IsHallFault intervals before rows (hall.Bad (bad.Store table row)) = IsBadPlace rows table row
IsHallFault intervals before rows (hall.Bad (bad.Backup place)) = Unit {0}
IsHallFault intervals before rows (hall.Bad (bad.Replica first second)) = ⊥
IsHallFault intervals before rows hall.NoStart = (ledger : Ledger) × StandFor rows ledger × (ledger.start ≡ 4294967295)
IsHallFault intervals before rows (hall.Interval row) = StoodUnfit intervals before row
IsHallFault intervals before rows hall.NoMemory = Unit {0}

-- the same of a store that doesn't tell its rows
abbrev pub MayBeHallFault : HallFault → Type 0
MayBeHallFault hall.Store = Unit {0}
MayBeHallFault hall.Backup = Unit {0}
MayBeHallFault (hall.Bad (bad.Store table row)) = (table < 8) × (1 ≤ row)
MayBeHallFault (hall.Bad (bad.Backup place)) = Unit {0}
MayBeHallFault (hall.Bad (bad.Replica first second)) = ⊥
MayBeHallFault hall.NoStart = Unit {0}
MayBeHallFault (hall.Interval row) = 1 ≤ row
MayBeHallFault hall.NoMemory = Unit {0}

-- the count of faults has risen just where the fault is the store's
abbrev pub CountsHallFault : HallFault → ℕ → ℕ → Type 0
CountsHallFault hall.Store before now = (before ≤ now) × Rose before now
CountsHallFault hall.Backup before now = now ≡ before
CountsHallFault (hall.Bad place) before now = now ≡ before
CountsHallFault hall.NoStart before now = now ≡ before
CountsHallFault (hall.Interval row) before now = now ≡ before
CountsHallFault hall.NoMemory before now = now ≡ before

-- A store that is refused keeps its rows, unless the number of the next start was to be written before. Memory may be
-- wanting before and behind that.
abbrev pub OnKept : HallFault → Type 0 → Type 0
OnKept hall.Store P = Unit {0}
OnKept hall.Backup P = Unit {0}
OnKept (hall.Bad (bad.Store table row)) P = P
OnKept (hall.Bad place) P = Unit {0}
OnKept hall.NoStart P = P
OnKept (hall.Interval row) P = Unit {0}
OnKept hall.NoMemory P = Unit {0}

-- what is said of a store that isn't good, or that is at the last start
abbrev pub OnBadStore : HallFault → Type 0 → Type 0
OnBadStore hall.Store P = Unit {0}
OnBadStore hall.Backup P = Unit {0}
OnBadStore (hall.Bad (bad.Store table row)) P = P
OnBadStore (hall.Bad place) P = Unit {0}
OnBadStore hall.NoStart P = P
OnBadStore (hall.Interval row) P = Unit {0}
OnBadStore hall.NoMemory P = Unit {0}
