-- Why a hall isn't opened, by why its books, its ranges or its backup file aren't.
use Rattle.std.proofs.Common.{◌≡◌, refl, inl, inr, ℕ, Bool, Option, Some, None, IfSome, List, subst, arith}
use Rattle.enq_base.specs.declared.condition.Bad.TheVariants as bad
use Rattle.bk_disk.specs.Disk.{Follows}
use Rattle.backup_file.specs.File.{Keeps}
use Rattle.enq_server.specs.Faults as files
use Rattle.enq_server.specs.Faults.{IsOpenFault}
use Rattle.enq_server.specs.Recovery.{FreesOthers}
use Rattle.enq_server.proofs.Images.{keeps_leaves}
use Rattle.enq_server.specs.declared.fault.OpenFault.{OpenFault}
use Rattle.enq_server.specs.declared.fault.OpenFault.TheVariants as opening
use Rattle.keeper_api.specs.Rows.{Rows}
use Rattle.lock_entry.specs.declared.entry.UnitLocks.{UnitLocks}
use Rattle.number_ranges.specs.declared.interval.Interval.{Interval}
use Rattle.ledger_steps.specs.Intervals.{in_row_order}
use Rattle.posting.specs.Opening.{CountsFault}
use Rattle.posting.specs.Reopening.{HasStood, IsOpeningFault}
use Rattle.ledger_steps.specs.Starts.{IsRaised}
use Rattle.posting.specs.declared.opening.BooksFault.{BooksFault}
use Rattle.posting.specs.declared.opening.BooksFault.TheVariants as books
use Rattle.ledger_steps.specs.Views.{open_locks}
use Rattle.ledger_steps.specs.Levels.{FitRows, IsFirstUnfit}
use Rattle.store_reading.specs.Good.{IsSound}
use Rattle.update_records.specs.Ledger.{Ledger, Levels}
use Rattle.hall.specs.Faults.{CountsFileFault, CountsHallFault, IsBadFile, IsFileFault, IsHallFault, IsLateFault, IsRangesFault, LeavesFile, LeavesFileOf}
use Rattle.hall.specs.Faults.{MayBeHallFault, OnBadStore, OnKept, file_fault, hall_fault}
use Rattle.hall.specs.declared.opening.HallFault.{HallFault}
use Rattle.hall.specs.declared.opening.HallFault.TheVariants as hall
use Rattle.std.specs.Prelude.{true, Result, Ok, Err, IfOk, IfErr, IsTrue}

-- ---- the books aren't opened

pub books_why : (intervals : List Interval) (before : Rows → Type 0) (rows : Rows) (f : BooksFault) → IsOpeningFault true rows f
    → IsHallFault intervals before rows (hall_fault f)
books_why intervals before rows books.StoreFault h = tt
books_why intervals before rows (books.BadStore table row) h = h
books_why intervals before rows books.NoStart h = (h.1, h.2, h.3)
books_why intervals before rows books.NoMemory h = tt

-- a fault of the books says nothing of the backup file, which isn't touched then
pub books_file : (intervals : List Interval) (told : Option Rows) (before : Rows → Type 0) (bytes : List ℕ) (f : BooksFault)
    → IsBadFile intervals told before bytes (hall_fault f)
books_file intervals told before bytes books.StoreFault = tt
books_file intervals told before bytes (books.BadStore table row) = tt
books_file intervals told before bytes books.NoStart = tt
books_file intervals told before bytes books.NoMemory = tt

pub books_file_counts : (f : BooksFault) (n m : ℕ) → m ≡ n → CountsFileFault (hall_fault f) n m
books_file_counts books.StoreFault n m same = same
books_file_counts (books.BadStore table row) n m same = same
books_file_counts books.NoStart n m same = same
books_file_counts books.NoMemory n m same = same

-- ---- a stored interval isn't one of the landscape's

ranges_why : (intervals : List Interval) (before : Rows → Type 0) (rows : Rows) (ledger : Ledger) (f : HallFault) → IsRaised (HasStood before) true ledger
    → IsRangesFault intervals ledger.levels f → IsHallFault intervals before rows f
ranges_why intervals before rows ledger (hall.Interval row) stood h =
    (stood.0, stood.1, subst (λ (l : Ledger). IsFirstUnfit intervals (in_row_order l.levels) row) stood.2 h)
ranges_why intervals before rows ledger _ stood h = absurd h

ranges_may : (intervals : List Interval) (levels : Levels) (f : HallFault) → IsRangesFault intervals levels f → MayBeHallFault f
ranges_may intervals levels (hall.Interval row) h = let place = h.place in omega (arith, place)
ranges_may intervals levels _ h = absurd h

ranges_kept : (intervals : List Interval) (levels : Levels) (f : HallFault) (P : Type 0) → IsRangesFault intervals levels f → OnKept f P
ranges_kept intervals levels (hall.Interval row) P h = tt
ranges_kept intervals levels _ P h = absurd h

ranges_bad : (intervals : List Interval) (levels : Levels) (f : HallFault) (P : Type 0) → IsRangesFault intervals levels f → OnBadStore f P
ranges_bad intervals levels (hall.Interval row) P h = tt
ranges_bad intervals levels _ P h = absurd h

ranges_counts : (intervals : List Interval) (levels : Levels) (f : HallFault) (n m : ℕ) → IsRangesFault intervals levels f → m ≡ n → CountsHallFault f n m
ranges_counts intervals levels (hall.Interval row) n m h same = same
ranges_counts intervals levels _ n m h same = absurd h

ranges_file : (intervals : List Interval) (levels : Levels) (told : Option Rows) (before : Rows → Type 0) (bytes : List ℕ) (f : HallFault)
    → IsRangesFault intervals levels f → IsBadFile intervals told before bytes f
ranges_file intervals levels told before bytes (hall.Interval row) h = tt
ranges_file intervals levels told before bytes _ h = absurd h

pub ranges_file_counts : (intervals : List Interval) (levels : Levels) (f : HallFault) (n m : ℕ) → IsRangesFault intervals levels f → m ≡ n
    → CountsFileFault f n m
ranges_file_counts intervals levels (hall.Interval row) n m h same = same
ranges_file_counts intervals levels _ n m h same = absurd h

-- ---- the backup file isn't opened

pub file_why : (tells : Bool) (bytes : List ℕ) (units : List UnitLocks) (f : OpenFault) → (IsTrue tells → IsOpenFault bytes units f)
    → IsFileFault tells bytes units (file_fault f)
file_why tells bytes units opening.Failed h = tt
file_why tells bytes units (opening.Bad place) h = h
file_why tells bytes units opening.NoMemory h = tt

pub file_counts : (f : OpenFault) (n m : ℕ) → files.CountsFault f n m → CountsFileFault (file_fault f) n m
file_counts opening.Failed n m h = h
file_counts (opening.Bad place) n m h = h
file_counts opening.NoMemory n m h = h

not_books : (intervals : List Interval) (before : Rows → Type 0) (rows : Rows) (tells : Bool) (bytes : List ℕ) (units : List UnitLocks) (f : HallFault)
    → IsFileFault tells bytes units f → IsHallFault intervals before rows f
not_books intervals before rows tells bytes units hall.Backup h = tt
not_books intervals before rows tells bytes units (hall.Bad (bad.Backup place)) h = tt
not_books intervals before rows tells bytes units hall.NoMemory h = tt
not_books intervals before rows tells bytes units _ h = absurd h

file_may : (tells : Bool) (bytes : List ℕ) (units : List UnitLocks) (f : HallFault) → IsFileFault tells bytes units f → MayBeHallFault f
file_may tells bytes units hall.Backup h = tt
file_may tells bytes units (hall.Bad (bad.Backup place)) h = tt
file_may tells bytes units hall.NoMemory h = tt
file_may tells bytes units _ h = absurd h

file_kept : (tells : Bool) (bytes : List ℕ) (units : List UnitLocks) (f : HallFault) (P : Type 0) → IsFileFault tells bytes units f → OnKept f P
file_kept tells bytes units hall.Backup P h = tt
file_kept tells bytes units (hall.Bad (bad.Backup place)) P h = tt
file_kept tells bytes units hall.NoMemory P h = tt
file_kept tells bytes units _ P h = absurd h

file_bad : (tells : Bool) (bytes : List ℕ) (units : List UnitLocks) (f : HallFault) (P : Type 0) → IsFileFault tells bytes units f → OnBadStore f P
file_bad tells bytes units hall.Backup P h = tt
file_bad tells bytes units (hall.Bad (bad.Backup place)) P h = tt
file_bad tells bytes units hall.NoMemory P h = tt
file_bad tells bytes units _ P h = absurd h

keeper_counts : (tells : Bool) (bytes : List ℕ) (units : List UnitLocks) (f : HallFault) (n m : ℕ) → IsFileFault tells bytes units f → m ≡ n
    → CountsHallFault f n m
keeper_counts tells bytes units hall.Backup n m h same = same
keeper_counts tells bytes units (hall.Bad (bad.Backup place)) n m h same = same
keeper_counts tells bytes units hall.NoMemory n m h same = same
keeper_counts tells bytes units _ n m h same = absurd h

file_told : (intervals : List Interval) (ledger : Ledger) (told : Option Rows) (before : Rows → Type 0) (tells : Bool) (bytes : List ℕ) (f : HallFault)
    → IsRaised IsSound true ledger → IfSome told (λ _. IsRaised (HasStood before) true ledger) → IsTrue tells → FitRows intervals ledger.levels
    → IsFileFault tells bytes (open_locks ledger) f → IsBadFile intervals told before bytes f
file_told intervals ledger told before tells bytes hall.Backup sound stood t fits h = tt
file_told intervals ledger told before tells bytes (hall.Bad (bad.Backup place)) sound stood t fits h =
    record { ledger = ledger; sound = sound; stood = stood; fits = fits; fault = h t }
file_told intervals ledger told before tells bytes hall.NoMemory sound stood t fits h = tt
file_told intervals ledger told before tells bytes _ sound stood t fits h = absurd h

-- ---- what is left of the backup file

-- a file that isn't touched
pub images_stay : (images : List ℕ → Type 0) → Follows Keeps images images
images_stay images = λ bytes may_be. (bytes, may_be, record { states = λ lists stands. stands; bytes = λ at broken. refl })

-- no list of another unit has to go
pub others_stay : (units : List UnitLocks) (images : List ℕ → Type 0) → Follows (FreesOthers units) images images
others_stay units images = keeps_leaves units opening.NoMemory images images (images_stay images)

-- nor does it where the books aren't opened
pub books_left : (told : Option Rows) (before : Rows → Type 0) (f : BooksFault) (images : List ℕ → Type 0)
    → LeavesFileOf told before (hall_fault f) images images
books_left told before books.StoreFault images = images_stay images
books_left told before (books.BadStore table row) images = images_stay images
books_left told before books.NoStart images = images_stay images
books_left told before books.NoMemory images = inl (images_stay images)

pub file_left : (units : List UnitLocks) (f : OpenFault) (old new : List ℕ → Type 0) → Follows (files.Leaves units f) old new
    → LeavesFile units (file_fault f) old new
file_left units opening.Failed old new h = h
file_left units (opening.Bad place) old new h = h
file_left units opening.NoMemory old new h = h

pub ranges_left : (intervals : List Interval) (levels : Levels) (units : List UnitLocks) (f : HallFault) (images : List ℕ → Type 0)
    → IsRangesFault intervals levels f → LeavesFile units f images images
ranges_left intervals levels units (hall.Interval row) images h = images_stay images
ranges_left intervals levels units _ images h = absurd h

-- behind the books
pub late_left : (ledger : Ledger) (told : Option Rows) (before : Rows → Type 0) (f : HallFault) (old new : List ℕ → Type 0) → IsRaised IsSound true ledger
    → IfSome told (λ _. IsRaised (HasStood before) true ledger)
    → LeavesFile (open_locks ledger) f old new → LeavesFileOf told before f old new
late_left ledger told before hall.Store old new sound stood h = h
late_left ledger told before hall.Backup old new sound stood h = record { ledger = ledger; sound = sound; stood = stood; frees = h }
late_left ledger told before (hall.Bad place) old new sound stood h = h
late_left ledger told before hall.NoStart old new sound stood h = h
late_left ledger told before (hall.Interval row) old new sound stood h = h
late_left ledger told before hall.NoMemory old new sound stood h = inr (record { ledger = ledger; sound = sound; stood = stood; frees = h })

-- ---- one of both

pub late_why : (intervals : List Interval) (before : Rows → Type 0) (rows : Rows) (ledger : Ledger) (tells : Bool) (bytes : List ℕ) (f : HallFault)
    → IsRaised (HasStood before) true ledger → IsLateFault intervals ledger tells bytes f → IsHallFault intervals before rows f
late_why intervals before rows ledger tells bytes f stood (inl h) = ranges_why intervals before rows ledger f stood h
late_why intervals before rows ledger tells bytes f stood (inr h) = not_books intervals before rows tells bytes (open_locks ledger) f h.1

pub late_may : (intervals : List Interval) (ledger : Ledger) (tells : Bool) (bytes : List ℕ) (f : HallFault) → IsLateFault intervals ledger tells bytes f
    → MayBeHallFault f
late_may intervals ledger tells bytes f (inl h) = ranges_may intervals ledger.levels f h
late_may intervals ledger tells bytes f (inr h) = file_may tells bytes (open_locks ledger) f h.1

pub late_kept : (intervals : List Interval) (ledger : Ledger) (tells : Bool) (bytes : List ℕ) (f : HallFault) (P : Type 0)
    → IsLateFault intervals ledger tells bytes f → OnKept f P
late_kept intervals ledger tells bytes f P (inl h) = ranges_kept intervals ledger.levels f P h
late_kept intervals ledger tells bytes f P (inr h) = file_kept tells bytes (open_locks ledger) f P h.1

pub late_bad : (intervals : List Interval) (ledger : Ledger) (tells : Bool) (bytes : List ℕ) (f : HallFault) (P : Type 0)
    → IsLateFault intervals ledger tells bytes f → OnBadStore f P
late_bad intervals ledger tells bytes f P (inl h) = ranges_bad intervals ledger.levels f P h
late_bad intervals ledger tells bytes f P (inr h) = file_bad tells bytes (open_locks ledger) f P h.1

pub late_counts : (intervals : List Interval) (ledger : Ledger) (tells : Bool) (bytes : List ℕ) (f : HallFault) (n m : ℕ)
    → IsLateFault intervals ledger tells bytes f → m ≡ n → CountsHallFault f n m
late_counts intervals ledger tells bytes f n m (inl h) same = ranges_counts intervals ledger.levels f n m h same
late_counts intervals ledger tells bytes f n m (inr h) same = keeper_counts tells bytes (open_locks ledger) f n m h.1 same

pub late_file : (intervals : List Interval) (ledger : Ledger) (told : Option Rows) (before : Rows → Type 0) (tells : Bool) (bytes : List ℕ) (f : HallFault)
    → IsRaised IsSound true ledger → IfSome told (λ _. IsRaised (HasStood before) true ledger) → IsTrue tells → IsLateFault intervals ledger tells bytes f
    → IsBadFile intervals told before bytes f
late_file intervals ledger told before tells bytes f sound stood t (inl h) = ranges_file intervals ledger.levels told before bytes f h
late_file intervals ledger told before tells bytes f sound stood t (inr h) = file_told intervals ledger told before tells bytes f sound stood t h.0 h.1

-- ---- more of what a result says

pub where_held : (o : Option Rows) (P : Type 0) (Q : Rows → Type 0) → ((rows : Rows) → P → Q rows) → IfSome o (λ _. P) → IfSome o Q
where_held None P Q f h = tt
where_held (Some rows) P Q f h = f rows h

pub held_more : (o : Option Rows) (P Q : Rows → Type 0) → ((rows : Rows) → P rows → Q rows) → IfSome o P → IfSome o Q
held_more None P Q f h = tt
held_more (Some rows) P Q f h = f rows h

-- ---- either way

pub ok_more : {A B : Type 0} (r : Result A B) (P Q : A → Type 0) → ((x : A) → P x → Q x) → IfOk r P → IfOk r Q
ok_more (Ok x) P Q f h = f x h
ok_more (Err e) P Q f h = tt

pub err_more : {A B : Type 0} (r : Result A B) (P Q : B → Type 0) → ((e : B) → P e → Q e) → IfErr r P → IfErr r Q
err_more (Ok x) P Q f h = tt
err_more (Err e) P Q f h = f e h

pub err_two : {A B : Type 0} (r : Result A B) (P Q R : B → Type 0) → ((e : B) → P e → Q e → R e) → IfErr r P → IfErr r Q → IfErr r R
err_two (Ok x) P Q R f h k = tt
err_two (Err e) P Q R f h k = f e h k

pub ok_two : {A B : Type 0} (r : Result A B) (P Q R : A → Type 0) → ((x : A) → P x → Q x → R x) → IfOk r P → IfOk r Q → IfOk r R
ok_two (Ok x) P Q R f h k = f x h k
ok_two (Err e) P Q R f h k = tt
