-- What a program leaves that didn't open its store, and why it didn't.
use Rattle.std.proofs.Common.{◌≡◌, inl, inr, ℕ, ◌+◌, Bool, true, false, ◌&&◌, not, cond, List, [], ◌∷◌, Option, Some, None, IfSome, IsTrue, refl, sym, ◌∙◌, subst, arith}
use Rattle.std.specs.Prelude.{is_some}
use Rattle.std.specs.List.{list_all, position, position_from}
use Rattle.std.proofs.lemmas.Bool.{false≢true}
use Rattle.std.proofs.lemmas.Iterator.Adapters.{position_from-zero}
use Rattle.std.proofs.lemmas.Option.{none-some}
use Rattle.enq_base.specs.Causes.{Rose}
use Rattle.enq_base.specs.declared.condition.BackupBad.{BackupBad}
use Rattle.enq_base.specs.declared.condition.Bad.TheVariants as bad
use Rattle.enq_server.specs.Faults.{IsOpenFault}
use Rattle.enq_server.specs.declared.fault.OpenFault.TheVariants as opening
use Rattle.keeper_api.specs.Keeping.{IsWithin}
use Rattle.keeper_api.specs.Rows.{Rows}
use Rattle.landscape.specs.declared.land_fault.LandFault.{LandFault}
use Rattle.landscape.specs.declared.land_fault.LandFault.TheVariants as land_fault
use Rattle.landscape.specs.declared.landscape.Landscape.{Landscape}
use Rattle.lock_entry.specs.declared.entry.Entry.{Entry}
use Rattle.number_ranges.specs.declared.interval.Interval.{Interval}
use Rattle.ledger_steps.specs.Intervals.{in_row_order}
use Rattle.posting.specs.Reopening.{HasStood, MayBeLeftBy}
use Rattle.ledger_steps.specs.Starts.{IsRaised}
use Rattle.ledger_steps.specs.Views.{open_locks}
use Rattle.ledger_steps.specs.Levels.{fits}
use Rattle.store_reading.specs.Good.{IsBadPlace}
use Rattle.update_records.specs.Ledger.{IsGood, Ledger}
use Rattle.hall_calls.proofs.lemmas.StoreRead.{bad_is_not_good}
use Rattle.hall_model.specs.declared.command.PastEntry.{PastEntry}
use Rattle.hall.specs.declared.opening.HallFault.{HallFault}
use Rattle.hall.specs.declared.opening.HallFault.TheVariants as fault
use Rattle.hall.specs.Faults.{CountsFileFault, CountsHallFault, FreesUnlike, IsBadFile, IsHallFault, LeavesFileOf, MayBeHallFault, OnBadStore, OnKept, OnStore, StoodUnfit, StoodUnlike}
use Rattle.script_runner.specs.Replay.{Seen}
use Rattle.script_runner.specs.declared.runner.Why.{Why}
use Rattle.script_runner.specs.declared.runner.Why.TheVariants.{BadBackup}
use Rattle.enq_cmd.specs.Main.{CountsFiling, CountsOpening, EndsComplete, FitAll, FreesOthersOf, HasNoStart, StoodAtLast, IsBadStore, IsGoodFile, IsOpeningEnd}
use Rattle.enq_cmd.specs.Main.{IsRead, IsUnfitEnd, IsUnopened, MayRemain, MayRemainFiled, OnStoreEnd, TellsBadFile, land_end, opening_end}

opening_ends : (f : HallFault) → MayBeHallFault f → IsOpeningEnd (opening_end f)
opening_ends fault.Store h = refl
opening_ends fault.Backup h = refl
opening_ends (fault.Bad (bad.Store table row)) h = h
opening_ends (fault.Bad (bad.Backup place)) h = tt
opening_ends (fault.Bad (bad.Replica first second)) h = tt
opening_ends fault.NoStart h = tt
opening_ends (fault.Interval row) h = (refl, omega (arith, h))
opening_ends fault.NoMemory h = tt

-- what a stop may leave of a store that wasn't opened
remains : (f : HallFault) (before after : Rows → Type 0) → ((rows : Rows) → after rows → MayBeLeftBy before true rows) → OnKept f (IsWithin after before)
    → (rows : Rows) → after rows → MayRemain (opening_end f) before rows
remains fault.Store before after left kept = left
remains fault.Backup before after left kept = left
remains (fault.Bad (bad.Store table row)) before after left kept = kept
remains (fault.Bad (bad.Backup place)) before after left kept = left
remains (fault.Bad (bad.Replica first second)) before after left kept = left
remains fault.NoStart before after left kept = kept
remains (fault.Interval row) before after left kept = left
remains fault.NoMemory before after left kept = left

told_left : (o : Option Rows) (P : Type 0) → IsTrue (is_some o) → IfSome o (λ _. P) → P
told_left None P told h = absurd (cc)
told_left (Some rows) P told h = h

opening_counts : (f : HallFault) (n m : ℕ) → CountsHallFault f n m → CountsOpening (opening_end f) n m
opening_counts fault.Store n m h = h
opening_counts fault.Backup n m h = h
opening_counts (fault.Bad (bad.Store table row)) n m h = h
opening_counts (fault.Bad (bad.Backup place)) n m h = h
opening_counts (fault.Bad (bad.Replica first second)) n m h = h
opening_counts fault.NoStart n m h = h
opening_counts (fault.Interval row) n m h = h
opening_counts fault.NoMemory n m h = h

filing_counts : (f : HallFault) (n m : ℕ) → CountsFileFault f n m → CountsFiling (opening_end f) n m
filing_counts fault.Store n m h = h
filing_counts fault.Backup n m h = h
filing_counts (fault.Bad (bad.Store table row)) n m h = h
filing_counts (fault.Bad (bad.Backup place)) n m h = h
filing_counts (fault.Bad (bad.Replica first second)) n m h = h
filing_counts fault.NoStart n m h = h
filing_counts (fault.Interval row) n m h = h
filing_counts fault.NoMemory n m h = h

-- the backup file of a store that isn't opened
store_end : (f : HallFault) (P : Type 0) → OnStore f P → OnStoreEnd (opening_end f) P
store_end fault.Store P h = h
store_end fault.Backup P h = tt
store_end (fault.Bad (bad.Store table row)) P h = h
store_end (fault.Bad (bad.Backup place)) P h = tt
store_end (fault.Bad (bad.Replica first second)) P h = tt
store_end fault.NoStart P h = h
store_end (fault.Interval row) P h = h
store_end fault.NoMemory P h = tt

freed_of : (t : Bool) (o : Option Rows) (before : Rows → Type 0) (images images_now : List ℕ → Type 0) → is_some o ≡ t
    → FreesUnlike o before images images_now → FreesOthersOf t before images images_now
freed_of t o before images images_now told h = record {
  ledger = h.ledger;
  sound = h.sound;
  stood = λ yes. told_left o (IsRaised (HasStood before) true h.ledger) (subst (λ b. IsTrue b) (sym told) yes) h.stood;
  frees = h.frees;
}

remains_filed : (f : HallFault) (t : Bool) (o : Option Rows) (before : Rows → Type 0) (images images_now : List ℕ → Type 0) → is_some o ≡ t
    → LeavesFileOf o before f images images_now → MayRemainFiled t before (opening_end f) images images_now
remains_filed fault.Store t o before images images_now told h = h
remains_filed fault.Backup t o before images images_now told h = freed_of t o before images images_now told h
remains_filed (fault.Bad (bad.Store table row)) t o before images images_now told h = h
remains_filed (fault.Bad (bad.Backup place)) t o before images images_now told h = h
remains_filed (fault.Bad (bad.Replica first second)) t o before images images_now told h = h
remains_filed fault.NoStart t o before images images_now told h = h
remains_filed (fault.Interval row) t o before images images_now told h = h
remains_filed fault.NoMemory t o before images images_now told (inl kept) = inl kept
remains_filed fault.NoMemory t o before images images_now told (inr freed) = inr (freed_of t o before images images_now told freed)

-- what is known of the backup file of a store that isn't opened
pub record IsFileLeft {D : Type 0} (may_leave : D → List ℕ → Type 0) (tells : Bool) (o : Option Rows) (before : Rows → Type 0) (f : HallFault)
    (disk disk_now : D) : Type 0 where
  pub unfiled : OnStore f (disk_now ≡ disk)
  pub images : IsTrue tells → LeavesFileOf o before f (may_leave disk) (may_leave disk_now)

-- the store wasn't opened
pub unopened : {D L : Type 0} {bytes : List ℕ} {linked : Bool} {list : Option (List Entry)} (f : HallFault) (t : Bool) (o : Option Rows)
    (before after : Rows → Type 0) (tells : Bool) (may_leave : D → List ℕ → Type 0)
    (disk disk_now : D) (link link_now : L) (old new : Seen) (past : List PastEntry) (why : Why)
    → why ≡ opening_end f → is_some o ≡ t → record new { store_faults = old.store_faults; file_faults = old.file_faults } ≡ old → MayBeHallFault f
    → CountsHallFault f old.store_faults new.store_faults → CountsFileFault f old.file_faults new.file_faults → past ≡ []
    → IfSome o (λ _. (rows : Rows) → after rows → MayBeLeftBy before true rows) → OnKept f (IsWithin after before)
    → IsFileLeft may_leave tells o before f disk disk_now → link_now ≡ link
    → IsUnopened (record { told = t; rows = before; tells = tells; bytes = bytes; images = may_leave disk; linked = linked })
    (record { rows = after; images = may_leave disk_now; list = list }) disk disk_now link link_now old new past why
unopened f t o before after tells may_leave disk disk_now link link_now old new past why is told same may counts file_counts none left kept file unlinked =
    record {
      end = subst IsOpeningEnd (sym is) (opening_ends f may);
      same = same;
      counts = subst (λ w. CountsOpening w old.store_faults new.store_faults) (sym is) (opening_counts f old.store_faults new.store_faults counts);
      file_counts = subst (λ w. CountsFiling w old.file_faults new.file_faults) (sym is) (filing_counts f old.file_faults new.file_faults file_counts);
      none = none;
      left = λ yes rows may_be.
          let all = told_left o ((rows : Rows) → after rows → MayBeLeftBy before true rows) (subst (λ b. IsTrue b) (sym told) yes) left in
          subst (λ w. MayRemain w before rows) (sym is) (remains f before after all kept rows may_be);
      unfiled = subst (λ w. OnStoreEnd w (disk_now ≡ disk)) (sym is) (store_end f (disk_now ≡ disk) file.unfiled);
      filed = λ yes. subst (λ w. MayRemainFiled t before w (may_leave disk) (may_leave disk_now)) (sym is)
          (remains_filed f t o before (may_leave disk) (may_leave disk_now) told (file.images yes));
      unlinked = unlinked;
    }

not_bad : (may_be : Rows → Type 0) (o : Option Rows) (table row : ℕ) → IsTrue (is_some o) → ((rows : Rows) → may_be rows → IsGood rows)
    → IfSome o (λ rows. IsBadPlace rows table row) → IfSome o may_be → ⊥
not_bad may_be None table row told good bad found = absurd (cc)
not_bad may_be (Some rows) table row told good bad found = bad_is_not_good rows table row bad (good rows found)

at_last : (intervals : List Interval) (may_be : Rows → Type 0) (o : Option Rows) → IsTrue (is_some o)
    → IfSome o (λ rows. IsHallFault intervals may_be rows fault.NoStart) → IfSome o may_be → StoodAtLast may_be
at_last intervals may_be None told why found = absurd (cc)
at_last intervals may_be (Some rows) told why found = (why.0, (rows, found, why.1), why.2)

-- where all rows pass a test, none is the first that doesn't
unfit_from : {X : Type 0} (test : X → Bool) (n k : ℕ) (xs : List X) → position_from (λ x. not (test x)) n xs ≡ Some k → list_all test xs ≡ true → ⊥
unfit_from test n k [] found all = absurd (none-some k found)
unfit_from test n k (x ∷ xs) found all =
    (elim (test x) as (λ b. cond (not b) (Some n) (position_from (λ y. not (test y)) (n + 1) xs) ≡ Some k → (b && list_all test xs) ≡ true → ⊥) [
      | true ↦ λ f a. unfit_from test (n + 1) k xs f a
      | false ↦ λ f a. false≢true a
    ]) found all

unfit_at : {X : Type 0} (test : X → Bool) (k : ℕ) (xs : List X) → position (λ x. not (test x)) xs ≡ Some k → list_all test xs ≡ true → ⊥
unfit_at test k xs found all = unfit_from test 0 k xs (sym (position_from-zero (λ x. not (test x)) xs) ∙ found) all

no_unfit : (land : Landscape) (may_be : Rows → Type 0) (row : ℕ) → FitAll land may_be → StoodUnfit land.ranges may_be row → ⊥
no_unfit land may_be row fit stood = unfit_at (fits land.ranges) stood.2.before (in_row_order stood.0.levels) stood.2.first (fit stood.0 stood.1)

not_unfit : (land : Landscape) (may_be : Rows → Type 0) (o : Option Rows) (row : ℕ) → IsTrue (is_some o) → FitAll land may_be
    → IfSome o (λ _. StoodUnfit land.ranges may_be row) → ⊥
not_unfit land may_be None row told fit why = absurd (cc)
not_unfit land may_be (Some rows) row told fit why = no_unfit land may_be row fit why

-- why a store isn't opened whose rows are told
abbrev pub IsCause : Landscape → (Rows → Type 0) → HallFault → Option Rows → Type 0
IsCause land may_be f o = IfSome o (λ rows. IsHallFault land.ranges may_be rows f)

-- ---- a backup file that has the locks of these units

place_told : (at place : BackupBad) → BadBackup at ≡ BadBackup place → at ≡ place
place_told at place is = cc

-- a file that has the locks of the units that wait isn't told to be bad
not_bad_file : (intervals : List Interval) (may_be : Rows → Type 0) (o : Option Rows) (bytes : List ℕ) (place : BackupBad) → IsTrue (is_some o)
    → IsGoodFile may_be bytes → StoodUnlike intervals o may_be bytes place → ⊥
not_bad_file intervals may_be o bytes place told good unlike =
    let stood = told_left o (IsRaised (HasStood may_be) true unlike.ledger) told unlike.stood in
    good stood.0 stood.1 place (subst (λ (l : Ledger). IsOpenFault bytes (open_locks l) (opening.Bad place)) stood.2 unlike.fault)

-- the bad backup file of a store that isn't opened is told by its place
pub bad_file : (left : Option (List ℕ)) (land : Landscape) (told : Option Rows) (may_be : Rows → Type 0) (bytes : List ℕ) (f : HallFault) (place : BackupBad)
    → IsRead left land → MayBeHallFault f
    → IsBadFile land.ranges told may_be bytes f → opening_end f ≡ BadBackup place → TellsBadFile left told may_be bytes place
bad_file left land told may_be bytes fault.Store place read may unlike is = absurd (cc)
bad_file left land told may_be bytes fault.Backup place read may unlike is = absurd (cc)
bad_file left land told may_be bytes (fault.Bad (bad.Store table row)) place read may unlike is = absurd (cc)
bad_file left land told may_be bytes (fault.Bad (bad.Backup at)) place read may unlike is =
    record { land = land; read = read; stood = subst (StoodUnlike land.ranges told may_be bytes) (place_told at place is) unlike }
bad_file left land told may_be bytes (fault.Bad (bad.Replica first second)) place read may unlike is = absurd may
bad_file left land told may_be bytes fault.NoStart place read may unlike is = absurd (cc)
bad_file left land told may_be bytes (fault.Interval row) place read may unlike is = absurd (cc)
bad_file left land told may_be bytes fault.NoMemory place read may unlike is = absurd (cc)

-- and a landscape that isn't read says nothing of it
pub land_not_file : (f : LandFault) (place : BackupBad) → land_end f ≡ BadBackup place → ⊥
land_not_file (land_fault.Bad rule at) place is = cc
land_not_file land_fault.Failed place is = cc
land_not_file land_fault.NoMemory place is = cc

-- what is known of the backup file where no count rose
pub record IsFileCalm (intervals : List Interval) (may_be : Rows → Type 0) (told : Option Rows) (bytes : List ℕ) (f : HallFault) (n m : ℕ) : Type 0 where
  pub good : IsGoodFile may_be bytes
  pub bad : IsBadFile intervals told may_be bytes f
  pub counts : CountsFileFault f n m
  pub calm : Rose n m → ⊥

-- where no count rose a good store with the landscape's intervals is opened, unless memory is wanting or it has no next start
pub opening_completes : (land : Landscape) (may_be : Rows → Type 0) (before after : Option Rows) (f : HallFault) (n m : ℕ) (bytes : List ℕ) (d e : ℕ)
    (why : Why)
    → why ≡ opening_end f → is_some after ≡ is_some before → IsTrue (is_some before) → ((rows : Rows) → may_be rows → IsGood rows) → FitAll land may_be
    → IsCause land may_be f after → OnBadStore f (IfSome after may_be) → CountsHallFault f n m → (Rose n m → ⊥)
    → IsFileCalm land.ranges may_be after bytes f d e
    → EndsComplete may_be why
opening_completes land may_be before after fault.Store n m bytes d e why end same told good fit why_not found counts calm file = absurd (calm counts.1)
opening_completes land may_be before after fault.Backup n m bytes d e why end same told good fit why_not found counts calm file =
    absurd (file.calm file.counts.1)
opening_completes land may_be before after (fault.Bad (bad.Backup place)) n m bytes d e why end same told good fit why_not found counts calm file =
    absurd (not_bad_file land.ranges may_be after bytes place (subst (λ b. IsTrue b) (sym same) told) file.good file.bad)
opening_completes land may_be before after (fault.Bad (bad.Replica first second)) n m bytes d e why end same told good fit why_not found counts calm file =
    absurd (told_left after ⊥ (subst (λ b. IsTrue b) (sym same) told) why_not)
opening_completes land may_be before after (fault.Bad (bad.Store table row)) n m bytes d e why end same told good fit why_not found counts calm file =
    absurd (not_bad may_be after table row (subst (λ b. IsTrue b) (sym same) told) good why_not found)
opening_completes land may_be before after fault.NoStart n m bytes d e why end same told good fit why_not found counts calm file =
    inr (inr (end, at_last land.ranges may_be after (subst (λ b. IsTrue b) (sym same) told) why_not found))
opening_completes land may_be before after (fault.Interval row) n m bytes d e why end same told good fit why_not found counts calm file =
    absurd (not_unfit land may_be after row (subst (λ b. IsTrue b) (sym same) told) fit why_not)
opening_completes land may_be before after fault.NoMemory n m bytes d e why end same told good fit why_not found counts calm file = inr (inl end)

-- a bad store is told by its place
pub opening_place : (land : Landscape) (may_be : Rows → Type 0) (f : HallFault) (o : Option Rows) → IsCause land may_be f o
    → IfSome o (λ rows. IsBadStore rows (opening_end f))
opening_place land may_be f None h = tt
opening_place land may_be fault.Store (Some rows) h = tt
opening_place land may_be fault.Backup (Some rows) h = tt
opening_place land may_be (fault.Bad (bad.Backup place)) (Some rows) h = tt
opening_place land may_be (fault.Bad (bad.Replica first second)) (Some rows) h = tt
opening_place land may_be (fault.Bad (bad.Store table row)) (Some rows) h = (h, bad_is_not_good rows table row h)
opening_place land may_be fault.NoStart (Some rows) h = tt
opening_place land may_be (fault.Interval row) (Some rows) h = tt
opening_place land may_be fault.NoMemory (Some rows) h = tt

-- one without a next start stands at the last
pub opening_last : (land : Landscape) (may_be : Rows → Type 0) (f : HallFault) (o : Option Rows) → IsCause land may_be f o
    → IfSome o (λ rows. HasNoStart rows (opening_end f))
opening_last land may_be f None h = tt
opening_last land may_be fault.Store (Some rows) h = tt
opening_last land may_be fault.Backup (Some rows) h = tt
opening_last land may_be (fault.Bad (bad.Store table row)) (Some rows) h = tt
opening_last land may_be (fault.Bad (bad.Backup place)) (Some rows) h = tt
opening_last land may_be (fault.Bad (bad.Replica first second)) (Some rows) h = tt
opening_last land may_be fault.NoStart (Some rows) h = h
opening_last land may_be (fault.Interval row) (Some rows) h = tt
opening_last land may_be fault.NoMemory (Some rows) h = tt

-- and one with an interval that isn't the landscape's is told by its row
pub opening_unfit : (left : Option (List ℕ)) (land : Landscape) (may_be : Rows → Type 0) (f : HallFault) (o : Option Rows) → IsRead left land
    → IsCause land may_be f o → IfSome o (λ _. IsUnfitEnd left may_be (opening_end f))
opening_unfit left land may_be f None read h = tt
opening_unfit left land may_be fault.Store (Some rows) read h = tt
opening_unfit left land may_be fault.Backup (Some rows) read h = tt
opening_unfit left land may_be (fault.Bad (bad.Store table row)) (Some rows) read h = tt
opening_unfit left land may_be (fault.Bad (bad.Backup place)) (Some rows) read h = tt
opening_unfit left land may_be (fault.Bad (bad.Replica first second)) (Some rows) read h = tt
opening_unfit left land may_be fault.NoStart (Some rows) read h = tt
opening_unfit left land may_be (fault.Interval row) (Some rows) read h = λ rule. (land, read, record { row = row; stood = h; told = refl })
opening_unfit left land may_be fault.NoMemory (Some rows) read h = tt
