-- The lists of the backup file as calls end: with a part that is posted, a unit that is cancelled or tried again, and numbers.
use Rattle.std.proofs.Common.{◌≡◌, ℕ, Bool, true, false, not, ◌&&◌, List, refl, sym, ap, ◌∙◌, subst}
use Rattle.std.specs.Prelude.{Option, Some, None, IsTrue}
use Rattle.backup_file.specs.Backup.{BackupView, IsReady}
use Rattle.backup_file.specs.Lists.{is_known}
use Rattle.backup_file.specs.declared.handed.Handed.{Handed}
use Rattle.enq_base.specs.declared.unit_id.UnitId.{UnitId}
use Rattle.enq_base.specs.Owners.{same_unit}
use Rattle.enq_base.specs.declared.owner.UnitKey.{UnitKey}
use Rattle.enq_base.specs.declared.refusal.Refusal.TheVariants as refusal
use Rattle.enq_base.specs.declared.unit.Num.{Num as Number}
use Rattle.enq_base.specs.declared.unit.Status.{Status}
use Rattle.enq_base.specs.declared.unit.Status.TheVariants.{Open, Posted, Bad, Closed, Bad2, Cancelled}
use Rattle.ledger_steps.specs.Intervals.{with_intervals}
use Rattle.ledger_steps.specs.Posts.{WaitsFor, kind_for}
use Rattle.ledger_steps.specs.declared.step.Outcome.{Outcome}
use Rattle.update_records.specs.Growing.{with_mark, with_unit}
use Rattle.update_records.specs.Ledger.{Ledger}
use Rattle.update_records.specs.Marks.{may_follow, status_of}
use Rattle.update_records.specs.declared.records.MarkKind.TheVariants.{Again1, Again2, Gone, Num}
use Rattle.update_records.specs.declared.stored.StoredInterval.{StoredInterval}
use Rattle.hall_calls.specs.Written.{OnStoreFailure}
use Rattle.enq_server.specs.Recovery.{AreWith}
use Rattle.enq_server.specs.Server.{lasting, with_list}
use Rattle.update_records.specs.declared.records.Unit.{Unit as UnitOfWork}
use Rattle.hall_calls.specs.Commits.{IsOfCommit, RecordsNumbers}
use Rattle.hall_calls.specs.Filing.{AreWaiting, FilesAs, HasOpenLists, IsSaved, is_open, lists_ended, locks_ended, stays_known}
use Rattle.lock_entry.specs.declared.entry.Entry.{Entry}
use Rattle.hall_calls.specs.OpenLists.{AgreeAll, AreOpenLists}
use Rattle.hall_model.specs.OpenUnits.{waits_with_locks}
use Rattle.hall_model.specs.Step.{locks_without, may_cancel}
use Rattle.hall_model.specs.declared.command.Reply.TheVariants as reply
use Rattle.hall_model.specs.declared.command.Session.{Session}
use Rattle.ledger_steps.specs.declared.step.Step.TheVariants.{Record, Draw}
use Rattle.hall_calls.specs.declared.units.Written.{Written}
use Rattle.hall_calls.specs.declared.units.Written.TheVariants.{Answered, Failed}
use Rattle.hall_calls.proofs.ending.OverFile.{AgreesBoth, answered_files, failed_before, same_file}
use Rattle.hall_calls.proofs.lemmas.WaitingLists.{committed_known, ended_known, ended_waiting, kept_waiting, same_known}
use Rattle.hall_calls.proofs.lists.BehindMarks.{again_same, committed_lists, ended_agree, ended_lists, ended_without, ends_first, ends_gone, ends_second}
use Rattle.hall_calls.proofs.lists.BehindMarks.{gone_same, gone_second_same, numbers_same, same_agree, same_lists, saved_locks, second_same, uncommitted_agree}
use Rattle.ledger_steps.specs.declared.part.Part.TheVariants.{V1, V2}
use Rattle.ledger_steps.specs.declared.part.Part.{Part}
use Rattle.ledger_steps.specs.Parts.{is_first}

-- ---- a part that is posted

pub posted_lists : (part : Part) (ledger : Ledger) (unit : UnitKey) (o : Outcome) → WaitsFor part ledger unit → (lists : List Handed)
    → AreOpenLists ledger lists → AreOpenLists (with_mark ledger unit (kind_for part o)) (lists_ended (is_first part) lists unit)
posted_lists V1 ledger unit o waits lists h = ended_lists ledger unit (kind_for V1 o) lists (ends_first o) h
posted_lists V2 ledger unit o waits lists h = same_lists ledger (with_mark ledger unit (kind_for V2 o)) lists (second_same ledger unit o waits) h

pub posted_agree : (part : Part) (ledger : Ledger) (unit : UnitKey) (o : Outcome) (lists : List Handed) → AgreeAll ledger lists
    → AgreeAll (with_mark ledger unit (kind_for part o)) lists
posted_agree V1 ledger unit o lists h = ended_agree ledger unit (kind_for V1 o) lists (ends_first o) h
posted_agree V2 ledger unit o lists h = ended_agree ledger unit (kind_for V2 o) lists (ends_second o) h

pub posted_half : (part : Part) (ledger : Ledger) (unit : UnitKey) (o : Outcome) (lists : List Handed) → AgreeAll ledger lists
    → AgreeAll (with_mark ledger unit (kind_for part o)) (lists_ended (is_first part) lists unit)
posted_half V1 ledger unit o lists h = ended_without ledger unit (kind_for V1 o) lists (ends_first o) h
posted_half V2 ledger unit o lists h = ended_agree ledger unit (kind_for V2 o) lists (ends_second o) h

posted_waiting : (part : Part) (ledger : Ledger) (unit : UnitKey) (o : Outcome) → WaitsFor part ledger unit → (other : UnitKey)
    → waits_with_locks (with_mark ledger unit (kind_for part o)) other ≡ (waits_with_locks ledger other && not (is_first part && same_unit unit other))
posted_waiting V1 ledger unit o waits other = ended_waiting ledger unit other (kind_for V1 o) (ends_first o)
posted_waiting V2 ledger unit o waits other =
    kept_waiting ledger (with_mark ledger unit (kind_for V2 o)) unit other (second_same ledger unit o waits)

-- the units whose lists stand then
pub posted_known : (part : Part) (ledger : Ledger) (unit : UnitKey) (o : Outcome) (old new : List UnitId) → WaitsFor part ledger unit
    → AreWaiting ledger old → ((other : UnitKey) → is_known other new ≡ stays_known (is_first part) unit old other)
    → AreWaiting (with_mark ledger unit (kind_for part o)) new
posted_known part ledger unit o old new waits are stays =
    ended_known ledger (with_mark ledger unit (kind_for part o)) (is_first part) unit old new are stays (posted_waiting part ledger unit o waits)

-- ---- a unit that is cancelled

pub gone_lists : (ledger : Ledger) (unit : UnitKey) (status : Status) → status_of ledger.units ledger.marks unit ≡ Some status → may_cancel status ≡ true
    → (lists : List Handed) → AreOpenLists ledger lists → AreOpenLists (with_mark ledger unit Gone) (lists_ended (is_open status) lists unit)
gone_lists ledger unit Open here may lists h = ended_lists ledger unit Gone lists ends_gone h
gone_lists ledger unit Bad here may lists h = same_lists ledger (with_mark ledger unit Gone) lists (gone_same ledger unit here) h
gone_lists ledger unit Bad2 here may lists h = same_lists ledger (with_mark ledger unit Gone) lists (gone_second_same ledger unit here) h
gone_lists ledger unit Posted here may lists h = absurd (cc)
gone_lists ledger unit Closed here may lists h = absurd (cc)
gone_lists ledger unit Cancelled here may lists h = absurd (cc)

pub gone_agree : (ledger : Ledger) (unit : UnitKey) (lists : List Handed) → AgreeAll ledger lists → AgreeAll (with_mark ledger unit Gone) lists
gone_agree ledger unit lists h = ended_agree ledger unit Gone lists ends_gone h

pub gone_half : (ledger : Ledger) (unit : UnitKey) (ends : Bool) (lists : List Handed) → AgreeAll ledger lists
    → AgreeAll (with_mark ledger unit Gone) (lists_ended ends lists unit)
gone_half ledger unit true lists h = ended_without ledger unit Gone lists ends_gone h
gone_half ledger unit false lists h = gone_agree ledger unit lists h

gone_waiting : (ledger : Ledger) (unit : UnitKey) (status : Status) → status_of ledger.units ledger.marks unit ≡ Some status → may_cancel status ≡ true
    → (other : UnitKey)
    → waits_with_locks (with_mark ledger unit Gone) other ≡ (waits_with_locks ledger other && not (is_open status && same_unit unit other))
gone_waiting ledger unit Open here may other = ended_waiting ledger unit other Gone ends_gone
gone_waiting ledger unit Bad here may other = kept_waiting ledger (with_mark ledger unit Gone) unit other (gone_same ledger unit here)
gone_waiting ledger unit Bad2 here may other = kept_waiting ledger (with_mark ledger unit Gone) unit other (gone_second_same ledger unit here)
gone_waiting ledger unit Posted here may other = absurd (cc)
gone_waiting ledger unit Closed here may other = absurd (cc)
gone_waiting ledger unit Cancelled here may other = absurd (cc)

pub gone_known : (ledger : Ledger) (unit : UnitKey) (status : Status) (old new : List UnitId) → status_of ledger.units ledger.marks unit ≡ Some status
    → may_cancel status ≡ true → AreWaiting ledger old → ((other : UnitKey) → is_known other new ≡ stays_known (is_open status) unit old other)
    → AreWaiting (with_mark ledger unit Gone) new
gone_known ledger unit status old new here may are stays =
    ended_known ledger (with_mark ledger unit Gone) (is_open status) unit old new are stays (gone_waiting ledger unit status here may)

-- the locks that end are those of a unit that waited
pub ended_so : (status : Status) (ends : Bool) (entries : List Entry) (unit : UnitKey) → ends ≡ is_open status
    → locks_ended ends entries unit ≡ locks_without status entries unit
ended_so status ends entries unit is = ap (λ b. locks_ended b entries unit) is ∙ by_status status
  where
    by_status : (x : Status) → locks_ended (is_open x) entries unit ≡ locks_without x entries unit
    by_status Open = refl
    by_status Posted = refl
    by_status Bad = refl
    by_status Closed = refl
    by_status Bad2 = refl
    by_status Cancelled = refl

-- ---- a part that is tried again

pub was_bad : (o : Option Status) → may_follow o Again1 ≡ true → o ≡ Some Bad
was_bad None h = cc
was_bad (Some Open) h = cc
was_bad (Some Posted) h = cc
was_bad (Some Bad) h = refl
was_bad (Some Closed) h = cc
was_bad (Some Bad2) h = cc
was_bad (Some Cancelled) h = cc

pub was_bad2 : (o : Option Status) → may_follow o Again2 ≡ true → o ≡ Some Bad2
was_bad2 None h = cc
was_bad2 (Some Open) h = cc
was_bad2 (Some Posted) h = cc
was_bad2 (Some Bad) h = cc
was_bad2 (Some Closed) h = cc
was_bad2 (Some Bad2) h = refl
was_bad2 (Some Cancelled) h = cc

pub again2_lists : (ledger : Ledger) (unit : UnitKey) → may_follow (status_of ledger.units ledger.marks unit) Again2 ≡ true → (lists : List Handed)
    → AreOpenLists ledger lists → AreOpenLists (with_mark ledger unit Again2) lists
again2_lists ledger unit may lists h = same_lists ledger (with_mark ledger unit Again2) lists
    (again_same ledger unit (was_bad2 (status_of ledger.units ledger.marks unit) may)) h

pub again2_agree : (ledger : Ledger) (unit : UnitKey) → may_follow (status_of ledger.units ledger.marks unit) Again2 ≡ true → (lists : List Handed)
    → AgreeAll ledger lists → AgreeAll (with_mark ledger unit Again2) lists
again2_agree ledger unit may lists h = same_agree ledger (with_mark ledger unit Again2) lists
    (again_same ledger unit (was_bad2 (status_of ledger.units ledger.marks unit) may)) h

pub again2_known : (ledger : Ledger) (unit : UnitKey) (units : List UnitId) → may_follow (status_of ledger.units ledger.marks unit) Again2 ≡ true
    → AreWaiting ledger units → AreWaiting (with_mark ledger unit Again2) units
again2_known ledger unit units may are = same_known ledger (with_mark ledger unit Again2) units
    (again_same ledger unit (was_bad2 (status_of ledger.units ledger.marks unit) may)) are

-- ---- numbers alone

module _ {D : Type 0} (tells : Bool) (reads : D → List ℕ) (may_leave : D → List ℕ → Type 0) (faults : D → ℕ) where
  pub numbers_files : (old new : List Session) (ledger now : Ledger) (name : List ℕ) (unit : UnitKey) (numbers : List Number) (levels : List StoredInterval)
      (file : BackupView D) (w : Written)
      → HasOpenLists tells reads may_leave ledger file → OnStoreFailure w (now ≡ ledger) → RecordsNumbers old new ledger now name unit numbers levels w
      → FilesAs tells reads may_leave faults now file file w
  numbers_files old new ledger now name unit numbers levels file (Answered reply.Done) has kept h =
      answered_files tells reads may_leave faults now file file reply.Done (record {
        usable = has.usable;
        standing = subst (λ l. AreWaiting l file.units) (sym h.1)
            (same_known ledger (with_intervals levels (with_mark ledger unit (Num numbers))) file.units (numbers_same ledger unit numbers levels) has.standing);
        ready = λ t. let k = has.ready t in record {
          lists = k.lists;
          ready = k.ready;
          just = subst (λ l. AreOpenLists l k.lists) (sym h.1)
              (same_lists ledger (with_intervals levels (with_mark ledger unit (Num numbers))) k.lists (numbers_same ledger unit numbers levels) k.just);
        };
      }) (record { cause = refl; kept = tt })
  numbers_files old new ledger now name unit numbers levels file (Answered (reply.Refused refusal.NoMemory)) has kept h =
      answered_files tells reads may_leave faults now file file (reply.Refused refusal.NoMemory)
      (subst (λ l. HasOpenLists tells reads may_leave l file) (sym h.1) has) (record { cause = refl; kept = same_file file })
  numbers_files old new ledger now name unit numbers levels file (Failed (Some (Draw key drawn rows))) has kept h =
      failed_before tells reads may_leave faults ledger now file (Some (Draw key drawn rows)) has kept
      (λ lists just. same_agree ledger (with_intervals rows (with_mark ledger key (Num drawn))) lists (numbers_same ledger key drawn rows) just.agree)
  numbers_files old new ledger now name unit numbers levels file _ has kept h = absurd h

-- ---- a unit whose list the file has

-- whether its list was written or not, the open units agree with the lists as long as it isn't recorded
pub unsaved_agree : (ledger now : Ledger) (unit : UnitOfWork) (locks : List Entry) → IsOfCommit ledger unit locks → now ≡ ledger → (lists : List Handed)
    → AreOpenLists ledger lists
    → AgreeAll now lists × AgreeAll now (with_list unit.key (saved_locks unit locks) lists)
unsaved_agree ledger now unit locks commit is lists just =
    subst (λ l. AgreeAll l lists × AgreeAll l (with_list unit.key (saved_locks unit locks) lists)) (sym is)
    (just.agree, uncommitted_agree ledger unit.key (saved_locks unit locks) lists commit.fresh just.agree)

module _ {D : Type 0} (tells : Bool) (reads : D → List ℕ) (may_leave : D → List ℕ → Type 0) where
  -- it was recorded
  pub saved_lists : (ledger next now : Ledger) (old new : BackupView D) → IsSaved tells reads may_leave ledger next old → new ≡ old → now ≡ next
      → HasOpenLists tells reads may_leave now new
  saved_lists ledger next now old new saved same is =
      subst (λ f. HasOpenLists tells reads may_leave now f) (sym same) (subst (λ l. HasOpenLists tells reads may_leave l old) (sym is) (record {
        usable = saved.usable;
        standing = saved.standing;
        ready = λ t. let h = saved.ready t in record { lists = h.0; ready = h.1; just = h.3 };
      }))

  -- it is in flight
  pub saved_agrees : (ledger now : Ledger) (unit : UnitOfWork) (levels rows : List StoredInterval) (file : BackupView D)
      → IsSaved tells reads may_leave ledger (with_intervals levels (with_unit ledger unit)) file → now ≡ ledger → rows ≡ levels
      → AgreesBoth tells reads may_leave (λ d. 0) now (Some (Record unit rows)) file
  saved_agrees ledger now unit levels rows file saved is same =
      subst (λ l. AgreesBoth tells reads may_leave (λ d. 0) l (Some (Record unit rows)) file) (sym is)
      (λ t. let h = saved.ready t in (h.0, h.1, h.2, subst (λ ls. AgreeAll (with_intervals ls (with_unit ledger unit)) h.0) (sym same) h.3.agree))

  -- its list was written, where it has locks
  pub written_saved : (ledger : Ledger) (unit : UnitOfWork) (levels : List StoredInterval) (locks : List Entry) (old new : BackupView D)
      → HasOpenLists tells reads may_leave ledger old → new.failed ≡ false → IsOfCommit ledger unit locks
      → (IsTrue tells → (lists : List Handed) → IsReady reads may_leave old lists
      → IsReady reads may_leave new (with_list unit.key (saved_locks unit locks) lists))
      → AreWith unit.key (lasting unit.key locks) old.units new.units
      → IsSaved tells reads may_leave ledger (with_intervals levels (with_unit ledger unit)) new
  written_saved ledger unit levels locks old new has usable commit written known = record {
    usable = usable;
    standing = committed_known ledger unit levels locks old.units new.units commit has.standing known;
    ready = λ t. let h = has.ready t in (
      with_list unit.key (saved_locks unit locks) h.lists,
      written t h.lists h.ready,
      uncommitted_agree ledger unit.key (saved_locks unit locks) h.lists commit.fresh h.just.agree,
      committed_lists ledger unit levels locks h.lists commit h.just,
    );
  }
