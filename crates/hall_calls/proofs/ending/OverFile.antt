-- How calls end that may write the backup file, and what a stop may leave of it.
use Rattle.std.proofs.Common.{◌≡◌, ◌⊎◌, inl, inr, ℕ, ◌+◌, ◌≤◌, Bool, true, false, not, ◌&&◌, List, refl, sym, ap, ◌∙◌, subst, arith}
use Rattle.std.specs.Prelude.{if◌then◌else◌, Option, Some, None, IsTrue, Ok, Err}
use Rattle.std.specs.Option.{option_map}
use Rattle.backup_file.proofs.lemmas.Adding.{ready_same}
use Rattle.backup_file.specs.Backup.{BackupView, IsReady, IsSame}
use Rattle.backup_file.specs.File.{Stands}
use Rattle.backup_file.specs.Lists.{is_known, without}
use Rattle.backup_file.specs.declared.handed.Handed.{Handed}
use Rattle.enq_base.specs.declared.unit_id.UnitId.{UnitId}
use Rattle.enq_base.specs.Owners.{same_unit}
use Rattle.enq_server.specs.Recovery.{AreWithout, lists_among}
use Rattle.enq_base.specs.Causes.{Rose}
use Rattle.enq_base.specs.declared.condition.Condition.{Condition}
use Rattle.enq_base.specs.declared.condition.Condition.TheVariants as condition
use Rattle.enq_base.specs.declared.owner.UnitKey.{UnitKey}
use Rattle.enq_base.specs.declared.refusal.Refusal.{Refusal}
use Rattle.enq_base.specs.declared.refusal.Refusal.TheVariants as refusal
use Rattle.ledger_steps.specs.declared.step.Outcome.{Outcome}
use Rattle.ledger_steps.specs.declared.step.Outcome.TheVariants as outcome
use Rattle.update_records.specs.Ledger.{Ledger}
use Rattle.hall_calls.specs.Written.{OnAnswer, written_condition, written_failure, written_reply}
use Rattle.hall_calls.specs.Filing.{AllRecover, AreWaiting, ChangesLevels, FilesAs, FreesList, HasFileCause, HasOpenLists, IsUnrefused, KeepsFile, KeepsUnits}
use Rattle.hall_calls.specs.Filing.{MayFile, RecoversFrom, StandsWritten, lists_ended}
use Rattle.ledger_steps.specs.Steps.{after_step}
use Rattle.ledger_steps.specs.Views.{open_locks}
use Rattle.ledger_steps.specs.declared.step.Step.{Step}
use Rattle.hall_model.specs.Kept.{OutsideDoubt}
use Rattle.hall_calls.specs.OpenLists.{AgreeAll, AreOpenLists}
use Rattle.hall_model.specs.OpenUnits.{OfInFlight}
use Rattle.hall_model.specs.History.{known_behind}
use Rattle.hall_calls.specs.Remaking.{IsLeftReady, OnNotRemade, flight_over, remade_condition, remade_failure}
use Rattle.hall_model.specs.Step.{posted_reply}
use Rattle.hall_model.specs.declared.command.Reply.{Reply}
use Rattle.hall_model.specs.declared.command.Reply.TheVariants as reply
use Rattle.hall_calls.specs.declared.remaking.Remade.{Remade}
use Rattle.hall_calls.specs.declared.remaking.Remade.TheVariants.{Done, Refused, InDoubt}
use Rattle.hall_calls.specs.declared.units.Failure.{Failure}
use Rattle.hall_calls.specs.declared.units.Written.{Written}
use Rattle.hall_calls.specs.declared.units.Written.TheVariants.{Answered, Failed, Unfiled}
use Rattle.model_laws.proofs.OutsideDoubt.{outside_any}
use Rattle.model_laws.proofs.PlainRefusals.{IsPlain}
use Rattle.ledger_steps.specs.declared.part.Part.{Part}
use Rattle.ledger_steps.specs.Parts.{is_first}

-- ---- answers and the disk's count of faults

pub plain_file : (r : Refusal) (n m : ℕ) → m ≡ n → IsPlain r → HasFileCause n m (reply.Refused r)
plain_file refusal.BackupFault n m h plain = absurd (cc)
plain_file _ n m h plain = h

pub posted_file : (part : Part) (unit : UnitKey) (o : Outcome) (n m : ℕ) → m ≡ n → HasFileCause n m (posted_reply part unit o)
posted_file part unit outcome.Done n m h =
    elim (is_first part) as (λ b. HasFileCause n m (if b then reply.Posted unit else reply.Closed unit)) [ true ↦ h | false ↦ h ]
posted_file part unit (outcome.Refused index reason) n m h =
    elim (is_first part) as (λ b. HasFileCause n m (if b then reply.Bad unit index reason else reply.Bad2 unit index reason)) [ true ↦ h | false ↦ h ]

-- ---- a file that is as it was

pub same_file : {D : Type 0} (f : BackupView D) → IsSame f f
same_file f = record { disk = refl; gate = refl; units = λ u. refl; compact = refl; failed = refl }

pub refused_file : {D : Type 0} (old new : BackupView D) (r : Refusal) → IsSame old new → KeepsFile old new (reply.Refused r)
refused_file old new refusal.StoreFault h = tt
refused_file old new refusal.BackupFault h = tt
refused_file old new _ h = h

pub any_file : {D : Type 0} (f : BackupView D) (r : Reply) → KeepsFile f f r
any_file f (reply.Refused r) = refused_file f f r (same_file f)
any_file f (reply.Row text) = same_file f
any_file f _ = tt

pub posted_keeps_file : {D : Type 0} (old new : BackupView D) (part : Part) (unit : UnitKey) (o : Outcome) → KeepsFile old new (posted_reply part unit o)
posted_keeps_file old new part unit outcome.Done =
    elim (is_first part) as (λ b. KeepsFile old new (if b then reply.Posted unit else reply.Closed unit)) [ true ↦ tt | false ↦ tt ]
posted_keeps_file old new part unit (outcome.Refused index reason) =
    elim (is_first part) as (λ b. KeepsFile old new (if b then reply.Bad unit index reason else reply.Bad2 unit index reason)) [ true ↦ tt | false ↦ tt ]

-- ---- ends

module _ {D : Type 0} (tells : Bool) (reads : D → List ℕ) (may_leave : D → List ℕ → Type 0) (faults : D → ℕ) where
  abbrev Has : Ledger → BackupView D → Type 0
  Has ledger file = HasOpenLists tells reads may_leave ledger file

  abbrev Ends : Ledger → BackupView D → BackupView D → Written → Type 0
  Ends ledger old new w = FilesAs tells reads may_leave faults ledger old new w

  -- each image of a file that is ready stands for its lists
  pub ready_stands : (file : BackupView D) (lists : List Handed) (image : List ℕ) → IsReady reads may_leave file lists → may_leave file.disk image
      → Stands image lists
  ready_stands file lists image ready may = subst (λ b. Stands b lists) (sym (ready.at_rest.durable image may)) ready.stands

  -- but for its room it is the same
  pub has_same : (ledger : Ledger) (old new : BackupView D) → Has ledger old → IsSame old new → Has ledger new
  has_same ledger old new h same = record {
    usable = same.failed ∙ h.usable;
    standing = λ u. same.units u ∙ h.standing u;
    ready = λ t. let k = h.ready t in record { lists = k.lists; ready = ready_same reads may_leave k.lists old new same k.ready; just = k.just };
  }

  pub answered_files : (ledger : Ledger) (old new : BackupView D) (r : Reply) → Has ledger new → MayFile faults old new r → Ends ledger old new (Answered r)
  answered_files ledger old new r has does = record {
    lists = has;
    images = λ t image may. let h = has.ready t in (h.lists, ready_stands new h.lists image h.ready may, h.just);
    does = does;
  }

  -- refused before anything was written
  pub refused_files : (ledger now : Ledger) (old new : BackupView D) (r : Refusal) → Has ledger old → IsSame old new → now ≡ ledger
      → (IsPlain r ⊎ (r ≡ refusal.NoMemory)) → Ends now old new (Answered (reply.Refused r))
  refused_files ledger now old new r has same is why =
      subst (λ l. Ends l old new (Answered (reply.Refused r))) (sym is)
      (answered_files ledger old new (reply.Refused r) (has_same ledger old new has same) (record {
        cause = quiet r why (faults old.disk) (faults new.disk) (ap faults same.disk);
        kept = refused_file old new r same;
      }))
    where
      quiet : (r : Refusal) → (IsPlain r ⊎ (r ≡ refusal.NoMemory)) → (n m : ℕ) → m ≡ n → HasFileCause n m (reply.Refused r)
      quiet r (inl plain) n m h = plain_file r n m h plain
      quiet r (inr is) n m h = subst (λ x. HasFileCause n m (reply.Refused x)) (sym is) h

  -- the store failed, and with these lists the open units agree, with the change in flight and without it
  abbrev pub AgreesBoth : Ledger → Option Step → BackupView D → Type 0
  AgreesBoth ledger change file =
      IsTrue tells → (lists : List Handed) × IsReady reads may_leave file lists × AgreeAll ledger lists
      × OfInFlight (option_map (after_step ledger) change) (λ l. AgreeAll l lists)

  pub failed_files : (ledger : Ledger) (old new : BackupView D) (change : Option Step) → AgreesBoth ledger change new → faults new.disk ≡ faults old.disk
      → Ends ledger old new (Failed change)
  failed_files ledger old new change h same = record {
    lists = tt;
    images = λ t image may. let k = h t in (k.0, ready_stands new k.0 image k.1 may, (k.2, k.3));
    does = record { cause = same; kept = tt };
  }

  -- the store failed before anything was written into the file
  pub failed_before : (ledger now : Ledger) (file : BackupView D) (change : Option Step) → Has ledger file → now ≡ ledger
      → ((lists : List Handed) → AreOpenLists ledger lists → OfInFlight (option_map (after_step ledger) change) (λ l. AgreeAll l lists))
      → Ends now file file (Failed change)
  failed_before ledger now file change has is flight =
      subst (λ l. Ends l file file (Failed change)) (sym is)
      (failed_files ledger file file change (λ t. let h = has.ready t in (h.lists, h.ready, h.just.agree, flight h.lists h.just)) refl)

  -- the disk failed
  pub unfiled_files : (ledger : Ledger) (old new : BackupView D)
      → (IsTrue tells → (image : List ℕ) → may_leave new.disk image → (lists : List Handed) × Stands image lists × AgreeAll ledger lists)
      → (faults old.disk ≤ faults new.disk) × Rose (faults old.disk) (faults new.disk) → Ends ledger old new Unfiled
  unfiled_files ledger old new h cause = record {
    lists = tt;
    images = λ t image may. let k = h t image may in (k.0, k.1, k.2);
    does = record { cause = cause; kept = tt };
  }

  -- ---- a list that is changed

  -- the file was written, and of the lists that it had it has these now
  pub written_files : (ledger now : Ledger) (become : List Handed → List Handed) (old new : BackupView D) (r : Reply) → Has ledger old → new.failed ≡ false
      → AreWaiting now new.units
      → (IsTrue tells → (lists : List Handed) → IsReady reads may_leave old lists → IsReady reads may_leave new (become lists))
      → ((lists : List Handed) → AreOpenLists ledger lists → AreOpenLists now (become lists))
      → faults new.disk ≡ faults old.disk → ((n m : ℕ) → m ≡ n → HasFileCause n m r) → KeepsFile old new r → Ends now old new (Answered r)
  written_files ledger now become old new r has usable known ready just same quiet keeps =
      answered_files now old new r (record {
        usable = usable;
        standing = known;
        ready = λ t. let h = has.ready t in record { lists = become h.lists; ready = ready t h.lists h.ready; just = just h.lists h.just };
      }) (record { cause = quiet (faults old.disk) (faults new.disk) same; kept = keeps })

  either_agrees : (ledger : Ledger) (a b : List Handed) (image : List ℕ) → Stands image a ⊎ Stands image b → AgreeAll ledger a → AgreeAll ledger b
      → (lists : List Handed) × Stands image lists × AgreeAll ledger lists
  either_agrees ledger a b image (inl x) h k = (a, x, h)
  either_agrees ledger a b image (inr y) h k = (b, y, k)

  -- the disk failed in writing it: each image stands for the lists before or after, and with both the open units agree
  pub half_written_files : (ledger now : Ledger) (become : List Handed → List Handed) (old new : BackupView D) → Has ledger old
      → (IsTrue tells → (lists : List Handed) → IsReady reads may_leave old lists → (image : List ℕ) → may_leave new.disk image → Stands image lists
      ⊎ Stands image (become lists))
      → ((lists : List Handed) → AreOpenLists ledger lists → AgreeAll now lists × AgreeAll now (become lists))
      → (faults old.disk ≤ faults new.disk) × Rose (faults old.disk) (faults new.disk) → Ends now old new Unfiled
  half_written_files ledger now become old new has images agree cause =
      unfiled_files now old new
      (λ t image may. let h = has.ready t in let both = agree h.lists h.just in
      either_agrees now h.lists (become h.lists) image (images t h.lists h.ready image may) both.0 both.1)
      cause

  -- ---- a file that was written before

  kept_before : (old mid new : BackupView D) (w : Written) → IsUnrefused w → faults mid.disk ≡ faults old.disk → MayFile faults mid new (written_reply w)
      → MayFile faults old new (written_reply w)
  kept_before old mid new (Answered (reply.Refused r)) on same h = absurd on
  kept_before old mid new (Answered (reply.Row text)) on same h = absurd on
  kept_before old mid new (Answered reply.Done) on same h = record { cause = h.cause ∙ same; kept = tt }
  kept_before old mid new (Answered _) on same h = record { cause = h.cause ∙ same; kept = tt }
  kept_before old mid new (Failed change) on same h = record { cause = h.cause ∙ same; kept = tt }
  kept_before old mid new Unfiled on same h = absurd on

  pub before_files : (ledger : Ledger) (old mid new : BackupView D) (w : Written) → IsUnrefused w → faults mid.disk ≡ faults old.disk → Ends ledger mid new w
      → Ends ledger old new w
  before_files ledger old mid new w on same h = record { lists = h.lists; images = h.images; does = kept_before old mid new w on same h.does }

  -- ---- a list that is freed, or is not

  ends_so : (ends : Bool) (unit : UnitKey) (lists : List Handed) → ends ≡ true → without unit lists ≡ lists_ended ends lists unit
  ends_so ends unit lists is = ap (λ b. if b then without unit lists else lists) (sym is)

  pub freed_all : {E : Type 0} (ends : Bool) (unit : UnitKey) (old new : BackupView D) → ends ≡ true → new.failed ≡ false
      → AreWithout unit old.units new.units
      → (IsTrue tells → (lists : List Handed) → IsReady reads may_leave old lists → IsReady reads may_leave new (without unit lists))
      → (IsTrue tells → (lists : List Handed) → IsReady reads may_leave old lists → (image : List ℕ) → may_leave new.disk image → Stands image lists
      ⊎ Stands image (without unit lists))
      → faults new.disk ≡ faults old.disk → FreesList {E = E} tells reads may_leave faults ends unit old new (Ok tt)
  freed_all ends unit old new is usable known freed images same = record {
    usable = usable;
    freed = λ t lists ready. subst (IsReady reads may_leave new) (ends_so ends unit lists is) (freed t lists ready);
    images = λ t lists ready image may. subst (λ l. Stands image lists ⊎ Stands image l) (ends_so ends unit lists is) (images t lists ready image may);
    standing = λ other. known other ∙ ap (λ b. is_known other old.units && not (b && same_unit unit other)) (sym is);
    needed = tt;
    untouched = λ off. absurd (cc);
    cause = record { later = omega (arith, same); failed = tt; quiet = same };
  }

  pub not_freed : {E : Type 0} (ends : Bool) (unit : UnitKey) (old new : BackupView D) (fault : E) → ends ≡ true
      → IsTrue (is_known unit old.units)
      → (IsTrue tells → (lists : List Handed) → IsReady reads may_leave old lists → (image : List ℕ) → may_leave new.disk image → Stands image lists
      ⊎ Stands image (without unit lists))
      → faults old.disk ≤ faults new.disk → Rose (faults old.disk) (faults new.disk)
      → FreesList {E = E} tells reads may_leave faults ends unit old new (Err fault)
  not_freed ends unit old new fault is known images later failed = record {
    usable = tt;
    freed = λ t lists ready. tt;
    images = λ t lists ready image may. subst (λ l. Stands image lists ⊎ Stands image l) (ends_so ends unit lists is) (images t lists ready image may);
    standing = tt;
    needed = ap (λ b. b && is_known unit old.units) is ∙ known;
    untouched = λ off. absurd (cc);
    cause = record { later = later; failed = failed; quiet = tt };
  }

  -- ---- calls that leave the file

  -- lists are those of the open units by units and marks alone
  agree_beside : (ledger now : Ledger) (lists : List Handed) → KeepsUnits ledger now → AgreeAll ledger lists → AgreeAll now lists
  agree_beside ledger now lists same h =
      subst (λ us. AgreeAll (record now { units = us }) lists) (sym same.units)
      (subst (λ ms. AgreeAll (record now { units = ledger.units; marks = ms }) lists) (sym same.marks) h)

  just_beside : (ledger now : Ledger) (lists : List Handed) → KeepsUnits ledger now → AreOpenLists ledger lists → AreOpenLists now lists
  just_beside ledger now lists same h =
      subst (λ us. AreOpenLists (record now { units = us }) lists) (sym same.units)
      (subst (λ ms. AreOpenLists (record now { units = ledger.units; marks = ms }) lists) (sym same.marks) (record { agree = h.agree; only = h.only }))

  known_beside : (ledger now : Ledger) (units : List UnitId) → KeepsUnits ledger now → AreWaiting ledger units → AreWaiting now units
  known_beside ledger now units same are =
      subst (λ us. AreWaiting (record now { units = us }) units) (sym same.units)
      (subst (λ ms. AreWaiting (record now { units = ledger.units; marks = ms }) units) (sym same.marks) are)

  flight_beside : (ledger : Ledger) (o : Option Ledger) (lists : List Handed) → OfInFlight o (KeepsUnits ledger) → AgreeAll ledger lists
      → OfInFlight o (λ l. AgreeAll l lists)
  flight_beside ledger None lists same h = tt
  flight_beside ledger (Some l) lists same h = agree_beside ledger l lists same h

  -- a level at most was written
  pub beside_lists : (ledger now : Ledger) (file : BackupView D) (w : Written) → ChangesLevels ledger now w → Has ledger file → OnAnswer w (Has now file)
  beside_lists ledger now file (Answered r) same has = record {
    usable = has.usable;
    standing = known_beside ledger now file.units same has.standing;
    ready = λ t. let h = has.ready t in record { lists = h.lists; ready = h.ready; just = just_beside ledger now h.lists same h.just };
  }
  beside_lists ledger now file (Failed change) same has = tt
  beside_lists ledger now file Unfiled same has = tt

  pub beside_images : (ledger now : Ledger) (file : BackupView D) (w : Written) → ChangesLevels ledger now w → Has ledger file → IsTrue tells → (image : List ℕ)
      → may_leave file.disk image → StandsWritten now w image
  beside_images ledger now file (Answered r) same has = λ t image may. let h = has.ready t in
      (h.lists, ready_stands file h.lists image h.ready may, just_beside ledger now h.lists same h.just)
  beside_images ledger now file (Failed change) same has = λ t image may.
      let h = has.ready t in (
        h.lists,
        ready_stands file h.lists image h.ready may,
        (agree_beside ledger now h.lists same.0 h.just.agree, flight_beside ledger (option_map (after_step now) change) h.lists same.1 h.just.agree),
      )
  beside_images ledger now file Unfiled same has = absurd same

  -- ---- the server behind a call

  abbrev pub Recover : Condition → Ledger → Option Ledger → Option Bool → BackupView D → Type 0
  Recover k ledger in_flight found file = AllRecover tells may_leave k ledger in_flight found file

  no_change : (l : Ledger) (f : Failure) (lists : List Handed) → f.in_flight ≡ None → OfInFlight (flight_over l f) (λ x. AgreeAll x lists)
  no_change l f lists none = subst (λ q. OfInFlight (option_map (after_step l) q) (λ x. AgreeAll x lists)) (sym none) tt

  -- lists that agree with all that the store may have
  recovers : (k : Condition) (ledger : Ledger) (in_flight : Option Ledger) (found : Option Bool) (image : List ℕ) (lists : List Handed) → found ≡ None
      → Stands image lists → AgreeAll ledger lists
      → OfInFlight in_flight (λ x. AgreeAll x lists) → OutsideDoubt k (lists ≡ lists_among (open_locks ledger) lists)
      → RecoversFrom k ledger in_flight found image
  recovers k ledger in_flight found image lists none stands agree flight_agrees only =
      subst (λ q. RecoversFrom k ledger in_flight q image) (sym none) (record {
        lists = lists;
        stands = stands;
        agree = agree;
        flight_agrees = flight_agrees;
        only = only;
      })

  stands_after : (ledger : Ledger) (f : Failure) (caller : Option (List ℕ)) (before : Condition) (n : ℕ) (w : Written) (image : List ℕ) → (f.in_flight ≡ None)
      × (f.found ≡ None) → StandsWritten ledger w image
      → RecoversFrom (written_condition before n w) ledger (flight_over ledger (written_failure f caller w)) (written_failure f caller w).found image
  stands_after ledger f caller before n (Answered r) image none h =
      recovers before ledger (flight_over ledger f) f.found image h.0 none.1 h.1 h.2.agree (no_change ledger f h.0 none.0) (outside_any before _ h.2.only)
  stands_after ledger f caller before n (Failed change) image none h =
      recovers (condition.Doubt (n + 1)) ledger (option_map (after_step ledger) change) f.found image h.0 none.1 h.1 h.2.0 h.2.1 tt
  stands_after ledger f caller before n Unfiled image none h =
      recovers (condition.Doubt (n + 1)) ledger (flight_over ledger f) f.found image h.0 none.1 h.1 h.2 (no_change ledger f h.0 none.0) tt

  -- whatever is left of the file behind a call, lists stand in it with which the open units agree
  pub recovers_after : (ledger : Ledger) (file : BackupView D) (f failure : Failure) (caller : Option (List ℕ)) (before now : Condition) (n : ℕ) (w : Written)
      → (f.in_flight ≡ None) × (f.found ≡ None) → failure ≡ written_failure f caller w → now ≡ written_condition before n w
      → (IsTrue tells → (image : List ℕ) → may_leave file.disk image → StandsWritten ledger w image)
      → Recover now ledger (flight_over ledger failure) failure.found file
  recovers_after ledger file f failure caller before now n w none is doubt h =
      subst (λ (q : Failure). Recover now ledger (flight_over ledger q) q.found file) (sym is)
      (subst (λ k. Recover k ledger (flight_over ledger (written_failure f caller w)) (written_failure f caller w).found file) (sym doubt)
      (λ t image may. stands_after ledger f caller before n w image none (h t image may)))

  -- the file is as it was

  pub same_recovers : (k : Condition) (ledger : Ledger) (in_flight : Option Ledger) (found : Option Bool) (old new : BackupView D) → new ≡ old
      → Recover k ledger in_flight found old → Recover k ledger in_flight found new
  same_recovers k ledger in_flight found old new is h = subst (λ f. Recover k ledger in_flight found f) (sym is) h

  pub same_lists : (k : Condition) (ledger : Ledger) (old new : BackupView D) → new ≡ old → OutsideDoubt k (Has ledger old) → OutsideDoubt k (Has ledger new)
  same_lists k ledger old new is h = subst (λ f. OutsideDoubt k (Has ledger f)) (sym is) h

  -- a file that is ready with the lists of the open units
  pub ready_recovers : (k : Condition) (ledger : Ledger) (file : BackupView D) → Has ledger file → Recover k ledger None None file
  ready_recovers k ledger file has = λ t image may.
      let h = has.ready t in
      record {
        lists = h.lists;
        stands = ready_stands file h.lists image h.ready may;
        agree = h.just.agree;
        flight_agrees = tt;
        only =
            outside_any k _ h.just.only;
      }

  -- a server that is up before any call
  pub first_recovers : (ledger : Ledger) (file : BackupView D) → Has ledger file → Recover condition.Up ledger None None file
  first_recovers ledger file has = ready_recovers condition.Up ledger file has

  -- ---- a lock server that is made anew, or isn't

  -- the file may be written outside doubt
  pub remade_filed : (remade : Remade) (k : Condition) (calls : ℕ) (before now : Ledger) (f : Failure) (old new : BackupView D)
      → IsLeftReady tells reads may_leave before now f old new remade
      → OnNotRemade remade (now ≡ before) → OutsideDoubt k (Has before old) → OutsideDoubt (remade_condition k calls remade) (Has now new)
  remade_filed (Done taken) k calls before now f old new h kept has = h
  remade_filed (Refused r) k calls before now f old new h kept has =
      subst (λ x. OutsideDoubt k (Has now x)) (sym h) (subst (λ l. OutsideDoubt k (Has l old)) (sym kept) has)
  remade_filed (InDoubt r read) k calls before now f old new h kept has = tt

  remade_any : (remade : Remade) (k : Condition) (calls : ℕ) (before now : Ledger) (f : Failure) (old new : BackupView D)
      → IsLeftReady tells reads may_leave before now f old new remade
      → OnNotRemade remade (now ≡ before) → Recover k before (flight_over before f) f.found old
      → Recover (remade_condition k calls remade) now (flight_over now (remade_failure f remade)) (remade_failure f remade).found new
  remade_any (Done taken) k calls before now f old new h kept all = first_recovers now new h
  remade_any (Refused r) k calls before now f old new h kept all =
      subst (λ l. Recover k l (flight_over l f) f.found new) (sym kept) (same_recovers k before (flight_over before f) f.found old new h all)
  remade_any (InDoubt r read) k calls before now f old new h kept all =
      subst (λ l. Recover (condition.Doubt (calls + 1)) l (flight_over l f) (known_behind f.found read) new) (sym kept) (h calls)

  pub remade_recovers : (remade : Remade) (k after : Condition) (calls : ℕ) (before now : Ledger) (f failure : Failure) (old new : BackupView D)
      → after ≡ remade_condition k calls remade → failure ≡ remade_failure f remade
      → IsLeftReady tells reads may_leave before now f old new remade → OnNotRemade remade (now ≡ before) → Recover k before (flight_over before f) f.found old
      → Recover after now (flight_over now failure) failure.found new
  remade_recovers remade k after calls before now f failure old new is left h kept all =
      subst (λ q. Recover q now (flight_over now failure) failure.found new) (sym is)
      (subst (λ (q : Failure). Recover (remade_condition k calls remade) now (flight_over now q) q.found new) (sym left)
      (remade_any remade k calls before now f old new h kept all))
