-- How calls end that write a mark of a unit, or let its locks stand again.
use Rattle.std.proofs.Common.{◌≡◌, ◌⊎◌, inl, inr, ℕ, ◌≤◌, Bool, true, false, true≢false, ◌&&◌, List, length, refl, sym, ap, ◌∙◌, subst, arith}
use Rattle.std.specs.Prelude.{if◌then◌else◌, nat_le, Option, Some, None, Result, Ok, Err, IfSome, IsTrue, OnErr, OnOk, is_some, set}
use Rattle.std.specs.List.{AllByRecursion}
use Rattle.std.proofs.lemmas.Bool.{and_parts}
use Rattle.backup_file.specs.Backup.{BackupView, IsReady}
use Rattle.backup_file.specs.File.{Stands}
use Rattle.backup_file.specs.Lists.{is_known, without}
use Rattle.backup_file.specs.declared.handed.Handed.{Handed}
use Rattle.enq_base.specs.Causes.{HasCause, Rose}
use Rattle.enq_base.specs.declared.owner.UnitKey.{UnitKey}
use Rattle.enq_base.specs.declared.refusal.Refusal.{Refusal}
use Rattle.enq_base.specs.declared.refusal.Refusal.TheVariants as refusal
use Rattle.enq_base.specs.declared.unit.Status.{Status}
use Rattle.enq_base.specs.declared.unit.Status.TheVariants.{Bad, Bad2}
use Rattle.enq_server.proofs.lemmas.Replicas.{keeps_none}
use Rattle.enq_server.specs.Faults.{IsReadmission}
use Rattle.enq_server.specs.Replica.{IsLostWith, KeepsOn}
use Rattle.enq_server.specs.Recovery.{AreWithout}
use Rattle.enq_server.specs.Server.{Server, with_list}
use Rattle.enq_server.specs.declared.fault.ServerFault.{ServerFault}
use Rattle.enq_server.specs.declared.fault.ServerFault.TheVariants as server
use Rattle.keeper_api.specs.Keeping.{IsOnly, IsWithin}
use Rattle.keeper_api.specs.Rows.{Rows}
use Rattle.lock_entry.specs.Granting.{readmitted}
use Rattle.lock_entry.specs.Table.{Table, with_entries}
use Rattle.lock_entry.specs.declared.entry.Asker.{Asker}
use Rattle.lock_entry.specs.declared.entry.Entry.{Entry}
use Rattle.lock_entry.specs.declared.fault.AskFault.{AskFault}
use Rattle.ledger_steps.specs.Posts.{WaitsFor, entries_of, kind_for}
use Rattle.ledger_steps.specs.declared.step.Outcome.{Outcome}
use Rattle.ledger_steps.specs.declared.step.Outcome.TheVariants as outcome
use Rattle.ledger_steps.specs.declared.step.Step.{Step}
use Rattle.ledger_steps.specs.declared.step.Step.TheVariants.{Note}
use Rattle.posting.specs.BooksView.{BooksView, IsUnmoved, IsUsable}
use Rattle.update_records.specs.Growing.{with_mark}
use Rattle.update_records.specs.Ledger.{Ledger}
use Rattle.update_records.specs.Marks.{may_follow, status_of}
use Rattle.update_records.specs.declared.records.MarkKind.{MarkKind}
use Rattle.update_records.specs.declared.records.MarkKind.TheVariants.{Again1, Again2, Gone}
use Rattle.hall_model.specs.Acts.{Admits, IsAct}
use Rattle.hall_model.specs.Coming.{outcome_in}
use Rattle.hall_model.specs.Kept.{HasGoodLocks}
use Rattle.hall_model.specs.Orders.{order_for}
use Rattle.hall_model.specs.Sessions.{owners_of}
use Rattle.hall_model.specs.State.{State}
use Rattle.hall_model.specs.Step.{may_cancel, posted_reply, to_cancel, to_resubmit}
use Rattle.hall_model.specs.declared.command.Command.TheVariants as command
use Rattle.hall_model.specs.declared.command.Reply.{Reply}
use Rattle.hall_model.specs.declared.command.Reply.TheVariants as reply
use Rattle.model_laws.proofs.PlainRefusals.{IsPlain}
use Rattle.hall_calls.specs.Filing.{FilesAs, FreesList, HasFileCause, HasOpenLists, IsUnrefused, KeepsFile, is_open, lists_ended, ungranted}
use Rattle.hall_calls.specs.Leaving.{HasStoreCause, KeepsStore}
use Rattle.hall_calls.specs.Marking.{EndsList, IsMarked, IsNoted, Readmits, ServesOn, orders_behind, unit_to_post}
use Rattle.hall_calls.specs.Storing.{EndsAs, TriesStep}
use Rattle.hall_calls.specs.Written.{IsWritten, OnFailure, OnStoreFailure, locks_posted}
use Rattle.hall_calls.specs.declared.units.Written.{Written}
use Rattle.hall_calls.specs.declared.units.Written.TheVariants.{Answered, Failed, Unfiled}
use Rattle.hall_calls.proofs.ending.AfterStop.{also_answered, also_store_failed, answered_leaves, unread_leaves}
use Rattle.hall_calls.proofs.ending.OverFile.{failed_before, failed_files, half_written_files, ready_stands, same_file, written_files}
use Rattle.hall_calls.proofs.lists.AsCallsEnd.{again2_agree, again2_known, again2_lists, ended_so, gone_agree, gone_half, gone_known, gone_lists, posted_agree}
use Rattle.hall_calls.proofs.lists.AsCallsEnd.{posted_half, posted_known, posted_lists, was_bad}
use Rattle.hall_calls.proofs.lists.BehindMarks.{reopened_lists}
use Rattle.hall_calls.proofs.lemmas.WaitingLists.{again_known}
use Rattle.hall_calls.proofs.verdicts.Ungranted.{again_agrees, ungranted_keeps, ungranted_leaves, ungranted_quiet}
use Rattle.hall_calls.proofs.verdicts.UnitCalls.{cancels, cancels_in_doubt, cancels_unfiled, posts, posts_full, posts_in_doubt, posts_none, posts_unfiled}
use Rattle.hall_calls.proofs.verdicts.UnitCalls.{reopens, reopens_in_doubt, reposts, reposts_in_doubt}
use Rattle.ledger_steps.specs.declared.part.Part.{Part}
use Rattle.ledger_steps.specs.Parts.{is_first}
use Rattle.hall_model.specs.Calls.{post_of}

-- ---- the lock server

-- what is so and isn't
pub never_both : (P : Type 0) (b : Bool) → b ≡ true → b ≡ false → P
never_both P b h k = absurd (true≢false (sym h ∙ k))

-- where the table has other entries, or is the same, its limit stays
pub limit_stays : {E : Type 0} (r : Result Unit E) (before now : Table) (es : List Entry) → OnOk r (now ≡ with_entries before es) → OnErr r (now ≡ before)
    → now.limit ≡ before.limit
limit_stays (Ok done) before now es after kept = ap (λ (t : Table). t.limit) after
limit_stays (Err fault) before now es after kept = ap (λ (t : Table). t.limit) kept

module _ {D L : Type 0} (applied : L → Option (List Entry)) (faults refusals : L → ℕ) where
  -- a server that is as it was
  pub serves_still : (s : Server D L) → ServesOn applied faults refusals s s
  serves_still s = record {
    limit = refl;
    standing = refl;
    replica = keeps_none applied faults refusals s.replica;
    lost = λ on off same. true≢false (sym on ∙ off);
  }

  -- behind a step that leaves all but the file
  pub serves_behind : (old mid new : Server D L) → mid.stands ≡ old.stands → mid.table ≡ old.table → mid.replica ≡ old.replica
      → ServesOn applied faults refusals mid new → ServesOn applied faults refusals old new
  serves_behind old mid new stands table replica h = record {
    limit = h.limit ∙ ap (λ (t : Table). t.limit) table;
    standing = h.standing ∙ stands;
    replica = subst (λ f. KeepsOn applied faults refusals f new.replica) replica h.replica;
    lost = subst (λ f. IsLostWith f new.replica old.table new.table) replica
        (subst (λ (t : Table). IsLostWith mid.replica new.replica t new.table) table h.lost);
  }

-- ---- answers

pub unrefused_quiet : (r : Reply) → IsUnrefused (Answered r) → (n m : ℕ) → m ≡ n → HasStoreCause n m r
unrefused_quiet (reply.Refused x) on n m h = absurd on
unrefused_quiet _ on n m h = h

pub unrefused_store : {K : Type 0} (held : K → Option Rows) (may_leave : K → Rows → Type 0) (old new : K) (r : Reply) → IsUnrefused (Answered r)
    → KeepsStore held may_leave old new r
unrefused_store held may_leave old new (reply.Refused x) on = absurd on
unrefused_store held may_leave old new (reply.Row text) on = absurd on
unrefused_store held may_leave old new _ on = tt

unrefused_file : (r : Reply) → IsUnrefused (Answered r) → (n m : ℕ) → m ≡ n → HasFileCause n m r
unrefused_file (reply.Refused x) on n m h = absurd on
unrefused_file _ on n m h = h

unrefused_keeps_file : {D : Type 0} (old new : BackupView D) (r : Reply) → IsUnrefused (Answered r) → KeepsFile old new r
unrefused_keeps_file old new (reply.Refused x) on = absurd on
unrefused_keeps_file old new (reply.Row text) on = absurd on
unrefused_keeps_file old new _ on = tt

pub posted_unrefused : (part : Part) (unit : UnitKey) (o : Outcome) → IsUnrefused (Answered (posted_reply part unit o))
posted_unrefused part unit outcome.Done =
    elim (is_first part) as (λ b. IsUnrefused (Answered (if b then reply.Posted unit else reply.Closed unit))) [ true ↦ tt | false ↦ tt ]
posted_unrefused part unit (outcome.Refused index reason) =
    elim (is_first part) as (λ b. IsUnrefused (Answered (if b then reply.Bad unit index reason else reply.Bad2 unit index reason))) [ true ↦ tt | false ↦ tt ]

posted_orders : (part : Part) (unit : UnitKey) (o : Outcome) (orders : List (Option UnitKey)) (worker : ℕ)
    → orders_behind orders worker (Answered (posted_reply part unit o)) ≡ set orders worker None
posted_orders part unit outcome.Done orders worker =
    elim (is_first part)
    as (λ b. orders_behind orders worker (Answered (if b then reply.Posted unit else reply.Closed unit)) ≡ set orders worker None)
    [ true ↦ refl | false ↦ refl ]
posted_orders part unit (outcome.Refused index reason) orders worker =
    elim (is_first part)
    as (λ b. orders_behind orders worker (Answered (if b then reply.Bad unit index reason else reply.Bad2 unit index reason)) ≡ set orders worker None)
    [ true ↦ refl | false ↦ refl ]

-- where a device failed the orders stay
pub orders_stay : (w : Written) (orders after : List (Option UnitKey)) (worker : ℕ) → after ≡ orders_behind orders worker w → OnFailure w (after ≡ orders)
orders_stay (Answered r) orders after worker is = tt
orders_stay (Failed change) orders after worker is = is
orders_stay Unfiled orders after worker is = is

-- ---- the store

module _ {K : Type 0} (held : K → Option Rows) (is_open : K → Type 0) (may_leave : K → Rows → Type 0) (faults : K → ℕ) where
  abbrev Settled : Type 0
  Settled = (keeper : K) → is_open keeper → IfSome (held keeper) (λ rows. IsOnly rows (may_leave keeper))

  -- the disk failed behind a step that was written
  pub done_unfiled_ends : Settled → (old new : BooksView K) (step : Step) → TriesStep held is_open may_leave faults old new step (Ok tt)
      → EndsAs held is_open may_leave faults old new Unfiled
  done_unfiled_ends settled old new step tried = record {
    ledger = tt;
    usable = tt;
    told = tried.told;
    left = answered_leaves held is_open may_leave new settled tried.usable;
    cause = tried.cause.quiet;
    kept = tt;
  }

  -- the rows weren't read that a step wants
  pub unread_ends : Settled → (old mid : BooksView K) → IsUsable held is_open old → mid.ledger ≡ old.ledger
      → is_some (held mid.keeper) ≡ is_some (held old.keeper) → IsWithin (may_leave mid.keeper) (may_leave old.keeper)
      → (faults old.keeper ≤ faults mid.keeper) × Rose (faults old.keeper) (faults mid.keeper) → EndsAs held is_open may_leave faults old mid (Failed None)
  unread_ends settled old mid usable same told crash cause = record {
    ledger = same;
    usable = tt;
    told = told;
    left = unread_leaves (held mid.keeper) (held old.keeper) (may_leave mid.keeper) (may_leave old.keeper) mid.ledger old.ledger None told same crash
        (answered_leaves held is_open may_leave old settled usable);
    cause = cause;
    kept = tt;
  }

  -- locks don't stand again behind a mark that was made ready
  pub ungranted_ends : Settled → (old mid : BooksView K) (f : ServerFault) → IsUsable held is_open mid → IsUnmoved held may_leave faults old mid
      → EndsAs held is_open may_leave faults old mid (ungranted f)
  ungranted_ends settled old mid f usable same = record {
    ledger = also_store_failed (mid.ledger ≡ old.ledger) (ungranted f) same.ledger;
    usable = also_answered (IsUsable held is_open mid) (ungranted f) usable;
    told = ap is_some same.rows;
    left = ungranted_leaves held may_leave mid f (answered_leaves held is_open may_leave mid settled usable);
    cause = ungranted_quiet f (faults old.keeper) (faults mid.keeper) same.count;
    kept = ungranted_keeps held may_leave old.keeper mid.keeper f same.rows same.crash;
  }

-- ---- the backup file

and_true : (b : Bool) → b ≡ (b && true)
and_true true = refl
and_true false = refl

wanted_not_failed : ◌≡◌ {A = Result Unit ServerFault} (Err server.NoMemory) (Err server.Failed) → ⊥
wanted_not_failed e = cc

module _ {D : Type 0} (tells : Bool) (reads : D → List ℕ) (may_leave : D → List ℕ → Type 0) (faults : D → ℕ) where
  -- a list that is to end is freed, or the disk failed
  pub frees_list : {E : Type 0} (ends : Bool) (unit : UnitKey) (old new : BackupView D) (r : Result Unit E) → ends ≡ true → OnOk r (new.failed ≡ false)
      → OnOk r (AreWithout unit old.units new.units)
      → (IsTrue tells → (lists : List Handed) → IsReady reads may_leave old lists → OnOk r (IsReady reads may_leave new (without unit lists)))
      → (IsTrue tells → (lists : List Handed) → IsReady reads may_leave old lists → (image : List ℕ) → may_leave new.disk image → Stands image lists
      ⊎ Stands image (without unit lists))
      → OnErr r (IsTrue (is_known unit old.units)) → HasCause (faults old.disk) (faults new.disk) r
      → FreesList {E = E} tells reads may_leave faults ends unit old new r
  frees_list {E = E} ends unit old new r is usable known freed images needed cause =
      subst (λ b. FreesList {E = E} tells reads may_leave faults b unit old new r) (sym is) (record {
        usable = usable;
        freed = freed;
        images = images;
        standing = known;
        needed = needed;
        untouched = λ off. never_both (new ≡ old) true refl off;
        cause = cause;
      })

  -- and one that isn't stays
  pub keeps_list : {E : Type 0} (ends : Bool) (unit : UnitKey) (file : BackupView D) → ends ≡ false → file.failed ≡ false
      → FreesList {E = E} tells reads may_leave faults ends unit file file (Ok tt)
  keeps_list {E = E} ends unit file is usable =
      subst (λ b. FreesList {E = E} tells reads may_leave faults b unit file file (Ok tt)) (sym is) (record {
        usable = usable;
        freed = λ t lists ready. ready;
        images = λ t lists ready image may. inl (ready_stands tells reads may_leave faults file lists image ready may);
        standing = λ other. and_true (is_known other file.units);
        needed = tt;
        untouched = λ off. refl;
        cause = record { later = omega arith; failed = tt; quiet = refl };
      })

  -- the mark is written, and the unit's list is gone where it was to end
  pub noted_files : {E : Type 0} (ledger now : Ledger) (ends : Bool) (unit : UnitKey) (kind : MarkKind) (r : Reply) (old new : BackupView D)
      → HasOpenLists tells reads may_leave ledger old → now ≡ with_mark ledger unit kind → EndsList ends ledger (with_mark ledger unit kind) unit
      → IsUnrefused (Answered r) → FreesList {E = E} tells reads may_leave faults ends unit old new (Ok tt)
      → FilesAs tells reads may_leave faults now old new (Answered r)
  noted_files ledger now ends unit kind r old new has is ending on freed =
      subst (λ l. FilesAs tells reads may_leave faults l old new (Answered r)) (sym is)
      (written_files tells reads may_leave faults ledger (with_mark ledger unit kind) (λ lists. lists_ended ends lists unit) old new r has freed.usable
      (ending.known old.units new.units has.standing freed.standing) freed.freed ending.lists freed.cause.quiet
      (unrefused_file r on) (unrefused_keeps_file old new r on))

  -- the disk failed as it was to go
  pub half_noted_files : {E : Type 0} (fault : E) (ledger now : Ledger) (ends : Bool) (unit : UnitKey) (kind : MarkKind) (old new : BackupView D)
      → HasOpenLists tells reads may_leave ledger old → now ≡ with_mark ledger unit kind → EndsList ends ledger (with_mark ledger unit kind) unit
      → FreesList {E = E} tells reads may_leave faults ends unit old new (Err fault) → FilesAs tells reads may_leave faults now old new Unfiled
  half_noted_files fault ledger now ends unit kind old new has is ending freed =
      subst (λ l. FilesAs tells reads may_leave faults l old new Unfiled) (sym is)
      (half_written_files tells reads may_leave faults ledger (with_mark ledger unit kind) (λ lists. lists_ended ends lists unit) old new has freed.images
      (λ lists just. (ending.agree lists just.agree, ending.half lists just.agree)) (freed.cause.later, freed.cause.failed))

  -- ---- locks that stand again

  -- memory was wanting before
  pub unregained : {L : Type 0} (asker : Asker) (unit : UnitKey) (given : List Entry) (s : Server D L)
      → Readmits tells reads may_leave faults asker unit given s s (Err server.NoMemory)
  unregained asker unit given s = record {
    granted = tt;
    refused = refl;
    usable = tt;
    known = tt;
    listed = λ t lists ready. tt;
    images = λ t lists ready image may. inl (ready_stands tells reads may_leave faults s.file lists image ready may);
    untouched = inr (same_file s.file);
    some = λ failed. absurd (wanted_not_failed failed);
    cause = refl;
  }

  -- they stand, and the mark is written or in flight
  pub reopened_files : {L : Type 0} (ledger now : Ledger) (unit : UnitKey) (old new : Server D L) (w : Written)
      → HasOpenLists tells reads may_leave ledger old.file → may_follow (status_of ledger.units ledger.marks unit) Again1 ≡ true
      → AllByRecursion HasGoodLocks ledger.units
      → Readmits tells reads may_leave faults (owners_of unit) unit (entries_of ledger.units unit) old new (Ok tt) → OnStoreFailure w (now ≡ ledger)
      → IsMarked ledger now unit Again1 w → FilesAs tells reads may_leave faults now old.file new.file w
  reopened_files ledger now unit old new (Answered (reply.Unit key)) has may good h kept is =
      subst (λ l. FilesAs tells reads may_leave faults l old.file new.file (Answered (reply.Unit key))) (sym is.1)
      (written_files tells reads may_leave faults ledger (with_mark ledger unit Again1) (λ lists. with_list unit (entries_of ledger.units unit) lists)
      old.file new.file (reply.Unit key) has h.usable
      (again_known ledger unit (entries_of ledger.units unit) old.file.units new.file.units (was_bad _ may) refl has.standing h.known)
      h.listed
      (λ lists just. reopened_lists ledger unit lists (was_bad _ may) good just)
      h.cause (λ n m same. same) tt)
  reopened_files ledger now unit old new (Failed (Some (Note key kind))) has may good h kept is =
      subst (λ (st : Step). FilesAs tells reads may_leave faults now old.file new.file (Failed (Some st))) (λ i. Note (sym is.0 i) (sym is.1 i))
      (failed_files tells reads may_leave faults now old.file new.file (Some (Note unit Again1))
      (again_agrees tells reads may_leave faults ledger now unit (entries_of ledger.units unit) old.file new.file has kept may good refl h.listed) h.cause)
  reopened_files ledger now unit old new _ has may good h kept is = absurd is

  -- ---- a V2 part that is tried again

  pub reposted_files : (ledger now : Ledger) (unit : UnitKey) (file : BackupView D) (w : Written) → HasOpenLists tells reads may_leave ledger file
      → may_follow (status_of ledger.units ledger.marks unit) Again2 ≡ true → OnStoreFailure w (now ≡ ledger) → IsMarked ledger now unit Again2 w
      → FilesAs tells reads may_leave faults now file file w
  reposted_files ledger now unit file (Answered (reply.Unit key)) has may kept is =
      subst (λ l. FilesAs tells reads may_leave faults l file file (Answered (reply.Unit key))) (sym is.1)
      (written_files tells reads may_leave faults ledger (with_mark ledger unit Again2) (λ lists. lists) file file (reply.Unit key) has has.usable
      (again2_known ledger unit file.units may has.standing) (λ t lists ready. ready) (λ lists just. again2_lists ledger unit may lists just) refl
      (λ n m same. same) tt)
  reposted_files ledger now unit file (Failed (Some (Note key kind))) has may kept is =
      subst (λ (st : Step). FilesAs tells reads may_leave faults now file file (Failed (Some st))) (λ i. Note (sym is.0 i) (sym is.1 i))
      (failed_before tells reads may_leave faults ledger now file (Some (Note unit Again2)) has kept
      (λ lists just. again2_agree ledger unit may lists just.agree))
  reposted_files ledger now unit file _ has may kept is = absurd is

-- where the disk failed they stand
pub regained_where : (P : Type 0) (f : ServerFault) (rule : Result (List Entry) AskFault) (before left : List Entry) → IsReadmission rule before left f
    → (rule ≡ Ok left → P) → OnFailure (ungranted f) P
regained_where P (server.Ask a) rule before left h k = tt
regained_where P server.Failed rule before left h k = k h
regained_where P server.NoMemory rule before left h k = tt

-- ---- the lists of the open units behind a mark

pub gone_ends : (ledger : Ledger) (unit : UnitKey) (status : Status) (ends : Bool) → status_of ledger.units ledger.marks unit ≡ Some status
    → may_cancel status ≡ true → ends ≡ is_open status → EndsList ends ledger (with_mark ledger unit Gone) unit
gone_ends ledger unit status ends here may is =
    subst (λ b. EndsList b ledger (with_mark ledger unit Gone) unit) (sym is) (record {
      known = λ old new are stays. gone_known ledger unit status old new here may are stays;
      lists = λ given h. gone_lists ledger unit status here may given h;
      agree = λ given h. gone_agree ledger unit given h;
      half = λ given h. gone_half ledger unit (is_open status) given h;
    })

pub posted_ends : (part : Part) → (ledger : Ledger) (unit : UnitKey) (o : Outcome) (kind : MarkKind) → WaitsFor part ledger unit
    → kind ≡ kind_for part o → EndsList (is_first part) ledger (with_mark ledger unit kind) unit
posted_ends part ledger unit o kind waits k =
    subst (λ x. EndsList (is_first part) ledger (with_mark ledger unit x) unit) (sym k) (record {
      known = λ old new are stays. posted_known part ledger unit o old new waits are stays;
      lists = λ given h. posted_lists part ledger unit o waits given h;
      agree = λ given h. posted_agree part ledger unit o given h;
      half = λ given h. posted_half part ledger unit o given h;
    })

-- ---- what calls come to

pub cancels_as : (s : State) (orders : List (Option UnitKey)) (entries left : List Entry) (ledger now : Ledger) (limit : ℕ) (unit : UnitKey) (status : Status)
    (ends : Bool) → s.orders ≡ orders → s.locks ≡ entries → s.stored ≡ ledger → s.mark_limit ≡ limit → Admits s (command.Cancel unit)
    → to_cancel ledger orders limit unit ≡ Ok status → ends ≡ is_open status → (w : Written)
    → IsNoted ledger now entries left ends unit Gone (reply.Unit unit) w
    → IsWritten s (command.Cancel unit) (record s { locks = left; stored = now }) w
cancels_as s orders entries left ledger now limit unit status ends e f g m room h so (Answered r) is =
    subst (λ x. IsAct s (command.Cancel unit) (record s { locks = left; stored = now }) x) (sym is.0)
    (cancels s orders entries left ledger now limit unit status e f g m room h (is.2 ∙ ended_so status ends entries unit so) is.1)
cancels_as s orders entries left ledger now limit unit status ends e f g m room h so (Failed (Some (Note key kind))) is =
    subst (λ (st : Step). IsWritten s (command.Cancel unit) (record s { locks = left; stored = now }) (Failed (Some st)))
    (λ i. Note (sym is.0 i) (sym is.1 i))
    (cancels_in_doubt s orders ledger limit unit status e g m room h)
cancels_as s orders entries left ledger now limit unit status ends e f g m room h so Unfiled is =
    cancels_unfiled s orders ledger now limit unit status e g m room h (and_parts ends _ is.1).1 is.0
cancels_as s orders entries left ledger now limit unit status ends e f g m room h so _ is = absurd is

pub reopens_as : (s : State) (t : Table) (ledger now : Ledger) (limit : ℕ) (unit : UnitKey) (left : List Entry) → s.locks ≡ t.entries → s.limit ≡ t.limit
    → s.stored ≡ ledger → s.mark_limit ≡ limit → Admits s (command.Resubmit unit) → to_resubmit ledger limit unit ≡ Ok Bad
    → readmitted t (owners_of unit) (entries_of ledger.units unit) ≡ Ok left → (w : Written) → IsMarked ledger now unit Again1 w
    → IsWritten s (command.Resubmit unit) (record s { locks = left; stored = now }) w
reopens_as s t ledger now limit unit left f l g m room h stand (Answered (reply.Unit key)) is =
    subst (λ k. IsAct s (command.Resubmit unit) (record s { locks = left; stored = now }) (reply.Unit k)) (sym is.0)
    (reopens s t ledger now limit unit left f l g m room h stand is.1)
reopens_as s t ledger now limit unit left f l g m room h stand (Failed (Some (Note key kind))) is =
    subst (λ (st : Step). IsWritten s (command.Resubmit unit) (record s { locks = left; stored = now }) (Failed (Some st)))
    (λ i. Note (sym is.0 i) (sym is.1 i))
    (reopens_in_doubt s t ledger limit unit left f l g m room h stand)
reopens_as s t ledger now limit unit left f l g m room h stand _ is = absurd is

pub reposts_as : (s : State) (entries : List Entry) (ledger now : Ledger) (limit : ℕ) (unit : UnitKey) → s.locks ≡ entries → s.stored ≡ ledger
    → s.mark_limit ≡ limit → Admits s (command.Resubmit unit) → to_resubmit ledger limit unit ≡ Ok Bad2 → (w : Written)
    → IsMarked ledger now unit Again2 w → IsWritten s (command.Resubmit unit) (record s { locks = entries; stored = now }) w
reposts_as s entries ledger now limit unit f g m room h (Answered (reply.Unit key)) is =
    subst (λ k. IsAct s (command.Resubmit unit) (record s { locks = entries; stored = now }) (reply.Unit k)) (sym is.0)
    (reposts s entries ledger now limit unit f g m room h is.1)
reposts_as s entries ledger now limit unit f g m room h (Failed (Some (Note key kind))) is =
    subst (λ (st : Step). IsWritten s (command.Resubmit unit) (record s { locks = entries; stored = now }) (Failed (Some st)))
    (λ i. Note (sym is.0 i) (sym is.1 i))
    (reposts_in_doubt s ledger limit unit g m room h)
reposts_as s entries ledger now limit unit f g m room h _ is = absurd is

pub posts_as : (part : Part) (s : State) (entries left : List Entry) (ledger now : Ledger) (worker : ℕ) (unit : UnitKey) (o : Outcome)
    (kind : MarkKind) (said : Reply) → (is_first part ≡ true → s.locks ≡ entries) → s.stored ≡ ledger
    → Admits s (post_of part worker) → order_for part ledger s.orders worker ≡ Some unit → nat_le s.mark_limit (length ledger.marks) ≡ false
    → o ≡ outcome_in ledger part unit → kind ≡ kind_for part o → said ≡ posted_reply part unit o → (w : Written)
    → IsNoted ledger now entries left (is_first part) unit kind said w
    → IsWritten s (post_of part worker)
    (record s { orders = orders_behind s.orders worker w; locks = locks_posted part s.locks left; stored = now }) w
posts_as part s entries left ledger now worker unit o kind said f g room found space may k r (Answered x) h =
    subst (λ y. IsAct s (post_of part worker)
    (record s { orders = orders_behind s.orders worker (Answered y); locks = locks_posted part s.locks left; stored = now }) y) (sym (h.0 ∙ r))
    (posts part s s.orders (orders_behind s.orders worker (Answered (posted_reply part unit o))) entries left ledger now s.mark_limit worker unit o
    refl
    f g refl room found space may (posted_orders part unit o s.orders worker) h.2 (h.1 ∙ ap (with_mark ledger unit) k))
posts_as part s entries left ledger now worker unit o kind said f g room found space may k r (Failed (Some (Note key noted))) h =
    subst (λ (st : Step). IsWritten s (post_of part worker)
    (record s { orders = s.orders; locks = locks_posted part s.locks left; stored = now }) (Failed (Some st)))
    (λ i. Note (sym h.0 i) (sym (h.1 ∙ k) i))
    (posts_in_doubt part s s.orders ledger s.mark_limit worker unit o refl g refl room found space may)
posts_as part s entries left ledger now worker unit o kind said f g room found space may k r Unfiled h =
    posts_unfiled part s s.orders ledger now s.mark_limit worker unit o h.1 refl g refl room found space may (h.0 ∙ ap (with_mark ledger unit) k)
posts_as part s entries left ledger now worker unit o kind said f g room found space may k r _ h = absurd h

-- ---- why nothing is posted

ok_same : (a b : UnitKey) → ◌≡◌ {A = Result UnitKey Refusal} (Ok a) (Ok b) → a ≡ b
ok_same a b e = cc

err_same : (a b : Refusal) → ◌≡◌ {A = Result UnitKey Refusal} (Err a) (Err b) → a ≡ b
err_same a b e = cc

err_not_ok : (r : Refusal) (a : UnitKey) → ◌≡◌ {A = Result UnitKey Refusal} (Err r) (Ok a) → ⊥
err_not_ok r a e = cc

ok_not_err : (r : Refusal) (a : UnitKey) → ◌≡◌ {A = Result UnitKey Refusal} (Ok a) (Err r) → ⊥
ok_not_err r a e = cc

-- the order that is posted now, and the room for its mark
pub can_be_posted : (o : Option UnitKey) (full : Bool) (limit : ℕ) (found : UnitKey) → unit_to_post full limit o ≡ Ok found
    → (o ≡ Some found) × (full ≡ false)
can_be_posted None full limit found e = absurd (err_not_ok refusal.NoOrder found e)
can_be_posted (Some unit) true limit found e = absurd (err_not_ok (refusal.StoreFull limit) found e)
can_be_posted (Some unit) false limit found e = (ap Some (ok_same unit found e), refl)

-- there is no such order, or no room
abbrev pub IsNotPosted : Option UnitKey → (full : Bool) → (limit : ℕ) → Refusal → Type 0
IsNotPosted o full limit r =
    ((o ≡ None) × (refusal.NoOrder ≡ r)) ⊎ ((unit : UnitKey) × (o ≡ Some unit) × (full ≡ true) × (refusal.StoreFull limit ≡ r))

pub not_posted : (o : Option UnitKey) (full : Bool) (limit : ℕ) (r : Refusal) → unit_to_post full limit o ≡ Err r → IsNotPosted o full limit r
not_posted None full limit r e = inl (refl, err_same refusal.NoOrder r e)
not_posted (Some unit) true limit r e = inr (unit, refl, refl, err_same (refusal.StoreFull limit) r e)
not_posted (Some unit) false limit r e = absurd (ok_not_err r unit e)

pub not_posted_plainly : (o : Option UnitKey) (full : Bool) (limit : ℕ) (r : Refusal) → IsNotPosted o full limit r → IsPlain r
not_posted_plainly o full limit r (inl none) = subst IsPlain none.1 refl
not_posted_plainly o full limit r (inr over) = subst IsPlain over.3 refl

pub posts_not : (part : Part) (s : State) (orders : List (Option UnitKey)) (entries : List Entry) (ledger : Ledger) (limit worker : ℕ) (r : Refusal)
    → s.orders ≡ orders → (is_first part ≡ true → s.locks ≡ entries) → s.stored ≡ ledger → s.mark_limit ≡ limit → Admits s (post_of part worker)
    → IsNotPosted (order_for part ledger orders worker) (nat_le limit (length ledger.marks)) limit r
    → IsAct s (post_of part worker) (record s { orders = orders; locks = locks_posted part s.locks entries; stored = ledger }) (reply.Refused r)
posts_not part s orders entries ledger limit worker r e f g m room (inl none) =
    subst (λ x. IsAct s (post_of part worker) (record s { orders = orders; locks = locks_posted part s.locks entries; stored = ledger }) (reply.Refused x))
    none.1 (posts_none part s orders entries ledger worker e f g room none.0)
posts_not part s orders entries ledger limit worker r e f g m room (inr over) =
    subst (λ x. IsAct s (post_of part worker) (record s { orders = orders; locks = locks_posted part s.locks entries; stored = ledger }) (reply.Refused x))
    over.3 (posts_full part s orders entries ledger limit worker over.0 e f g m room over.1 over.2)
