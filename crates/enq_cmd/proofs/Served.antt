-- What a program does whose site was opened, and what it does whose site wasn't.
use Rattle.std.proofs.Common.{◌≡◌, ◌⊎◌, inl, inr, Bool, true, false, ℕ, List, [], Option, Some, None, refl, sym, ap, ◌∙◌, subst, arith}
use Rattle.std.specs.Prelude.{is_some, IfSome, IsTrue}
use Rattle.enq_base.specs.Causes.{Rose}
use Rattle.hall_calls.specs.Filing.{AllRecover, LeavesLists}
use Rattle.hall_calls.specs.Leaving.{LeavesState, StandForState}
use Rattle.hall_model.specs.Kept.{HasOpenUnits}
use Rattle.hall_model.specs.Recall.{AreModelAnswers, Made, calls_of, state_after}
use Rattle.hall_model.specs.State.{State}
use Rattle.hall_calls.specs.View.{View}
use Rattle.enq_base.specs.declared.condition.BackupBad.{BackupBad}
use Rattle.hall_model.specs.declared.command.PastEntry.{PastEntry}
use Rattle.hall_model.specs.declared.command.Reply.{Reply}
use Rattle.keeper_api.specs.Rows.{Rows}
use Rattle.landscape.proofs.lemmas.Limits.{read_limits}
use Rattle.landscape.specs.declared.landscape.Landscape.{Landscape}
use Rattle.lock_entry.specs.declared.entry.Entry.{Entry}
use Rattle.lock_objects.specs.Objects.{Object}
use Rattle.update_records.specs.Ledger.{Ledger}
use Rattle.hall_model.specs.Unsound.{is_unsound_file, is_unsound_replica, is_unsound_store}
use Rattle.script_runner.proofs.lemmas.Kept.{same_counts}
use Rattle.script_runner.specs.Counts.{CountsCalls, file_fails_in_call, store_fails_in_call}
use Rattle.script_runner.specs.Faults.{NoneTells, NoneUnsound, NoneUnsoundReplica, NoneUnsoundStore, TellsNoFault, is_link_fault}
use Rattle.script_runner.specs.Replay.{RunsScript, Seen, seen}
use Rattle.script_runner.specs.Replicas.{AreLater, CountsLinkEach, GoesOnLinked, HasLinked, LinkCounts, link_counts}
use Rattle.script_runner.specs.Shown.{audit_shown}
use Rattle.script_runner.specs.declared.runner.Why.{Why}
use Rattle.script_runner.specs.declared.runner.Why.TheVariants.{Done, BadWords, BadLandscape, BadLine, SourceFault, SinkFault, LongLine, ManyLines, StoreFault}
use Rattle.script_runner.specs.declared.runner.Why.TheVariants.{BackupFault, BadStore, BadBackup, NoStart, NoMemory, LogFull}
use Rattle.enq_cmd.proofs.Tellings.{HasRun, first_sound, promises_with, served_with, where_told}
use Rattle.enq_cmd.specs.Writing.{WritesText}
use Rattle.enq_cmd.specs.Main.{AreServed, EndsComplete, HasLandscape, HasNoStart, IsFaultless, IsBadDocument, IsBadStore, IsFirstBroken, IsLandEnd, IsUnfitEnd}
use Rattle.enq_cmd.specs.Main.{IsServed, IsUnopened, IsUntouched, SiteFound, SiteLeft, first_state, found_in, left_in, made_from}
use Rattle.enq_cmd.specs.Loading.{HasLoaded, IsRunEnd, IsSilent, RunsLoad, ShowsCounts, unheard}
use Rattle.enq_cmd.specs.Opening.{IsLandedAlone, IsOpened, IsUnlanded}

module _ {K D L : Type 0} (held : K → Option Rows) (may_leave : K → Rows → Type 0) (faults : K → ℕ) (tells : Bool) (reads : D → List ℕ)
    (images : D → List ℕ → Type 0) (file_faults : D → ℕ)
    (applied : L → Option (List Entry)) (left : Option (List ℕ)) (keeper : K) (disk : D) (link : L) (hall : View K D L) (objects : List Object)
    (o : IsOpened held may_leave faults tells reads file_faults applied left keeper disk link hall objects) where
  -- what the server found, and what it leaves with these devices and this replica
  abbrev site : SiteFound
  site = found_in held may_leave tells reads images applied keeper disk link

  abbrev left_with : K → D → Option (List Entry) → SiteLeft
  left_with keeper_now disk_now replica = record { rows = may_leave keeper_now; images = images disk_now; list = replica }

  -- an open server, whose calls led to another state, and its devices then
  pub promises_by : (after : View K D L) (keeper_now : K) (disk_now : D) → keeper_now ≡ after.keeper → disk_now ≡ after.file.disk
      → is_some (held after.keeper) ≡ is_some (held hall.keeper)
      → LeavesState held may_leave after → LeavesLists tells images after → HasOpenUnits after.state
      → (replica : Option (List Entry)) → (after.state.attached ≡ true → IfSome replica (λ list. list ≡ after.state.locks))
      → (is_some (applied hall.replica.link) ≡ true → IsTrue tells → NoneUnsound after.state.past)
      → (is_some (held hall.keeper) ≡ true → NoneUnsoundStore after.state.past)
      → (is_some (applied hall.replica.link) ≡ true → NoneUnsoundReplica after.state.past)
      → (old new : Seen) (past : List PastEntry) → past ≡ after.state.past → (made : List Made) → past ≡ calls_of made
      → AreModelAnswers (first_state o.land (is_some (held keeper)) (is_some (applied link)) hall.state.stored) made
      → after.state ≡ state_after (first_state o.land (is_some (held keeper)) (is_some (applied link)) hall.state.stored) made
      → CountsCalls store_fails_in_call made old.store_faults new.store_faults → CountsCalls file_fails_in_call made old.file_faults new.file_faults
      → AreServed o.land site (left_with keeper_now disk_now replica) old new hall.state.stored made past
  promises_by after keeper_now disk_now kept kept_disk told leaves lists units replica follows files stores replicas old new past history made calls answers
      leads counted filed =
      promises_with o.land site (left_with keeper_now disk_now replica) old new hall.state.stored after.state past made
      (read_limits o.read.bytes o.land o.read.gives)
      o.sound
      (λ yes. where_told _ (held hall.keeper) (subst IsTrue (sym o.told) yes) o.stored)
      o.fits o.table o.filed calls answers leads counted filed
      (λ yes. subst (λ k. (rows : Rows) → may_leave k rows → StandForState rows after.state) (sym kept)
      (where_told _ (held after.keeper) (subst IsTrue (sym (told ∙ o.told)) yes) leaves))
      (subst (λ d. AllRecover tells images after.state.condition after.state.stored after.state.in_flight after.state.found (record after.file { disk = d }))
      (sym kept_disk) lists)
      units follows
      (λ on yes. subst NoneUnsound (sym history) (files (ap (λ l. is_some (applied l)) o.linked ∙ on) yes))
      (λ yes. subst NoneUnsoundStore (sym history) (stores (o.told ∙ yes)))
      (λ yes. subst NoneUnsoundReplica (sym history) (replicas (ap (λ l. is_some (applied l)) o.linked ∙ yes)))

  -- one that did a script line by line
  pub served_by : (after : View K D L) (keeper_now : K) (disk_now : D) → keeper_now ≡ after.keeper → disk_now ≡ after.file.disk
      → is_some (held after.keeper) ≡ is_some (held hall.keeper)
      → LeavesState held may_leave after → LeavesLists tells images after → HasOpenUnits after.state
      → (replica : Option (List Entry)) → (after.state.attached ≡ true → IfSome replica (λ list. list ≡ after.state.locks))
      → (is_some (applied hall.replica.link) ≡ true → IsTrue tells → NoneUnsound hall.state.past → NoneUnsound after.state.past)
      → (is_some (held hall.keeper) ≡ true → NoneUnsoundStore hall.state.past → NoneUnsoundStore after.state.past)
      → (is_some (applied hall.replica.link) ≡ true → NoneUnsoundReplica hall.state.past → NoneUnsoundReplica after.state.past)
      → (known : List Object) (old new : Seen) (past : List PastEntry) (why : Why)
      → HasRun o.land (is_some (held keeper)) (is_some (applied link)) hall.state.stored hall.state after.state known old new past why
      → (s : IsServed o.land site (left_with keeper_now disk_now replica) old new past why)
      × (after.state ≡ state_after (first_state o.land (is_some (held keeper)) (is_some (applied link)) s.stored)
      (made_from o.land (is_some (held keeper)) (is_some (applied link)) s.stored s.turns))
  served_by after keeper_now disk_now kept kept_disk told leaves lists units replica follows files stores replicas known old new past why run =
      served_with o.land site (left_with keeper_now disk_now replica) hall.state.stored hall.state after.state known old new past why
      (promises_by after keeper_now disk_now kept kept_disk told leaves lists units replica follows
      (λ on yes. files on yes (first_sound is_unsound_file o.land (is_some (held keeper)) (is_some (applied link)) hall.state.stored hall.state o.first))
      (λ yes. stores yes (first_sound is_unsound_store o.land (is_some (held keeper)) (is_some (applied link)) hall.state.stored hall.state o.first))
      (λ yes. replicas yes (first_sound is_unsound_replica o.land (is_some (held keeper)) (is_some (applied link)) hall.state.stored hall.state o.first))
      old new past run.history)
      run

-- a run of a script in memory, with the devices as they were given and as they are given back
pub load_run : {K D L : Type 0} (held : K → Option Rows) (may_leave : K → Rows → Type 0) (faults : K → ℕ) (tells : Bool) (reads : D → List ℕ)
    (file_faults : D → ℕ)
    (applied : L → Option (List Entry)) (left : Option (List ℕ)) (keeper : K) (disk : D) (link : L) (hall : View K D L) (objects : List Object)
    (o : IsOpened held may_leave faults tells reads file_faults applied left keeper disk link hall objects)
    (after : View K D L) (keeper_now : K) (disk_now : D) → keeper_now ≡ after.keeper → disk_now ≡ after.file.disk
    → (known : List Object) → known ≡ objects → (past : List PastEntry) → past ≡ after.state.past
    → (source text : List ℕ) → source ≡ text → (written written_now : Option (List ℕ)) (sink_faults sink_faults_now : ℕ) (why : Why)
    → (r : RunsLoad known source hall.state after.state (faults hall.keeper) (faults after.keeper) (file_faults hall.file.disk)
    (file_faults after.file.disk) written written_now sink_faults sink_faults_now why)
    → HasRun o.land (is_some (held keeper)) (is_some (applied link)) hall.state.stored hall.state after.state known
    (unheard text (faults keeper) (file_faults disk)) (unheard r.rest (faults keeper_now) (file_faults disk_now)) past r.end
load_run held may_leave faults tells reads file_faults applied left keeper disk link hall objects o after keeper_now disk_now kept kept_disk known same past
    history source text is written written_now sink_faults sink_faults_now why r =
    let before = unheard source (faults hall.keeper) (file_faults hall.file.disk) in
    let behind = unheard r.rest (faults after.keeper) (file_faults after.file.disk) in
    let old = unheard text (faults keeper) (file_faults disk) in
    let new = unheard r.rest (faults keeper_now) (file_faults disk_now) in
    let from : before ≡ old = (λ i. unheard (is i) (o.counts i) (o.file_counts i)) in
    let to : behind ≡ new = (λ i. unheard r.rest (faults (sym kept i)) (file_faults (sym kept_disk i))) in
    record {
      first = o.first;
      known = same ∙ o.known;
      history = history;
      runs = subst (λ s. RunsScript known hall.state after.state s new r.end) from
          (subst (λ s. RunsScript known hall.state after.state before s r.end) to r.runs);
      complete = λ bytes left script calm. r.complete bytes (ap (λ x. x.left) from ∙ left) script
          (subst (λ s. IsFaultless s behind) (sym from) (subst (λ s. IsFaultless old s) (sym to) calm));
    }

-- no device of a script in memory, and none of these, failed
pub calm_load : (text rest : List ℕ) (store store_now file file_now : ℕ) → (Rose store store_now → ⊥) → (Rose file file_now → ⊥)
    → IsFaultless (unheard text store file) (unheard rest store_now file_now)
calm_load text rest store store_now file file_now kept still =
    record { source = λ rose. omega (arith, rose); sink = λ rose. omega (arith, rose); store = kept; file = still }

counts_end : (may_be : Rows → Type 0) (old new : Option (List ℕ)) (before now : ℕ) (text : List ℕ) (why : Why) → WritesText old new before now text why
    → (Rose before now → ⊥) → EndsComplete may_be why
counts_end may_be old new before now text Done h quiet = inl refl
counts_end may_be old new before now text SinkFault h quiet = absurd (quiet h.1)
counts_end may_be old new before now text NoMemory h quiet = inr (inl refl)
counts_end may_be old new before now text BadWords h quiet = absurd h
counts_end may_be old new before now text (BadLandscape rule place) h quiet = absurd h
counts_end may_be old new before now text (BadLine n) h quiet = absurd h
counts_end may_be old new before now text SourceFault h quiet = absurd h
counts_end may_be old new before now text (LongLine n) h quiet = absurd h
counts_end may_be old new before now text ManyLines h quiet = absurd h
counts_end may_be old new before now text (StoreFault k) h quiet = absurd h
counts_end may_be old new before now text (BackupFault k) h quiet = absurd h
counts_end may_be old new before now text (BadStore table row) h quiet = absurd h
counts_end may_be old new before now text (BadBackup place) h quiet = absurd h
counts_end may_be old new before now text NoStart h quiet = absurd h
counts_end may_be old new before now text LogFull h quiet = absurd h

-- where a run is done, and its counts are written by a sink that doesn't fail, the program is done
pub load_ends : (may_be : Rows → Type 0) (end why : Why) (after : State) (old new : Option (List ℕ)) (before now : ℕ) → EndsComplete may_be end
    → ShowsCounts end after old new before now why → (Rose before now → ⊥) → EndsComplete may_be why
load_ends may_be end why after old new before now (inl done) shown quiet =
    counts_end may_be old new before now (audit_shown 0 after) why (subst (λ e. ShowsCounts e after old new before now why) done shown) quiet
load_ends may_be end why after old new before now (inr (inl memory)) shown quiet =
    let silent : IsSilent NoMemory old new before now why = subst (λ e. ShowsCounts e after old new before now why) memory shown in inr (inl silent.0)
load_ends may_be end why after old new before now (inr (inr last)) shown quiet =
    let silent : IsSilent NoStart old new before now why = subst (λ e. ShowsCounts e after old new before now why) last.0 shown in inr (inr (silent.0, last.1))

-- a site of which no server came, beside a script and a sink that nobody touched
pub unserved : {S T K D L : Type 0} (held : K → Option Rows) (may_leave : K → Rows → Type 0) (faults : K → ℕ) (tells : Bool) (reads : D → List ℕ)
    (images : D → List ℕ → Type 0) (file_faults : D → ℕ) (applied : L → Option (List Entry))
    (left : Option (List ℕ)) (before now : ℕ) (script : S) (sink : T) (keeper keeper_now : K) (disk disk_now : D) (link link_now : L)
    (rest written : Option (List ℕ)) (source_faults sink_faults : ℕ) (past : List PastEntry) (why : Why)
    → past ≡ [] → link_now ≡ link
    → IsUnlanded before now keeper keeper_now disk disk_now why ⊎ IsLandedAlone held may_leave faults tells reads images file_faults applied left
    keeper keeper_now disk disk_now link link_now why
    → HasLandscape left (found_in held may_leave tells reads images applied keeper disk link) (left_in may_leave images applied keeper_now disk_now link_now)
    disk disk_now link link_now (seen rest written source_faults sink_faults (faults keeper) (file_faults disk))
    (seen rest written source_faults sink_faults (faults keeper_now) (file_faults disk_now)) past why
    ⊎ (IsLandEnd before now why × IsUntouched script script sink sink keeper keeper_now disk disk_now link link_now past)
unserved held may_leave faults tells reads images file_faults applied left before now script sink keeper keeper_now disk disk_now link link_now rest written
    source_faults sink_faults past why none same (inl u) =
    inr (u.end, record { reading = refl; writing = refl; storing = u.storing; filing = u.filing; linking = same; none = none })
unserved held may_leave faults tells reads images file_faults applied left before now script sink keeper keeper_now disk disk_now link link_now rest written
    source_faults sink_faults past why none same (inr a) =
    inl (record {
      land = a.land;
      read = a.read;
      serves = inr (subst
          (λ p. IsUnopened (found_in held may_leave tells reads images applied keeper disk link) (left_in may_leave images applied keeper_now disk_now link_now)
          disk disk_now link link_now (seen rest written source_faults sink_faults (faults keeper) (file_faults disk))
          (seen rest written source_faults sink_faults (faults keeper_now) (file_faults disk_now)) p why) (sym none)
          (a.unopened rest written source_faults sink_faults));
    })

-- the same of one whose script is made from a number
pub unloaded : {T K D L : Type 0} (held : K → Option Rows) (may_leave : K → Rows → Type 0) (faults : K → ℕ) (tells : Bool) (reads : D → List ℕ)
    (images : D → List ℕ → Type 0) (file_faults : D → ℕ) (applied : L → Option (List Entry))
    (units : ℕ) (left : Option (List ℕ)) (before now : ℕ) (sink : T) (keeper keeper_now : K) (disk disk_now : D) (link link_now : L)
    (written : Option (List ℕ)) (sink_faults : ℕ) (past : List PastEntry) (why : Why)
    → past ≡ [] → link_now ≡ link
    → IsUnlanded before now keeper keeper_now disk disk_now why ⊎ IsLandedAlone held may_leave faults tells reads images file_faults applied left
    keeper keeper_now disk disk_now link link_now why
    → HasLoaded units left (found_in held may_leave tells reads images applied keeper disk link) (left_in may_leave images applied keeper_now disk_now link_now)
    disk disk_now link link_now (seen None written 0 sink_faults (faults keeper) (file_faults disk))
    (seen None written 0 sink_faults (faults keeper_now) (file_faults disk_now)) past why
    ⊎ (IsLandEnd before now why × (sink ≡ sink) × (keeper_now ≡ keeper) × (disk_now ≡ disk) × (link_now ≡ link) × (past ≡ []))
unloaded held may_leave faults tells reads images file_faults applied units left before now sink keeper keeper_now disk disk_now link link_now written
    sink_faults past why none same (inl u) =
    inr (u.end, refl, u.storing, u.filing, same, none)
unloaded held may_leave faults tells reads images file_faults applied units left before now sink keeper keeper_now disk disk_now link link_now written
    sink_faults past why none same (inr a) =
    inl (record {
      land = a.land;
      read = a.read;
      loads = inr (subst
          (λ p. IsUnopened (found_in held may_leave tells reads images applied keeper disk link) (left_in may_leave images applied keeper_now disk_now link_now)
          disk disk_now link link_now (seen None written 0 sink_faults (faults keeper) (file_faults disk))
          (seen None written 0 sink_faults (faults keeper_now) (file_faults disk_now)) p why) (sym none)
          (a.unopened None written 0 sink_faults));
    })

-- the same of the number that the words name, and of a script that nobody touched
pub loaded_as : {S T K D L : Type 0} (m n : ℕ) → m ≡ n → (left : Option (List ℕ)) (site : SiteFound) (site_now : SiteLeft) (disk disk_now : D) (old new : Seen)
    (faults faults_now : ℕ) (script script_now : S) (sink sink_now : T) (keeper keeper_now : K) (link link_now : L) (past : List PastEntry) (why : Why)
    → script_now ≡ script
    → HasLoaded m left site site_now disk disk_now link link_now old new past why
    ⊎ (IsLandEnd faults faults_now why × (sink_now ≡ sink) × (keeper_now ≡ keeper) × (disk_now ≡ disk) × (link_now ≡ link) × (past ≡ []))
    → HasLoaded n left site site_now disk disk_now link link_now old new past why
    ⊎ (IsLandEnd faults faults_now why × IsUntouched script script_now sink sink_now keeper keeper_now disk disk_now link link_now past)
loaded_as m n same left site site_now disk disk_now old new faults faults_now script script_now sink sink_now keeper
    keeper_now link link_now past why still (inl h) =
    inl (subst (λ k. HasLoaded k left site site_now disk disk_now link link_now old new past why) same h)
loaded_as m n same left site site_now disk disk_now old new faults faults_now script script_now sink sink_now keeper
    keeper_now link link_now past why still (inr h) =
    inr (h.0, record { reading = still; writing = h.1; storing = h.2; filing = h.3; linking = h.4; none = h.5 })

-- ---- the ends of a run

by_run : (P : Why → Type 0) (why : Why) → IsRunEnd why → P Done → ((n : ℕ) → P (BadLine n)) → P SourceFault → P SinkFault → ((n : ℕ) → P (LongLine n))
    → P ManyLines → ((k : ℕ) → P (StoreFault k)) → ((k : ℕ) → P (BackupFault k)) → ((table row : ℕ) → P (BadStore table row))
    → ((place : BackupBad) → P (BadBackup place)) → P NoMemory → P why
by_run P Done h done bad source sink long many store file shelf shut memory = done
by_run P BadWords h done bad source sink long many store file shelf shut memory = absurd h
by_run P (BadLandscape rule place) h done bad source sink long many store file shelf shut memory = absurd h
by_run P (BadLine n) h done bad source sink long many store file shelf shut memory = bad n
by_run P SourceFault h done bad source sink long many store file shelf shut memory = source
by_run P SinkFault h done bad source sink long many store file shelf shut memory = sink
by_run P (LongLine n) h done bad source sink long many store file shelf shut memory = long n
by_run P ManyLines h done bad source sink long many store file shelf shut memory = many
by_run P (StoreFault k) h done bad source sink long many store file shelf shut memory = store k
by_run P (BackupFault k) h done bad source sink long many store file shelf shut memory = file k
by_run P (BadStore table row) h done bad source sink long many store file shelf shut memory = shelf table row
by_run P (BadBackup place) h done bad source sink long many store file shelf shut memory = shut place
by_run P NoStart h done bad source sink long many store file shelf shut memory = absurd h
by_run P NoMemory h done bad source sink long many store file shelf shut memory = memory
by_run P LogFull h done bad source sink long many store file shelf shut memory = absurd h

pub some_of : {A : Type 0} (P : A → Type 0) (o : Option A) → ((x : A) → P x) → IfSome o P
some_of P None h = tt
some_of P (Some x) h = h x

-- none of them tells a rule or a last start
pub run_unfit : (o : Option Rows) (left : Option (List ℕ)) (may_be : Rows → Type 0) (why : Why) → IsRunEnd why → IfSome o (λ _. IsUnfitEnd left may_be why)
run_unfit o left may_be why h =
    some_of _ o (λ rows. by_run (IsUnfitEnd left may_be) why h tt (λ n. tt) tt tt (λ n. tt) tt (λ k. tt) (λ k. tt) (λ table row. tt) (λ place. tt) tt)

-- and a bad place only where a call found one
never_placed : (rows : Rows) (why : Why) → IsRunEnd why → ((table row : ℕ) → why ≡ BadStore table row → ⊥) → IsBadStore rows why
never_placed rows why h =
    by_run (λ w. ((table row : ℕ) → w ≡ BadStore table row → ⊥) → IsBadStore rows w) why h
    (λ none. tt) (λ n none. tt) (λ none. tt) (λ none. tt) (λ n none. tt) (λ none. tt) (λ k none. tt) (λ k none. tt)
    (λ table row none. absurd (none table row refl)) (λ place none. tt) (λ none. tt)

pub run_place : (o : Option Rows) (why : Why) → IsRunEnd why → (is_some o ≡ true → (table row : ℕ) → why ≡ BadStore table row → ⊥)
    → IfSome o (λ rows. IsBadStore rows why)
run_place None why h none = tt
run_place (Some rows) why h none = never_placed rows why h (none refl)

pub run_broken : (bytes : List ℕ) (why : Why) → IsRunEnd why → IsFirstBroken bytes why
run_broken bytes why h = by_run (IsFirstBroken bytes) why h tt (λ n. tt) tt tt (λ n. tt) tt (λ k. tt) (λ k. tt) (λ table row. tt) (λ place. tt) tt

pub run_last : (o : Option Rows) (why : Why) → IsRunEnd why → IfSome o (λ rows. HasNoStart rows why)
run_last o why h = some_of _ o (λ rows. by_run (HasNoStart rows) why h tt (λ n. tt) tt tt (λ n. tt) tt (λ k. tt) (λ k. tt) (λ table row. tt) (λ place. tt) tt)

pub run_document : (why : Why) → IsRunEnd why → IsBadDocument why → ⊥
run_document why h = by_run (λ w. IsBadDocument w → ⊥) why h (λ d. d) (λ n d. d) (λ d. d) (λ d. d) (λ n d. d) (λ d. d) (λ k d. d) (λ k d. d) (λ table row d. d)
    (λ place d. d) (λ d. d)

ends_so : (before after : State) (objects : List Object) (old new : Seen) (why : Why) → RunsScript objects before after old new why → IsRunEnd why
ends_so before after objects old new Done run = tt
ends_so before after objects old new BadWords run = absurd (run.runs.replays.end)
ends_so before after objects old new (BadLandscape rule place) run = absurd (run.runs.replays.end)
ends_so before after objects old new (BadLine n) run = tt
ends_so before after objects old new SourceFault run = tt
ends_so before after objects old new SinkFault run = tt
ends_so before after objects old new (LongLine n) run = tt
ends_so before after objects old new ManyLines run = tt
ends_so before after objects old new (StoreFault k) run = tt
ends_so before after objects old new (BackupFault k) run = tt
ends_so before after objects old new (BadStore table row) run = tt
ends_so before after objects old new (BadBackup place) run = tt
ends_so before after objects old new NoStart run = absurd (run.runs.replays.end)
ends_so before after objects old new NoMemory run = tt
ends_so before after objects old new LogFull run = absurd (run.runs.replays.end)

-- the kind of such a run's end
pub run_kind : (before after : State) (objects : List Object) (old new : Seen) (why end : Why) → end ≡ why → RunsScript objects before after old new why
    → IsRunEnd end
run_kind before after objects old new why end is run = subst IsRunEnd (sym is) (ends_so before after objects old new why run)

-- a count that stood still under other names
pub still_by : (a b c d : ℕ) → a ≡ c → b ≡ d → (Rose c d → ⊥) → Rose a b → ⊥
still_by a b c d from to still rose = still (subst (λ n. Rose n d) from (subst (λ n. Rose a n) to rose))

-- where no call was made none was answered so
pub none_answered : (tells : Reply → Bool) (past : List PastEntry) → past ≡ [] → NoneTells tells past
none_answered tells past none = subst (NoneTells tells) (sym none) refl

-- a link that didn't fail over a run from a first state
pub link_quiet : (land : Landscape) (t linked : Bool) (l : Ledger) (before after : State) (past : List PastEntry) (a b c d : ℕ)
    → before ≡ first_state land t linked l → past ≡ after.past → a ≡ c → b ≡ d
    → TellsNoFault a b before.past after.past → (Rose c d → ⊥) → NoneTells is_link_fault past
link_quiet land t linked l before after past a b c d first history from to tells still =
    subst (NoneTells is_link_fault) (sym history) (tells (still_by a b c d from to still) (first_sound is_link_fault land t linked l before first))

-- ---- the counts of the link, call by call

-- where no call was made they stand still
pub none_linked : {L : Type 0} (faults refusals : L → ℕ) (old new : L) (past : List PastEntry) → new ≡ old → past ≡ []
    → CountsLinkEach false past (link_counts faults refusals old) (link_counts faults refusals new)
none_linked faults refusals old new past same none =
    subst (λ p. CountsLinkEach false p (link_counts faults refusals old) (link_counts faults refusals new)) (sym none)
    (subst (λ l. AreLater (link_counts faults refusals old) (link_counts faults refusals l)) (sym same) (same_counts (link_counts faults refusals old)))

-- and else they are those of the calls of a run from a first state, over this link
pub run_linked : {L : Type 0} (faults refusals : L → ℕ) (land : Landscape) (t linked : Bool) (l : Ledger) (before after : State) (past : List PastEntry)
    (site old new ended : L) → before ≡ first_state land t linked l → past ≡ after.past → old ≡ site → ended ≡ new
    → GoesOnLinked before after (link_counts faults refusals old) (link_counts faults refusals new)
    → CountsLinkEach false past (link_counts faults refusals site) (link_counts faults refusals ended)
run_linked faults refusals land t linked l before after past site old new ended first history from to goes =
    let counts : _ → LinkCounts = link_counts faults refusals in
    let start : HasLinked false (counts site) (first_state land t linked l) (counts site) = record { counted = same_counts (counts site); follows = refl } in
    let begun : HasLinked false (counts site) before (counts old) =
    subst (λ s. HasLinked false (counts site) s (counts old)) (sym first)
    (subst (λ k. HasLinked false (counts site) (first_state land t linked l) (counts k)) (sym from) start) in
    let behind : HasLinked false (counts site) after (counts new) = goes false (counts site) begun in
    subst (λ p. CountsLinkEach false p (counts site) (counts ended)) (sym history)
    (subst (λ k. CountsLinkEach false after.past (counts site) (counts k)) (sym to) behind.counted)
