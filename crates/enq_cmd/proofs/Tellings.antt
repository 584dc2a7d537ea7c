-- The history of a run leads to the state that it ends in.
use Rattle.std.proofs.Common.{inl, inr, is_some, IsTrue, IfSome, ◌≡◌, ℕ, ◌+◌, Bool, true, false, List, [], refl, sym, ap, ◌∙◌, subst}
use Rattle.std.specs.Prelude.{Option, Some, None}
use Rattle.std.specs.List.{All}
use Rattle.std.proofs.lemmas.List.Elements.{All-from_recursion}
use Rattle.enq_base.specs.declared.condition.Bad.{Bad}
use Rattle.enq_base.specs.declared.condition.Condition.{Condition}
use Rattle.enq_base.specs.declared.condition.Condition.TheVariants as condition
use Rattle.enq_base.specs.declared.refusal.Refusal.TheVariants as refusal
use Rattle.hall_model.specs.declared.command.PastEntry.{PastEntry}
use Rattle.hall_model.specs.declared.command.Reply.{Reply}
use Rattle.hall_model.specs.declared.command.Reply.TheVariants as reply
use Rattle.hall_model.specs.Recall.{AreModelAnswers, Made, calls_of, state_after}
use Rattle.hall_model.specs.State.{State, is_honest}
use Rattle.hall_model.specs.Views.{unless_in_doubt}
use Rattle.hall_laws.proofs.starting.FirstKeeps.{AgreeWith}
use Rattle.hall_laws.proofs.starting.FirstState.{IsFirstTable}
use Rattle.hall_calls.proofs.lemmas.GoodFiles.{no_bad_place}
use Rattle.hall_laws.proofs.histories.FlaggedSessions.{just_losers}
use Rattle.hall_laws.proofs.histories.ToldLosers.{losers_told}
use Rattle.hall_laws.proofs.histories.StandingLocks.{locks_return, locks_stand, stays_sound}
use Rattle.hall_laws.proofs.histories.NotedSteps.{answers_before, told-answers}
use Rattle.script_runner.specs.declared.runner.Why.{Why}
use Rattle.script_runner.specs.declared.runner.Why.TheVariants.{Done, BadWords, BadLandscape, BadLine, SourceFault, SinkFault, LongLine, ManyLines, StoreFault}
use Rattle.script_runner.specs.declared.runner.Why.TheVariants.{BackupFault, BadStore, BadBackup, NoStart, NoMemory, LogFull}
use Rattle.lock_objects.specs.Objects.{Object}
use Rattle.landscape.specs.declared.landscape.Landscape.{Landscape}
use Rattle.landscape.proofs.lemmas.Limits.{HasLimits}
use Rattle.ledger_steps.specs.Levels.{FitRows}
use Rattle.script_runner.specs.Counts.{CountsCalls, file_fails_in_call, store_fails_in_call}
use Rattle.script_runner.specs.Replay.{RunsLines, RunsScript, Seen, HasBadCause, IsFoundBad, doubt_of}
use Rattle.script_runner.specs.Run.{Turn, begun}
use Rattle.script_runner.proofs.lemmas.MadeCalls.{Leads, run_leads}
use Rattle.script_runner.specs.World.{World, first_world}
use Rattle.script_runner.proofs.lemmas.GoodFiles.{answer_sound, never_met}
use Rattle.script_runner.specs.Faults.{NoneTells, NoneUnsound, NoneUnsoundReplica, NoneUnsoundStore}
use Rattle.script_runner.specs.Whole.{IsComplete, IsScript}
use Rattle.enq_cmd.specs.Main.{AreServed, EndsComplete, HadHanded, HasHanded, IsFaultless, IsGoodFile, IsLedgerBy, IsLedgerOf, IsNextOf, IsServed, Ran}
use Rattle.enq_cmd.specs.Main.{SiteFound, SiteLeft, SurvivesStop, first_state, made_from}
use Rattle.enq_cmd.proofs.Lands.{landed_intervals}
use Rattle.enq_cmd.proofs.Numbers.{handed_held, numbers_right}
use Rattle.ledger_steps.specs.Views.{TellsRefusal, open_locks, views_of}
use Rattle.ledger_laws.proofs.Books.{books_right, holds_books}
use Rattle.ledger_laws.proofs.OneLedger.{one_ledger}
use Rattle.ledger_laws.proofs.Refusals.{views_tell}
use Rattle.update_records.specs.Growing.{with_start}
use Rattle.keeper_api.specs.Rows.{Rows}
use Rattle.posting.specs.Reopening.{HasStood}
use Rattle.ledger_steps.specs.Starts.{IsRaised}
use Rattle.store_reading.specs.Good.{IsSound}
use Rattle.update_records.specs.Ledger.{Ledger, StandFor}
use Rattle.hall_calls.specs.Filing.{RecoversFrom, UnlessTaken, UnlessUntaken}
use Rattle.hall_model.specs.Kept.{HasOpenUnits}
use Rattle.hall_calls.specs.Leaving.{StandForInFlight, StandForKnown, StandForState}
use Rattle.hall_calls.specs.OpenLists.{AgreeAll}
use Rattle.hall_model.specs.OpenUnits.{OfInFlight, open_entries}
use Rattle.backup_file.specs.declared.handed.Handed.{Handed}
use Rattle.lock_entry.specs.Sound.{IsSound as IsSoundTable}

-- the state in which a run from the first one ends is that to which its calls lead
leads_to : (land : Landscape) (t linked : Bool) (l : Ledger) (after : State) (turns : List Turn) (old new : Seen) (why : Why)
    → RunsLines land.objects (first_state land t linked l) after turns old new why
    → Leads (first_state land t linked l) after (made_from land t linked l turns)
leads_to land t linked l after turns old new why h =
    let first = first_state land t linked l in
    subst (λ (x : World). Leads first x.hall (made_from land t linked l turns)) (sym h.replays.world)
    (run_leads (begun (first_world land.objects first)) turns h.replays.allowed)

-- each is answered as the model answers it
answers_lead : (land : Landscape) (t linked : Bool) (l : Ledger) (after : State) (turns : List Turn)
    → Leads (first_state land t linked l) after (made_from land t linked l turns)
    → AreModelAnswers (first_state land t linked l) (made_from land t linked l turns)
answers_lead land t linked l after turns h =
    told-answers (first_state land t linked l) after
    (record { made = made_from land t linked l turns; calls = h.past; answers = h.answers; state = h.state })

-- a run, said of what is known of its parts
pub record HasRun (land : Landscape) (t linked : Bool) (l : Ledger) (before after : State) (objects : List Object) (old new : Seen) (past : List PastEntry)
    (why : Why) : Type 0 where
  pub first : before ≡ first_state land t linked l
  pub known : objects ≡ land.objects
  pub history : past ≡ after.past
  pub runs : RunsScript objects before after old new why
  pub complete : (bytes : List ℕ) → old.left ≡ Some bytes → IsScript bytes → IsFaultless old new
      → IsComplete (first_world objects before) after bytes old.written new.written why

runs_first : (land : Landscape) (t linked : Bool) (l : Ledger) (before after : State) (objects : List Object) (old new : Seen) (past : List PastEntry)
    (why : Why) → HasRun land t linked l before after objects old new past why → RunsScript land.objects (first_state land t linked l) after old new why
runs_first land t linked l before after objects old new past why h =
    subst (λ s. RunsScript land.objects s after old new why) h.first (subst (λ os. RunsScript os before after old new why) h.known h.runs)

ran : (land : Landscape) (t linked : Bool) (l : Ledger) (before after : State) (objects : List Object) (old new : Seen) (past : List PastEntry) (why : Why)
    → HasRun land t linked l before after objects old new past why → (turns : List Turn)
    → RunsLines land.objects (first_state land t linked l) after turns old new why
    → Leads (first_state land t linked l) after (made_from land t linked l turns) → Ran land t linked l turns old new why
ran land t linked l before after objects old new past why h turns runs leads =
    record {
      after = after;
      history = leads.past;
      leads = leads.state;
      runs = runs;
      complete = λ bytes left script calm.
          subst (λ s. IsComplete (first_world land.objects s) after bytes old.written new.written why) h.first
          (subst (λ os. IsComplete (first_world os before) after bytes old.written new.written why) h.known (h.complete bytes left script calm));
    }

-- a first state isn't in doubt
never_in_doubt : (land : Landscape) (t linked : Bool) (l : Ledger) (before : State) → before ≡ first_state land t linked l → IsTrue (is_some (doubt_of before))
    → ⊥
never_in_doubt land t linked l before e doubted = let up = sym doubted ∙ ap (λ (s : State). is_some (doubt_of s)) e in cc

-- no call of such a history found a device that isn't good
never_found : (tells : Reply → Bool) (before after : State) (place : Bad) → tells (reply.Refused (refusal.Unsound place)) ≡ true → NoneTells tells after.past
    → IsFoundBad before after place → ⊥
never_found tells before after place on none found =
    let wrong : true ≡ false = sym on ∙ answer_sound tells after.past found.call (reply.Refused (refusal.Unsound place)) none found.doubted.1 in cc

-- a run that is complete from a server that is up is done, or memory was wanting
complete_ends : (may_be : Rows → Type 0) (land : Landscape) (t linked : Bool) (l : Ledger) (objects : List Object) (before after : State) (bytes : List ℕ)
    (old new : Option (List ℕ)) (why : Why) → before ≡ first_state land t linked l → NoneUnsound after.past → NoneUnsoundStore after.past
    → IsComplete (first_world objects before) after bytes old new why → EndsComplete may_be why
complete_ends may_be land t linked l objects before after bytes old new Done e none stores h = inl refl
complete_ends may_be land t linked l objects before after bytes old new (StoreFault k) e none stores h = absurd (let up = sym h.0 ∙ ap doubt_of e in cc)
complete_ends may_be land t linked l objects before after bytes old new (BackupFault k) e none stores h = absurd (let up = sym h.0 ∙ ap doubt_of e in cc)
complete_ends may_be land t linked l objects before after bytes old new NoMemory e none stores h = inr (inl refl)
complete_ends may_be land t linked l objects before after bytes old new BadWords e none stores h = absurd h
complete_ends may_be land t linked l objects before after bytes old new (BadLandscape rule place) e none stores h = absurd h
complete_ends may_be land t linked l objects before after bytes old new (BadLine n) e none stores h = absurd h
complete_ends may_be land t linked l objects before after bytes old new SourceFault e none stores h = absurd h
complete_ends may_be land t linked l objects before after bytes old new SinkFault e none stores h = absurd h
complete_ends may_be land t linked l objects before after bytes old new (LongLine n) e none stores h = absurd h
complete_ends may_be land t linked l objects before after bytes old new ManyLines e none stores h = absurd h
complete_ends may_be land t linked l objects before after bytes old new (BadStore table row) e none stores (inl h) =
    absurd (never_in_doubt land t linked l before e h.0)
complete_ends may_be land t linked l objects before after bytes old new (BadStore table row) e none stores (inr met) =
    absurd (never_met before after none stores met)
complete_ends may_be land t linked l objects before after bytes old new (BadBackup place) e none stores (inl h) =
    absurd (never_in_doubt land t linked l before e h.0)
complete_ends may_be land t linked l objects before after bytes old new (BadBackup place) e none stores (inr met) =
    absurd (never_met before after none stores met)
complete_ends may_be land t linked l objects before after bytes old new NoStart e none stores h = absurd h
complete_ends may_be land t linked l objects before after bytes old new LogFull e none stores h = absurd h

pub completes_as : (may_be : Rows → Type 0) (land : Landscape) (t linked : Bool) (l : Ledger) (objects : List Object) (before after : State) (bytes : List ℕ)
    (old new : Option (List ℕ)) (why end : Why) → before ≡ first_state land t linked l → why ≡ end → NoneUnsound after.past → NoneUnsoundStore after.past
    → IsComplete (first_world objects before) after bytes old new why → EndsComplete may_be end
completes_as may_be land t linked l objects before after bytes old new why end e w none stores h =
    subst (EndsComplete may_be) w (complete_ends may_be land t linked l objects before after bytes old new why e none stores h)

-- no call before a first state was answered so
pub first_sound : (tells : Reply → Bool) (land : Landscape) (t linked : Bool) (l : Ledger) (before : State) → before ≡ first_state land t linked l
    → NoneTells tells before.past
first_sound tells land t linked l before e = subst (λ (s : State). NoneTells tells s.past) (sym e) refl

-- a device that isn't good is told by no run from a first state
pub never_bad : (tells : Reply → Bool) (land : Landscape) (t linked : Bool) (l : Ledger) (before after : State) (place : Bad)
    → tells (reply.Refused (refusal.Unsound place)) ≡ true → before ≡ first_state land t linked l → NoneTells tells after.past → HasBadCause before after place
    → ⊥
never_bad tells land t linked l before after place on e none (inl doubted) = never_in_doubt land t linked l before e doubted
never_bad tells land t linked l before after place on e none (inr found) = never_found tells before after place on none found

-- what is said where rows are told
pub where_told : (P : Type 0) (o : Option Rows) → IsTrue (is_some o) → IfSome o (λ _. P) → P
where_told P None told h = absurd (cc)
where_told P (Some rows) told h = h

survives_with : (rows : Rows) (s : State) (ledger : Ledger) → IsLedgerOf s ledger → StandFor rows ledger → SurvivesStop rows s
survives_with rows s ledger known stand =
    record { ledger = ledger; known = known; stand = stand; right = books_right rows ledger stand; business = holds_books rows ledger stand }

survives_in_flight : (rows : Rows) (s : State) (in_flight : Option Ledger) → s.in_flight ≡ in_flight
    → ((ledger : Ledger) → s.in_flight ≡ Some ledger → IsLedgerOf s ledger) → StandForInFlight rows in_flight → SurvivesStop rows s
survives_in_flight rows s None is known stand = absurd stand
survives_in_flight rows s (Some ledger) is known stand = survives_with rows s ledger (known ledger is) stand

-- by what is known of the change in flight
survives_by : (rows : Rows) (s : State) (found : Option Bool) → s.found ≡ found → StandForKnown found rows s.stored s.in_flight → SurvivesStop rows s
survives_by rows s None is (inl stand) = survives_with rows s s.stored (subst (λ o. IsLedgerBy o s s.stored) (sym is) (inl refl)) stand
survives_by rows s None is (inr stand) = survives_in_flight rows s s.in_flight refl (λ ledger e. subst (λ o. IsLedgerBy o s ledger) (sym is) (inr e)) stand
survives_by rows s (Some false) is stand = survives_with rows s s.stored (subst (λ o. IsLedgerBy o s s.stored) (sym is) refl) stand
survives_by rows s (Some true) is stand = survives_in_flight rows s s.in_flight refl (λ ledger e. subst (λ o. IsLedgerBy o s ledger) (sym is) e) stand

-- rows that stand for a state are what a stop may leave of it
survives : (rows : Rows) (s : State) → StandForState rows s → SurvivesStop rows s
survives rows s h = survives_by rows s s.found refl h

agree_in_flight : (s : State) (lists : List Handed) (ledger : Ledger) → s.in_flight ≡ Some ledger → OfInFlight s.in_flight (λ l. AgreeAll l lists)
    → AgreeAll ledger lists
agree_in_flight s lists ledger is h = subst (λ p. OfInFlight p (λ l. AgreeAll l lists)) is h

together_in_flight : (s : State) (ledger : Ledger) → s.in_flight ≡ Some ledger
    → OfInFlight s.in_flight (λ l. IsTrue (is_honest s) → IsSoundTable (open_entries l)) → IsTrue (is_honest s) → IsSoundTable (open_entries ledger)
together_in_flight s ledger is h = subst (λ p. OfInFlight p (λ l. IsTrue (is_honest s) → IsSoundTable (open_entries l))) is h

-- by what is known of the change in flight
agree_by : (s : State) (lists : List Handed) (ledger : Ledger) (found : Option Bool) → UnlessTaken found (AgreeAll s.stored lists)
    → UnlessUntaken found (OfInFlight s.in_flight (λ l. AgreeAll l lists)) → IsLedgerBy found s ledger → AgreeAll ledger lists
agree_by s lists ledger None agree flight_agrees (inl is) = subst (λ l. AgreeAll l lists) (sym is) agree
agree_by s lists ledger None agree flight_agrees (inr is) = agree_in_flight s lists ledger is flight_agrees
agree_by s lists ledger (Some false) agree flight_agrees is = subst (λ l. AgreeAll l lists) (sym is) agree
agree_by s lists ledger (Some true) agree flight_agrees is = agree_in_flight s lists ledger is flight_agrees

together_by : (s : State) (ledger : Ledger) (found : Option Bool) → IsTrue (is_honest s) → HasOpenUnits s → IsLedgerBy found s ledger
    → IsSoundTable (open_entries ledger)
together_by s ledger None honest units (inl is) = subst (λ l. IsSoundTable (open_entries l)) (sym is) (units.stored honest).together
together_by s ledger None honest units (inr is) = together_in_flight s ledger is units.in_flight honest
together_by s ledger (Some false) honest units is = subst (λ l. IsSoundTable (open_entries l)) (sym is) (units.stored honest).together
together_by s ledger (Some true) honest units is = together_in_flight s ledger is units.in_flight honest

-- an image of the file from which a state is recovered is what a stop may leave of it
handed_in : (image : List ℕ) (s : State) → HasOpenUnits s → RecoversFrom s.condition s.stored s.in_flight s.found image → HasHanded image s
handed_in image s units h = record {
  lists = h.lists;
  stands = h.stands;
  agree = λ ledger known. agree_by s h.lists ledger s.found h.agree h.flight_agrees known;
  only = h.only;
  together = λ honest ledger known. together_by s ledger s.found honest units known;
}

-- the next start finds a file that has the locks of the units that wait in the store
good_next : (may_leave : Rows → Type 0) (s : State) (image : List ℕ) → IsTrue (is_honest s) → ((rows : Rows) → may_leave rows → SurvivesStop rows s)
    → HasHanded image s → IsGoodFile may_leave image
good_next may_leave s image honest left handed ledger stood place bad =
    let survives = left stood.0 stood.1 in
    let one : ledger ≡ survives.ledger = one_ledger stood.0 ledger survives.ledger stood.2 survives.stand in
    let known = subst (IsLedgerOf s) (sym one) survives.known in
    no_bad_place image (open_locks ledger) handed.lists place handed.stands (handed.agree ledger known) (handed.together honest ledger known) bad

-- the next start finds the ledger that the rows stand for, and there is one
follows_on : (may_leave : Rows → Type 0) (s : State) → ((rows : Rows) → may_leave rows → SurvivesStop rows s) → (next : Ledger)
    → IsRaised (HasStood may_leave) true next → IsNextOf s next
follows_on may_leave s left next found =
    let stood = found.1 in
    let survives = left stood.0 stood.1 in
    let one : found.0 ≡ survives.ledger = one_ledger stood.0 found.0 survives.ledger stood.2 survives.stand in
    (survives.ledger, survives.known, found.2 ∙ ap (λ (l : Ledger). with_start l (l.start + 1)) one)

-- no unit is shown in doubt, and each recorded one elsewhere
shown_tell : (k : Condition) (ledger : Ledger) → All TellsRefusal (unless_in_doubt k [] (views_of ledger))
shown_tell condition.Up ledger = views_tell ledger
shown_tell condition.NoServer ledger = views_tell ledger
shown_tell (condition.Doubt k) ledger = All-from_recursion TellsRefusal [] tt

-- what is promised of these calls, over a store that was opened
pub promises_with : (land : Landscape) (site : SiteFound) (site_now : SiteLeft) (old new : Seen) (l : Ledger) (after : State) (past : List PastEntry)
    (made : List Made)
    → HasLimits land → IsRaised IsSound true l → (IsTrue site.told → IsRaised (HasStood site.rows) true l) → FitRows land.ranges l.levels
    → IsFirstTable land.max_locks l → (IsTrue site.tells → HadHanded site.bytes l)
    → past ≡ calls_of made → AreModelAnswers (first_state land site.told site.linked l) made
    → after ≡ state_after (first_state land site.told site.linked l) made
    → CountsCalls store_fails_in_call made old.store_faults new.store_faults → CountsCalls file_fails_in_call made old.file_faults new.file_faults
    → (IsTrue site.told → (rows : Rows) → site_now.rows rows → StandForState rows after)
    → (IsTrue site.tells → (image : List ℕ) → site_now.images image → RecoversFrom after.condition after.stored after.in_flight after.found image)
    → HasOpenUnits after → (after.attached ≡ true → IfSome site_now.list (λ list. list ≡ after.locks))
    → (IsTrue site.linked → IsTrue site.tells → NoneUnsound past) → (IsTrue site.told → NoneUnsoundStore past)
    → (IsTrue site.linked → NoneUnsoundReplica past)
    → AreServed land site site_now old new l made past
promises_with land site site_now old new l after past made limits good found fit table filed calls answers leads counted disk_counted left lists units follows
    files stores replicas =
    let t = site.told in
    let linked = site.linked in
    let first = first_state land t linked l in
    let agree : AgreeWith land.ranges l = record { good = landed_intervals land limits; fit = fit } in
    let left_after : IsTrue t → (rows : Rows) → site_now.rows rows → SurvivesStop rows (state_after first made) =
    λ yes rows may. subst (SurvivesStop rows) leads (survives rows after (left yes rows may)) in
    record {
      good = good;
      found = found;
      filed = filed;
      fit = fit;
      calls = calls;
      history = answers;
      store = counted;
      file = disk_counted;
      sound = stays_sound land.max_locks land.max_marks land.ranges t linked l made table limits.marks agree good answers;
      stand = locks_stand land.max_locks land.max_marks land.ranges t linked l made table limits.marks agree good answers;
      back = locks_return land.max_locks land.max_marks land.ranges t linked l made table limits.marks agree good answers;
      held = λ earlier later whole.
          handed_held land.max_locks land.max_marks land.ranges t linked l earlier table limits.marks agree good
          (answers_before first made earlier later answers whole);
      lost = losers_told first made answers;
      flagged = just_losers first made answers;
      numbers = λ earlier later whole.
          numbers_right land.max_locks land.max_marks land.ranges t linked l earlier table limits.marks agree good
          (answers_before first made earlier later answers whole);
      errors = λ earlier later whole. let s = state_after first earlier in shown_tell s.condition s.stored;
      left = λ yes rows may. left_after yes rows may;
      handed = λ yes image may. subst (HasHanded image) leads (handed_in image after units (lists yes image may));
      replica = subst (λ (s : State). s.attached ≡ true → IfSome site_now.list (λ list. list ≡ s.locks)) leads follows;
      good_file = files;
      good_store = stores;
      good_replica = replicas;
      opens = λ yes tells honest image may. good_next site_now.rows (state_after first made) image honest (left_after yes)
          (subst (HasHanded image) leads (handed_in image after units (lists tells image may)));
      next = λ yes. follows_on site_now.rows (state_after first made) (left_after yes);
    }

-- all that is said of a program that opened its store, and the state to which its calls lead
pub served_with : (land : Landscape) (site : SiteFound) (site_now : SiteLeft) (l : Ledger) (before after : State) (objects : List Object) (old new : Seen)
    (past : List PastEntry) (why : Why)
    → ((made : List Made) → past ≡ calls_of made → AreModelAnswers (first_state land site.told site.linked l) made
    → after ≡ state_after (first_state land site.told site.linked l) made
    → CountsCalls store_fails_in_call made old.store_faults new.store_faults → CountsCalls file_fails_in_call made old.file_faults new.file_faults
    → AreServed land site site_now old new l made past)
    → HasRun land site.told site.linked l before after objects old new past why
    → (s : IsServed land site site_now old new past why)
    × (after ≡ state_after (first_state land site.told site.linked s.stored) (made_from land site.told site.linked s.stored s.turns))
served_with land site site_now l before after objects old new past why promised h =
    let t = site.told in
    let linked = site.linked in
    let script = runs_first land t linked l before after objects old new past why h in
    let leads = leads_to land t linked l after script.turns old new why script.runs in (
      record {
        stored = l;
        turns = script.turns;
        run = ran land t linked l before after objects old new past why h script.turns script.runs leads;
        promises = promised (made_from land t linked l script.turns) (h.history ∙ leads.past) (answers_lead land t linked l after script.turns leads)
            leads.state script.runs.replays.store script.runs.replays.file;
      },
      leads.state,
    )

-- the same of what was seen, under other names
pub served_seen : (land : Landscape) (site : SiteFound) (site_now : SiteLeft) (old new older newer : Seen) (past : List PastEntry) (why end : Why)
    → old ≡ older → new ≡ newer → why ≡ end → IsServed land site site_now old new past why → IsServed land site site_now older newer past end
served_seen land site site_now old new older newer past why end o n w h =
    subst (λ x. IsServed land site site_now older newer past x) w
    (subst (λ x. IsServed land site site_now older x past why) n
    (subst (λ x. IsServed land site site_now x new past why) o h))
