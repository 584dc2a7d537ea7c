-- A unit that was committed waits for its V1 part with its locks until a call ends that, and while there is a lock server they
-- stand.
use Rattle.std.proofs.Common.{◌≡◌, ◌≢◌, ℕ, ◌+◌, ◌≤◌, Bool, true, false, List, [], ◌∷◌, ◌++◌, refl, sym, ap, ◌∙◌, subst}
use Rattle.std.specs.Prelude.{Contains, IsTrue, if◌then◌else◌, nat_le, Some, None}
use Rattle.std.proofs.lemmas.Bool.{or_parts}
use Rattle.std.proofs.lemmas.List.Sums.{fold-append}
use Rattle.enq_base.specs.Owners.{same_owner, same_unit}
use Rattle.enq_base.specs.declared.condition.Condition.{Condition}
use Rattle.enq_base.specs.declared.condition.Condition.TheVariants as condition
use Rattle.enq_base.specs.declared.owner.Owner.TheVariants.{Upd}
use Rattle.enq_base.specs.declared.owner.UnitKey.{UnitKey}
use Rattle.enq_base.specs.declared.refusal.Refusal.{Refusal}
use Rattle.enq_base.specs.declared.refusal.Refusal.TheVariants as refusal
use Rattle.enq_base.specs.declared.unit.Num.{Num}
use Rattle.enq_base.specs.declared.unit.Parts.{Parts}
use Rattle.enq_base.specs.declared.unit.Status.{Status}
use Rattle.enq_base.specs.declared.unit.Status.TheVariants.{Open, Posted, Bad, Bad2 as BadSecond}
use Rattle.lock_entry.proofs.lemmas.Naming.{same_mode-same, same_owner-refl}
use Rattle.lock_entry.specs.declared.entry.Entry.{Entry}
use Rattle.lock_entry.specs.Freeing.{handed_over}
use Rattle.lock_entry.specs.Names.{is_of}
use Rattle.mode_rules.specs.declared.Mode.TheVariants.{O}
use Rattle.mode_rules.specs.Modes.{same_mode}
use Rattle.number_ranges.specs.Intervals.{block_level, is_buffered, with_level}
use Rattle.number_ranges.specs.declared.interval.Interval.{Interval}
use Rattle.ledger_steps.specs.Intervals.{with_intervals}
use Rattle.ledger_steps.specs.Posts.{WaitsFor, entries_of, kind_for}
use Rattle.ledger_steps.specs.Steps.{IsOpenUnit}
use Rattle.ledger_steps.specs.declared.step.Outcome.{Outcome}
use Rattle.ledger_steps.specs.declared.step.Outcome.TheVariants as outcome
use Rattle.ledger_steps.specs.Drawn.{handed_out, num_of, stored_as}
use Rattle.ledger_steps.specs.Levels.{present}
use Rattle.record_laws.proofs.Status.{flip}
use Rattle.update_records.specs.Growing.{with_mark}
use Rattle.update_records.specs.Ledger.{Ledger}
use Rattle.update_records.specs.declared.records.MarkKind.{MarkKind}
use Rattle.update_records.specs.declared.records.MarkKind.TheVariants as mark
use Rattle.hall_model.specs.declared.command.Reply.{Reply}
use Rattle.hall_model.specs.declared.command.Reply.TheVariants as reply
use Rattle.hall_model.specs.declared.command.Session.{Session}
use Rattle.hall_model.specs.Calls.{Call, LogsOn, OfSession, OfWorker, OfAdmin, Kills, FailsOver, Restarts, Attaches, Cancels, Resubmits, call_of, is_of_server}
use Rattle.hall_model.specs.Calls.{restarts, wants_server, LogsOff, Asks, Frees, FreesAll, Converts, Draws, Reserves, Reads, Commits, RollsBack}
use Rattle.hall_model.specs.Devices.{AllWell, Wanting, StoreFails, BackupFails, LinkFails, NotRemade, MayHappen, found_by}
use Rattle.hall_model.specs.History.{Served, ends_in, judged, served, takes_flight, without_stock}
use Rattle.hall_model.specs.Kept.{IsSteady, OutsideDoubt}
use Rattle.hall_model.specs.Numbers.{from_memory, next_number, raised_to, stocked}
use Rattle.hall_model.specs.OpenUnits.{HoldsOpenUnits}
use Rattle.hall_model.specs.Orders.{order_of}
use Rattle.hall_model.specs.Recall.{AreModelAnswers, IsModelAnswer, Made, StaysSound, again, recalled, state_after}
use Rattle.hall_model.specs.Sessions.{unit_key, with_draw, with_session}
use Rattle.hall_laws.specs.Standing.{FirmAreHanded, IsCommitOf, IsFirm, LocksReturn, LocksStand, ReturnsLocked, StillWaits, WaitsLocked, NoneEndsWait, NoneOfServer, ends_wait, is_commit, with_handed}
use Rattle.hall_model.specs.State.{State, is_honest, opened}
use Rattle.hall_model.specs.Step.{Found, call_verdict, committed, is_taken, numbered, posted_reply, stored_anew, unit_of}
use Rattle.hall_laws.proofs.starting.FirstKeeps.{AgreeWith, IsFirst}
use Rattle.model_laws.proofs.ByCall.{OfEach, by_call, by_event, by_stock, in_doubt_refused}
use Rattle.model_laws.proofs.PartOrders.{held_for}
use Rattle.hall_laws.proofs.starting.FirstState.{IsFirstTable, first_few, first_open, first_sound, first_steady}
use Rattle.model_laws.proofs.NotedCalls.{by_noting}
use Rattle.hall_laws.proofs.keeping.Unchanged.{verdict_condition, verdict_in_flight}
use Rattle.hall_laws.proofs.keeping.UnitsToCome.{open_unheard}
use Rattle.model_laws.proofs.OtherStatuses.{apart_by, apart_by_status, marked_other, numbers_leave, recorded_open, status_in}
use Rattle.hall_laws.proofs.keeping.InFlight.{HoldsAll, step_all}
use Rattle.model_laws.proofs.LockLists.{Among, among_from, contains_from, filter_source, hands_over, kept_filter}
use Rattle.hall_laws.proofs.open_units.ChangedLocks.{holds_up, while_up}
use Rattle.model_laws.proofs.BesideRecorded.{entries_beside}
use Rattle.model_laws.proofs.EachLock.{recorded_here}
use Rattle.hall_laws.proofs.histories.NotedSteps.{AnswersFrom, answers_before, answers_behind}
use Rattle.hall_laws.proofs.histories.WithoutServer.{anew_as_before, unserved}
use Rattle.ledger_steps.specs.declared.part.Part.{Part}
use Rattle.ledger_steps.specs.Parts.{is_first}

-- What a call leaves of the units that wait, by its answer: a unit whose wait it doesn't end waits with the same stored locks.
record Stands (c : Call) (before : Ledger) (r : Reply) (after : Ledger) : Type 0 where
  waits : (unit : UnitKey) → ends_wait unit c r ≡ false → IsOpenUnit before unit → IsOpenUnit after unit
  same : (unit : UnitKey) → ends_wait unit c r ≡ false → IsOpenUnit before unit → entries_of after.units unit ≡ entries_of before.units unit

stands_still : {c : Call} (ledger : Ledger) (r : Reply) → Stands c ledger r ledger
stands_still ledger r = record { waits = λ unit on w. w; same = λ unit on w. refl }

-- ---- calls of a session

committed-stands : {c : Call} (s : State) (x : Session) (parts : Parts) (numbers : List Num) (r : Reply) → status_in s.stored (unit_key s.stored.start x) ≡ None
    → Stands c s.stored r (committed s x parts numbers).stored
committed-stands s x parts numbers r new =
    let key = unit_key s.stored.start x in
    let unit = unit_of s.stored.start s.locks x parts numbers in
    record {
      waits = λ u on w. recorded_open s.stored unit u new w;
      same = λ u on w. entries_beside s.stored unit u (flip key u (apart_by_status s.stored u key Open w new));
    }

-- numbers that are recorded alone leave the units that wait
numbered-stands : {c : Call} (s : State) (x : Session) (numbers : List Num) (r : Reply) → Stands c s.stored r (numbered s x numbers).stored
numbered-stands s x numbers r = record {
  waits = λ u on w. numbers_leave s.stored (unit_key s.stored.start x) u numbers ∙ w;
  same = λ u on w. refl;
}

-- and so does a level that is raised
raised-stands : {c : Call} (ledger : Ledger) (i : Interval) (upto : ℕ) (r : Reply) → Stands c ledger r (raised_to i upto ledger)
raised-stands {c} ledger i upto r =
    elim (nat_le upto i.level) as (λ b. Stands c ledger r (if b then ledger else with_intervals (stored_as (with_level (block_level i upto) i) ∷ []) ledger)) [
      | true ↦ stands_still ledger r
      | false ↦ record { waits = λ u on w. w; same = λ u on w. refl }
    ]

drawn-stands : {c : Call} (i : Interval) (number : ℕ) (s : State) (r : Reply) → Stands c s.stored r (from_memory i number s).stored
drawn-stands {c} i number s r =
    elim (is_buffered i)
    as (λ b. Stands c s.stored r (if b then record s { ranges = handed_out i s.ranges; stored = raised_to i number s.stored } else s).stored) [
      | true ↦ raised-stands s.stored i number r
      | false ↦ stands_still s.stored r
    ]

-- ---- marks

-- the answer names the one unit whose wait ends
marked-stands : {c : Call} (ledger : Ledger) (unit : UnitKey) (kind : MarkKind) (r : Reply) → ((u : UnitKey) → ends_wait u c r ≡ same_unit unit u)
    → Stands c ledger r (with_mark ledger unit kind)
marked-stands ledger unit kind r told = record {
  waits = λ u on w. marked_other ledger unit u kind (sym (told u) ∙ on) ∙ w;
  same = λ u on w. refl;
}

-- a mark of a unit that doesn't wait
beside-stands : {c : Call} (ledger : Ledger) (unit : UnitKey) (kind : MarkKind) (status : Status) (r : Reply)
    → status_in ledger unit ≡ Some status → (status ≡ Open → ⊥) → Stands c ledger r (with_mark ledger unit kind)
beside-stands ledger unit kind status r here differs = record {
  waits = λ u on w. marked_other ledger unit u kind (apart_by ledger unit u status Open here w differs) ∙ w;
  same = λ u on w. refl;
}

abbrev StandsBy : Call → Ledger → UnitKey → MarkKind → MarkKind → Reply → Reply → Bool → Type 0
StandsBy c ledger unit one two r q first =
    status_in ledger unit ≡ Some (if first then Open else Posted)
    → Stands c ledger (if first then r else q) (with_mark ledger unit (if first then one else two))

-- a part, V1 or else V2, of a unit that waits for it
posted-stands : {c : Call} (part : Part) (ledger : Ledger) (unit : UnitKey) (o : Outcome) → WaitsFor part ledger unit
    → Stands c ledger (posted_reply part unit o) (with_mark ledger unit (kind_for part o))
posted-stands {c} part ledger unit outcome.Done waits =
    elim (is_first part) as (StandsBy c ledger unit mark.V1 mark.V2 (reply.Posted unit) (reply.Closed unit)) [
      | true ↦ λ w. marked-stands ledger unit mark.V1 (reply.Posted unit) (λ u. refl)
      | false ↦ λ w. beside-stands ledger unit mark.V2 Posted (reply.Closed unit) w (λ e. cc)
    ] waits
posted-stands {c} part ledger unit (outcome.Refused index reason) waits =
    elim (is_first part)
    as (StandsBy c ledger unit (mark.Bad1 index reason) (mark.Bad2 index reason) (reply.Bad unit index reason) (reply.Bad2 unit index reason)) [
      | true ↦ λ w. marked-stands ledger unit (mark.Bad1 index reason) (reply.Bad unit index reason) (λ u. refl)
      | false ↦ λ w. beside-stands ledger unit (mark.Bad2 index reason) Posted (reply.Bad2 unit index reason) w (λ e. cc)
    ] waits

-- ---- all calls

abbrev StandsIn : State → Call → Served → Type 0
StandsIn s call r = Stands call s.stored r.reply r.state.stored

-- a restart finds what was stored before, as nothing is in flight
anew-stands : {c : Call} (taken : Bool) (s : State) (r : Reply) → s.in_flight ≡ None → Stands c s.stored r (stored_anew taken s.stored s.in_flight)
anew-stands {c} taken s r nothing = subst (Stands c s.stored r) (sym (anew_as_before taken s nothing)) (stands_still s.stored r)

each-stands : (found : Found) (s : State) → IsSteady s → s.in_flight ≡ None → OfEach (λ call v. StandsIn s call (judged s v)) found s
each-stands found s steady nothing = record {
  refuses = λ call r plain. stands_still s.stored _;
  enters = λ name user free. stands_still s.stored _;
  logs_off = λ name x at. stands_still s.stored _;
  grants = λ name x rs locks at e. stands_still s.stored _;
  lowers = λ name x rs at. stands_still s.stored _;
  frees = λ name x at. stands_still s.stored _;
  converts = λ name x wanted turned at e. stands_still s.stored _;
  draws = λ name x object nr r at can.
      let i = present s.stored.levels r.interval in
      let number = next_number r i x in
      drawn-stands i number (record s { sessions = with_session x.name (with_draw (num_of i number)) s.sessions }) _;
  reserves = λ name x object nr upto r at can. raised-stands s.stored (present s.stored.levels r.interval) upto _;
  reads = λ name x table key at. stands_still s.stored _;
  commits_nothing = λ name x parts stock at. stands_still s.stored _;
  commits_numbers = λ name x parts stock at. numbered-stands s x (x.draws ++ stock) _;
  commits = λ name x parts stock at. committed-stands s x parts (x.draws ++ stock) _ (open_unheard s name x at steady.fresh);
  rolls_back = λ name x at. stands_still s.stored _;
  takes = λ worker part unit free e. stands_still s.stored _;
  posts = λ worker part unit e. posted-stands part s.stored unit (found.part part unit) (held_for part s.stored (order_of s.orders worker) unit e).1;
  drops = λ worker unit e. stands_still s.stored _;
  kills = λ up. stands_still s.stored _;
  fails_over = λ can. stands_still s.stored _;
  strays = λ first second none. stands_still s.stored _;
  attaches = λ up. stands_still s.stored _;
  restarts = λ off. anew-stands (is_taken found.anew) s _ nothing;
  cancels = λ unit status can. marked-stands s.stored unit mark.Gone _ (λ u. refl);
  reopens = λ unit es here stand. beside-stands s.stored unit mark.Again1 Bad _ here (λ e. cc);
  reposts = λ unit here. beside-stands s.stored unit mark.Again2 BadSecond _ here (λ e. cc);
}

ended : true ≡ false → ⊥
ended e = cc

-- where the disk of the backup file fails every wait ends
unfiled-stands : {c : Call} (before after : Ledger) → Stands c before (reply.Refused refusal.BackupFault) after
unfiled-stands before after = record { waits = λ unit on w. absurd (ended on); same = λ unit on w. absurd (ended on) }

-- and where the store fails
failing-stands : (s : State) (call : Call) → Stands call s.stored (reply.Refused refusal.StoreFault) (without_stock call s).stored
failing-stands s call =
    by_stock (λ c t. Stands c s.stored (reply.Refused refusal.StoreFault) t.stored) s
    (λ name parts stock. stands_still s.stored _) (λ c. stands_still s.stored _) call

stepped-stands : (s : State) (m : Made) → IsSteady s → s.in_flight ≡ None → StandsIn s (call_of m.call.command) (again s m)
stepped-stands s m steady nothing =
    let c = m.call.command in
    let Q : Served → Type 0 = StandsIn s (call_of c) in
    let h =
    by_event Q m.outcome s c (λ lost done h. h) (λ found. by_call (λ call v. StandsIn s call (judged s v)) found s (each-stands found s steady nothing) _)
    (stands_still s.stored _) (stands_still s.stored _) (λ reading. failing-stands s (call_of c)) (λ reading. unfiled-stands s.stored _)
    (λ read r. stands_still s.stored _) in
    by_noting Q m.call.line c (takes_flight m.outcome) (served m.outcome s c) h h

-- ---- nothing is in flight

abbrev QuietUnless : UnitKey → Call → Served → Type 0
QuietUnless unit call r = ends_wait unit call r.reply ≡ false → r.state.in_flight ≡ None

-- as long as the store doesn't fail
stepped-quiet : (unit : UnitKey) (s : State) (m : Made) → s.in_flight ≡ None → QuietUnless unit (call_of m.call.command) (again s m)
stepped-quiet unit s m nothing =
    let c = m.call.command in
    let Q : Served → Type 0 = QuietUnless unit (call_of c) in
    let h =
    by_event Q m.outcome s c (λ lost done h. h) (λ found on. verdict_in_flight (λ o. o ≡ None) found s (call_of c) nothing refl) (λ on. nothing) (λ on. nothing)
    (λ reading on. absurd (ended on)) (λ reading on. nothing) (λ read r on. nothing) in
    by_noting Q m.call.line c (takes_flight m.outcome) (served m.outcome s c) h h

-- ---- states that calls lead to

record IsReached (s : State) : Type 0 where
  calls : ℕ
  all : HoldsAll calls s

reached_next : (s : State) (m : Made) → IsModelAnswer s m → IsReached s → IsReached (recalled s m)
reached_next s m answer h = record { calls = h.calls + 1; all = step_all h.calls m.outcome s m.call.line m.call.command answer.allowed h.all }

reached_after : (s : State) (ms : List Made) → AnswersFrom s ms → IsReached s → IsReached (state_after s ms)
reached_after s [] answers h = h
reached_after s (m ∷ ms) answers h = reached_after (recalled s m) ms answers.1 (reached_next s m answers.0 h)

-- ---- commits

-- what a commit leaves of its unit
record Hands (unit : UnitKey) (s t : State) : Type 0 where
  locks : t.locks ≡ handed_over s.locks unit
  told : is_honest t ≡ is_honest s
  waits : StillWaits unit t

abbrev HandsIf : UnitKey → State → Call → Served → Type 0
HandsIf unit s call r = is_commit call ≡ true → r.reply ≡ reply.Unit unit → Hands unit s r.state

committed-hands : (unit : UnitKey) (s : State) (x : Session) (parts : Parts) (numbers stock : List Num) → s.condition ≡ condition.Up
    → reply.Unit (unit_key s.stored.start x) ≡ reply.Unit unit → Hands unit s (stocked stock (committed s x parts numbers))
committed-hands unit s x parts numbers stock up e =
    let same : unit_key s.stored.start x ≡ unit = cc in
    let here = recorded_here s.stored (unit_of s.stored.start s.locks x parts numbers) in
    record {
      locks = ap (handed_over s.locks) same;
      told = refl;
      waits = record { up = up; waits = subst (IsOpenUnit (committed s x parts numbers).stored) same here };
    }

no_unit : (unit : UnitKey) (r : Refusal) → reply.Refused r ≡ reply.Unit unit → ⊥
no_unit unit r e = cc

not_done : (unit : UnitKey) → reply.Done ≡ reply.Unit unit → ⊥
not_done unit e = cc

no_commit : false ≡ true → ⊥
no_commit e = cc

each-hands : (unit : UnitKey) (found : Found) (s : State) → s.condition ≡ condition.Up → OfEach (λ call v. HandsIf unit s call (judged s v)) found s
each-hands unit found s up = record {
  refuses = λ call r plain is told. absurd (no_unit unit r told);
  enters = λ name user free is told. absurd (no_commit is);
  logs_off = λ name x at is told. absurd (no_commit is);
  grants = λ name x rs locks at e is told. absurd (no_commit is);
  lowers = λ name x rs at is told. absurd (no_commit is);
  frees = λ name x at is told. absurd (no_commit is);
  converts = λ name x wanted c at e is told. absurd (no_commit is);
  draws = λ name x object nr r at can is told. absurd (no_commit is);
  reserves = λ name x object nr upto r at can is told. absurd (no_commit is);
  reads = λ name x table key at is told. absurd (no_commit is);
  commits_nothing = λ name x parts stock at is told. absurd (not_done unit told);
  commits_numbers = λ name x parts stock at is told. absurd (not_done unit told);
  commits = λ name x parts stock at is told. committed-hands unit s x parts (x.draws ++ stock) stock up told;
  rolls_back = λ name x at is told. absurd (no_commit is);
  takes = λ worker part other free e is told. absurd (no_commit is);
  posts = λ worker part other e is told. absurd (no_commit is);
  drops = λ worker other e is told. absurd (no_commit is);
  kills = λ was is told. absurd (no_commit is);
  fails_over = λ can is told. absurd (no_commit is);
  strays = λ first second none is told. absurd (no_commit is);
  attaches = λ was is told. absurd (no_commit is);
  restarts = λ off is told. absurd (no_commit is);
  cancels = λ other status can is told. absurd (no_commit is);
  reopens = λ other es here stand is told. absurd (no_commit is);
  reposts = λ other here is told. absurd (no_commit is);
}

commit_wants : (call : Call) → is_commit call ≡ true → wants_server call ≡ true
commit_wants (LogsOn name user) is = absurd (no_commit is)
commit_wants (OfSession name (Commits parts stock)) is = refl
commit_wants (OfSession name LogsOff) is = absurd (no_commit is)
commit_wants (OfSession name (Asks rs)) is = absurd (no_commit is)
commit_wants (OfSession name (Frees rs)) is = absurd (no_commit is)
commit_wants (OfSession name FreesAll) is = absurd (no_commit is)
commit_wants (OfSession name (Converts wanted)) is = absurd (no_commit is)
commit_wants (OfSession name (Draws object nr)) is = absurd (no_commit is)
commit_wants (OfSession name (Reserves object nr upto)) is = absurd (no_commit is)
commit_wants (OfSession name (Reads table key)) is = absurd (no_commit is)
commit_wants (OfSession name RollsBack) is = absurd (no_commit is)
commit_wants (OfWorker worker call) is = absurd (no_commit is)
commit_wants (OfAdmin call) is = absurd (no_commit is)

commit_apart : (call : Call) → is_commit call ≡ true → restarts call ≡ false
commit_apart (LogsOn name user) is = refl
commit_apart (OfSession name call) is = refl
commit_apart (OfWorker worker call) is = refl
commit_apart (OfAdmin call) is = absurd (no_commit is)

-- in doubt a commit is refused
doubt-hands : (unit : UnitKey) (found : Found) (s : State) (n : ℕ) (call : Call) → s.condition ≡ condition.Doubt n
    → HandsIf unit s call (judged s (call_verdict found s call))
doubt-hands unit found s n call down is =
    in_doubt_refused (λ v. (judged s v).reply ≡ reply.Unit unit → Hands unit s (judged s v).state) found s n call down
    (commit_apart call is) (λ r told. absurd (no_unit unit r told))

-- without a server a commit is refused
alone-hands : (unit : UnitKey) (found : Found) (s : State) (call : Call) → s.condition ≡ condition.NoServer
    → HandsIf unit s call (judged s (call_verdict found s call))
alone-hands unit found s call none is =
    unserved (λ v. (judged s v).reply ≡ reply.Unit unit → Hands unit s (judged s v).state) found s call none (commit_wants call is)
    (λ r told. absurd (no_unit unit r told))

hands_in : (k : Condition) (unit : UnitKey) (found : Found) (s : State) (call : Call) → s.condition ≡ k
    → HandsIf unit s call (judged s (call_verdict found s call))
hands_in condition.Up unit found s call up = by_call (λ call v. HandsIf unit s call (judged s v)) found s (each-hands unit found s up) call
hands_in condition.NoServer unit found s call none = alone-hands unit found s call none
hands_in (condition.Doubt k) unit found s call down = doubt-hands unit found s k call down

verdict-hands : (unit : UnitKey) (found : Found) (s : State) (call : Call) → HandsIf unit s call (judged s (call_verdict found s call))
verdict-hands unit found s call = hands_in s.condition unit found s call refl

recalled-hands : (unit : UnitKey) (s : State) (m : Made) → IsModelAnswer s m → IsCommitOf unit m.call → Hands unit s (recalled s m)
recalled-hands unit s m answer is =
    let c = m.call.command in
    let Q : Served → Type 0 = HandsIf unit s (call_of c) in
    let h =
    by_event Q m.outcome s c
    (λ lost done h is told. let k = h is told in record { locks = k.locks; told = k.told; waits = record { up = k.waits.up; waits = k.waits.waits } })
    (λ found. verdict-hands unit found s (call_of c)) (λ is told. absurd (no_unit unit _ told)) (λ is told. absurd (no_unit unit _ told))
    (λ reading is told. absurd (no_unit unit _ told)) (λ reading is told. absurd (no_unit unit _ told)) (λ read r is told. absurd (no_unit unit _ told)) in
    by_noting Q m.call.line c (takes_flight m.outcome) (served m.outcome s c) h
    (λ is told. let k = h is told in record { locks = k.locks; told = k.told; waits = record { up = k.waits.up; waits = k.waits.waits } })
    is.commits (answer.reply ∙ is.answered)

firm_mode : (e : Entry) → e.mode ≢ O → same_mode e.mode O ≡ false
firm_mode e h =
    elim (same_mode e.mode O) as (λ b. same_mode e.mode O ≡ b → b ≡ false) [ true ↦ λ t. absurd (h (same_mode-same e.mode O t)) | false ↦ λ t. refl ] refl

handed-among : (unit : UnitKey) (s t : State) (e : Entry) → t.locks ≡ handed_over s.locks unit → IsFirm unit e → Among s.locks e → Among t.locks (with_handed e)
handed-among unit s t e locks firm k =
    let own : is_of (Upd unit) e ≡ true = ap (λ o. same_owner o (Upd unit)) firm.owner ∙ same_owner-refl (Upd unit) in
    subst (λ es. Among es (with_handed e)) (sym locks) (hands_over s.locks unit e own (firm_mode e firm.mode) k)

-- ---- the locks of a unit that waits, in the table and in the store

in_table : (unit : UnitKey) (s : State) (e : Entry) → HoldsOpenUnits s.locks s.stored → IsOpenUnit s.stored unit
    → Among (entries_of s.stored.units unit) e → Among s.locks e
in_table unit s e held waits k = (filter_source (is_of (Upd unit)) s.locks e (subst (λ es. Among es e) (sym (held.units unit waits)) k)).0

in_store : (unit : UnitKey) (s : State) (e : Entry) → HoldsOpenUnits s.locks s.stored → IsOpenUnit s.stored unit
    → e.owner ≡ Upd unit → Among s.locks e → Among (entries_of s.stored.units unit) e
in_store unit s e held waits owner k =
    let own : is_of (Upd unit) e ≡ true = ap (λ o. same_owner o (Upd unit)) owner ∙ same_owner-refl (Upd unit) in
    subst (λ es. Among es e) (held.units unit waits) (kept_filter (is_of (Upd unit)) s.locks e own k)

-- ---- through some calls, none of which ends the unit's wait

-- the unit waits with the locks that were stored with it before them
record StaysStored (unit : UnitKey) (before after : Ledger) : Type 0 where
  waits : IsOpenUnit after unit
  same : entries_of after.units unit ≡ entries_of before.units unit

stays_stored : (unit : UnitKey) (t : State) (ms : List Made) → IsReached t → AnswersFrom t ms → NoneEndsWait unit ms → t.in_flight ≡ None
    → IsOpenUnit t.stored unit
    → StaysStored unit t.stored (state_after t ms).stored
stays_stored unit t [] reached answers on nothing waits = record { waits = waits; same = refl }
stays_stored unit t (m ∷ ms) reached answers on nothing waits =
    let ons = or_parts (ends_wait unit (call_of m.call.command) m.call.reply) _ on in
    let off = ap (ends_wait unit (call_of m.call.command)) answers.0.reply ∙ ons.0 in
    let stands = stepped-stands t m reached.all.holds.steady nothing in
    let rest =
    stays_stored unit (recalled t m) ms (reached_next t m answers.0 reached) answers.1 ons.1 (stepped-quiet unit t m nothing off)
    (stands.waits unit off waits) in
    record { waits = rest.waits; same = rest.same ∙ stands.same unit off waits }

restart_of_server : (call : Call) → is_of_server call ≡ false → restarts call ≡ true → ⊥
restart_of_server (LogsOn name user) off is = no_commit is
restart_of_server (OfSession name call) off is = no_commit is
restart_of_server (OfWorker worker call) off is = no_commit is
restart_of_server (OfAdmin Kills) off is = no_commit is
restart_of_server (OfAdmin FailsOver) off is = no_commit is
restart_of_server (OfAdmin Restarts) off is = ended off
restart_of_server (OfAdmin Attaches) off is = no_commit is
restart_of_server (OfAdmin (Cancels unit)) off is = no_commit is
restart_of_server (OfAdmin (Resubmits unit)) off is = no_commit is

-- a lock server stays up where a call isn't of the server, and no device failed
recalled-up : (unit : UnitKey) (s : State) (m : Made) → IsModelAnswer s m → ends_wait unit (call_of m.call.command) m.call.reply ≡ false
    → is_of_server (call_of m.call.command) ≡ false → s.condition ≡ condition.Up → (recalled s m).condition ≡ condition.Up
recalled-up unit s m answer on off up =
    let c = m.call.command in
    let call = call_of c in
    let v = call_verdict (found_by m.outcome.reading s) s call in
    let Q : Served → Type 0 = λ r. ends_wait unit call r.reply ≡ false → r.state.condition ≡ condition.Up in
    let h : Q (served m.outcome s c) =
    elim m.outcome.event as (λ e. MayHappen e s call v → Q (ends_in e m.outcome.reading s call v)) [
      | AllWell ↦ λ may told. verdict_condition _ s call off ∙ up
      | Wanting ↦ λ may told. up
      | StoreFails ↦ λ may told. absurd (ended told)
      | BackupFails ↦ λ may told. absurd (ended told)
      | LinkFails ↦ λ may told. up
      | NotRemade r ↦ λ may told. absurd (restart_of_server call off may.1)
    ] answer.allowed.possible.event in
    by_noting Q m.call.line c (takes_flight m.outcome) (served m.outcome s c) h h (ap (ends_wait unit call) answer.reply ∙ on)

stays_up : (unit : UnitKey) (t : State) (ms : List Made) → AnswersFrom t ms → NoneEndsWait unit ms → NoneOfServer ms
    → t.condition ≡ condition.Up → (state_after t ms).condition ≡ condition.Up
stays_up unit t [] answers on off up = up
stays_up unit t (m ∷ ms) answers on off up =
    let ons = or_parts (ends_wait unit (call_of m.call.command) m.call.reply) _ on in
    let offs = or_parts (is_of_server (call_of m.call.command)) _ off in
    stays_up unit (recalled t m) ms answers.1 ons.1 offs.1 (recalled-up unit t m answers.0 ons.0 offs.0 up)

-- while the server is up nothing is in flight
quiet_up : (t : State) → IsReached t → t.condition ≡ condition.Up → t.in_flight ≡ None
quiet_up t reached up = subst (λ c. OutsideDoubt c (t.in_flight ≡ None)) up reached.all.holds.steady.settled

-- the locks that were stored with it stand where there is a lock server, and its locks can be told
stays_locked : (unit : UnitKey) (t : State) (ms : List Made) → IsReached t → AnswersFrom t ms → NoneEndsWait unit ms → t.in_flight ≡ None
    → IsOpenUnit t.stored unit → IsTrue (is_honest (state_after t ms))
    → (state_after t ms).condition ≡ condition.Up → (e : Entry) → Among (entries_of t.stored.units unit) e → Contains (state_after t ms).locks e
stays_locked unit t ms reached answers on nothing waits honest up e k =
    let now = state_after t ms in
    let stays = stays_stored unit t ms reached answers on nothing waits in
    let held = holds_up now (reached_after t ms answers reached).all.open_units up honest in
    contains_from now.locks e (in_table unit now e held stays.waits (subst (λ es. Among es e) (sym stays.same) k))

waits_locked : (unit : UnitKey) (s t : State) (ms : List Made) → Hands unit s t → IsReached t → AnswersFrom t ms → NoneEndsWait unit ms
    → WaitsLocked unit ms s (state_after t ms)
waits_locked unit s t ms hands reached answers on =
    let waits = hands.waits.waits in
    let nothing = quiet_up t reached hands.waits.up in
    record {
      waits = (stays_stored unit t ms reached answers on nothing waits).waits;
      up = λ off. stays_up unit t ms answers on off hands.waits.up;
      locks = λ before now.
          let held = holds_up t reached.all.open_units hands.waits.up (hands.told ∙ before) in
          while_up (state_after t ms).condition (FirmAreHanded unit s (state_after t ms))
          (λ up e firm k.
          stays_locked unit t ms reached answers on nothing waits now up (with_handed e)
          (in_store unit t (with_handed e) held waits firm.owner (handed-among unit s t e hands.locks firm (among_from s.locks e k))));
    }

returns_locked : (unit : UnitKey) (t : State) (ms : List Made) → StillWaits unit t → IsReached t → AnswersFrom t ms → NoneEndsWait unit ms
    → ReturnsLocked unit ms t (state_after t ms)
returns_locked unit t ms waits reached answers on =
    let nothing = quiet_up t reached waits.up in
    record {
      waits = (stays_stored unit t ms reached answers on nothing waits.waits).waits;
      up = λ off. stays_up unit t ms answers on off waits.up;
      locks = λ now.
          while_up (state_after t ms).condition ((e : Entry) → Contains (entries_of t.stored.units unit) e → Contains (state_after t ms).locks e)
          (λ up e k. stays_locked unit t ms reached answers on nothing waits.waits now up e (among_from (entries_of t.stored.units unit) e k));
    }

-- ---- whole histories

-- a history from the first state of a start on, each of whose calls is answered as the model answers it
module _ (limit mark_limit : ℕ) (intervals : List Interval) (told linked : Bool) (ledger : Ledger) (made : List Made) (fits : IsFirstTable limit ledger)
    (limited : mark_limit ≤ 1048576) (agree : AgreeWith intervals ledger) (begun : IsFirst ledger)
    (answers : AreModelAnswers (opened limit mark_limit intervals told linked ledger) made) where
  abbrev first : State
  first = opened limit mark_limit intervals told linked ledger

  reached_first : IsReached first
  reached_first = record {
    calls = 0;
    all = record {
      holds = record {
        few = first_few limit mark_limit intervals told linked ledger;
        steady = first_steady limit mark_limit intervals told linked ledger limited fits agree begun;
      };
      sound = first_sound limit mark_limit intervals told linked ledger fits begun;
      open_units = first_open limit mark_limit intervals told linked ledger fits begun;
      state_in_flight = tt;
    };
  }

  reached : (earlier later : List Made) → made ≡ earlier ++ later → IsReached (state_after first earlier)
  reached earlier later whole = reached_after first earlier (answers_before first made earlier later answers whole) reached_first

  -- in each state no two locks of unrelated owners meet and clash
  pub stays_sound : StaysSound (opened limit mark_limit intervals told linked ledger) made
  stays_sound earlier later whole = (reached earlier later whole).all.sound.table.sound

  -- each committed unit waits with its locks until a call ends that
  pub locks_stand : LocksStand (opened limit mark_limit intervals told linked ledger) made
  locks_stand earlier between later m unit whole is on =
      let s = state_after first earlier in
      let answer = answers earlier (between ++ later) m whole in
      subst (WaitsLocked unit between s) (sym (fold-append recalled first earlier (m ∷ between)))
      (waits_locked unit s (recalled s m) between (recalled-hands unit s m answer is)
      (reached_next s m answer (reached earlier (m ∷ (between ++ later)) whole))
      (answers_behind first made earlier between later m answers whole) on)

  -- each unit that waits again has its stored locks until a call ends that
  pub locks_return : LocksReturn (opened limit mark_limit intervals told linked ledger) made
  locks_return earlier between later m unit whole is on waits =
      let s = state_after first earlier in
      let t = recalled s m in
      let answer = answers earlier (between ++ later) m whole in
      let to_here : state_after first (earlier ++ m ∷ []) ≡ t = fold-append recalled first earlier (m ∷ []) in
      subst (λ x. ReturnsLocked unit between x (state_after first (earlier ++ m ∷ between))) (sym to_here)
      (subst (ReturnsLocked unit between t) (sym (fold-append recalled first earlier (m ∷ between)))
      (returns_locked unit t between (subst (StillWaits unit) to_here waits)
      (reached_next s m answer (reached earlier (m ∷ (between ++ later)) whole))
      (answers_behind first made earlier between later m answers whole) on))
