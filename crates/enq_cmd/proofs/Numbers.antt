-- The numbers that are committed stay right, whatever is called.
use Rattle.std.proofs.Common.{◌≡◌, inl, inr, ℕ, ◌+◌, ◌-◌, ◌≤◌, Bool, true, false, not, List, [], ◌∷◌, ◌++◌, Option, Some, None, refl, sym, subst, arith, append-nil}
use Rattle.std.specs.Prelude.{Contains, if◌then◌else◌, nat_le, nat_lt}
use Rattle.std.specs.FinMap.{empty, get-empty}
use Rattle.std.proofs.lemmas.Bool.Decides.{nat_tests}
use Rattle.std.proofs.lemmas.List.Elements.{All-from_recursion}
use Rattle.enq_base.specs.declared.owner.UnitKey.{UnitKey}
use Rattle.enq_base.specs.declared.unit.Num.{Num as Number}
use Rattle.enq_base.specs.declared.unit.Parts.{Parts}
use Rattle.number_ranges.specs.Intervals.{block_level, is_buffered, with_level}
use Rattle.number_ranges.specs.declared.interval.Interval.{Interval}
use Rattle.record_laws.proofs.CommittedNumbers.{numbers_push, numbers_recorded, numbers_same}
use Rattle.ledger_steps.specs.Intervals.{with_intervals, with_levels}
use Rattle.posting.specs.Numbers.{AreNumbersRight, committed}
use Rattle.posting.proofs.lemmas.LedgerNumbers.{agreeing}
use Rattle.ledger_steps.specs.Posts.{kind_for}
use Rattle.draw_laws.proofs.Drawing.{interval_among, range_found}
use Rattle.draw_laws.proofs.FittingLevels.{level_fits}
use Rattle.draw_laws.proofs.OverSessions.{session_may_commit_stock}
use Rattle.draw_laws.proofs.StoredDraws.{may_raise}
use Rattle.ledger_steps.specs.Drawn.{handed_out, num_of, settled_rows, stored_as}
use Rattle.ledger_steps.specs.Levels.{intervals_of, present}
use Rattle.ledger_steps.specs.declared.range.NumberRange.{NumberRange}
use Rattle.store_reading.specs.Good.{IsSound}
use Rattle.record_laws.proofs.Status.{none_of}
use Rattle.update_records.specs.Growing.{next_mark, with_mark}
use Rattle.update_records.specs.Ledger.{Ledger, LevelsAgree}
use Rattle.update_records.specs.Marks.{has_no_v2}
use Rattle.update_records.specs.declared.records.MarkKind.{MarkKind}
use Rattle.update_records.specs.declared.records.MarkKind.TheVariants as mark
use Rattle.hall_model.specs.declared.command.Command.{Command}
use Rattle.hall_model.specs.declared.command.Session.{Session}
use Rattle.hall_model.specs.Devices.{DeviceOutcome, found_by}
use Rattle.hall_model.specs.History.{in_flight_after, judged, served, takes_flight}
use Rattle.hall_model.specs.Kept.{IsDrawn, IsSteady}
use Rattle.hall_model.specs.Numbers.{drawn, next_number, raised_to}
use Rattle.hall_model.specs.Calls.{Call, call_of, only_reads}
use Rattle.hall_model.specs.OpenUnits.{HoldsOpenUnits, OfInFlight}
use Rattle.hall_model.specs.Recall.{IsModelAnswer, Made, recalled, state_after}
use Rattle.hall_model.specs.Sessions.{is_called, session_at, unit_key, with_draw, with_session, without_draws}
use Rattle.hall_model.specs.State.{State, opened}
use Rattle.hall_model.specs.Stocks.{IsStockIn, MayCall}
use Rattle.hall_model.specs.Step.{Found, Leaves, Refuses, Verdict, call_verdict, committed as recorded, is_taken, numbered, stored_anew, unit_of}
use Rattle.hall_laws.proofs.starting.FirstKeeps.{AgreeWith, IsFirst}
use Rattle.model_laws.proofs.ByCall.{CanDraw, OfEach, by_event, by_filing, by_made, by_stock}
use Rattle.hall_laws.proofs.keeping.DrawnNumbers.{CommitsNone, post_commits_none}
use Rattle.model_laws.proofs.BlockLevels.{blocks}
use Rattle.hall_laws.proofs.starting.FirstState.{IsFirstTable, first_few, first_open, first_sound, first_steady}
use Rattle.model_laws.proofs.NotedCalls.{by_noting}
use Rattle.hall_laws.proofs.keeping.Unchanged.{verdict_in_flight}
use Rattle.hall_laws.proofs.keeping.UnitsToCome.{open_unheard}
use Rattle.hall_laws.proofs.keeping.InFlight.{HoldsAll, step_all}
use Rattle.hall_laws.proofs.open_units.ChangedLocks.{holds_up, while_up}
use Rattle.enq_cmd.specs.Main.{HandedAreOpen}
use Rattle.hall_laws.proofs.histories.NotedSteps.{AnswersFrom}

-- the levels of a ledger agree with the numbers that are committed
abbrev Agrees : Ledger → Type 0
Agrees ledger = LevelsAgree ledger.levels (committed ledger)

-- ---- what one call leaves

not_past : (m n : ℕ) → nat_lt m n ≡ false → n ≤ m
not_past m n h = grind (arith, nat_tests)

not_no : (b : Bool) → not b ≡ false → b ≡ true
not_no true h = refl
not_no false h = cc

-- a mark that commits no number
agreed_marked : (ledger : Ledger) (key : UnitKey) (kind : MarkKind) → CommitsNone kind → Agrees ledger → Agrees (with_mark ledger key kind)
agreed_marked ledger key kind none h =
    let m = next_mark ledger key kind in
    subst (LevelsAgree ledger.levels) (sym (numbers_same ledger.units ledger.marks m (none ledger.units m.seq key))) h

-- a level that is raised to a number
agreed_raised : (s : State) (i : Interval) (upto : ℕ) → Contains (intervals_of s.ranges) i → is_buffered i ≡ true → upto ≤ i.to → IsDrawn s → Agrees s.stored
    → Agrees (raised_to (present s.stored.levels i) upto s.stored)
agreed_raised s i upto among is within draws h =
    let levels = s.stored.levels in
    let j = present levels i in
    let level = block_level j upto in
    let row = stored_as (with_level level i) in
    let block = blocks j upto is (level_fits (intervals_of s.ranges) levels i draws.intervals draws.fit among) within in
    elim (nat_le upto j.level) as (λ b. Agrees (if b then s.stored else with_intervals (row ∷ []) s.stored)) [
      | true ↦ h
      | false ↦
          subst (LevelsAgree (with_levels (row ∷ []) levels)) (append-nil (committed s.stored))
          ((may_raise s.stored (intervals_of s.ranges) i level draws.intervals draws.fit among is block.risen block.within).agree h)
    ]

-- a number that is drawn
agreed_drawn : (s : State) (x : Session) (object nr : List ℕ) (r : NumberRange) → CanDraw s x object nr r → IsDrawn s → Agrees s.stored
    → Agrees (drawn s x (present s.stored.levels r.interval) (next_number r (present s.stored.levels r.interval) x)).stored
agreed_drawn s x object nr r can draws h =
    let i = present s.stored.levels r.interval in
    let number = next_number r i x in
    let t : State = record s { sessions = with_session x.name (with_draw (num_of i number)) s.sessions } in
    elim (is_buffered i)
    as (λ b. is_buffered r.interval ≡ b
    → Agrees (if b then record t { ranges = handed_out i t.ranges; stored = raised_to i number t.stored } else t).stored) [
      | true ↦ λ is. agreed_raised s r.interval number (interval_among s.ranges r (range_found s.ranges object nr r can.range).among) is
          (not_past r.interval.to number can.within) draws h
      | false ↦ λ is. h
    ] refl

abbrev draws_of : Session → List Number
draws_of x = x.draws

-- numbers that are committed alone
agreed_numbered : (s : State) (name : List ℕ) (x : Session) (stock : List Number) → session_at s.sessions name ≡ Some x → IsStockIn s stock → IsDrawn s
    → Agrees s.stored → Agrees (numbered s x (x.draws ++ stock)).stored
agreed_numbered s name x stock at fits draws h =
    let numbers = x.draws ++ stock in
    let may = session_may_commit_stock draws_of (is_called name) without_draws s.sessions x at s.stored s.ranges stock fits draws in
    subst (LevelsAgree (with_levels (settled_rows s.stored.levels s.ranges numbers) s.stored.levels))
    (sym (numbers_push s.stored.units s.stored.marks (next_mark s.stored (unit_key s.stored.start x) (mark.Num numbers)))) (may.agree h)

-- and with a unit
agreed_recorded : (s : State) (name : List ℕ) (x : Session) (parts : Parts) (stock : List Number) → session_at s.sessions name ≡ Some x → IsStockIn s stock
    → IsSteady s → Agrees s.stored → Agrees (recorded s x parts (x.draws ++ stock)).stored
agreed_recorded s name x parts stock at fits steady h =
    let numbers = x.draws ++ stock in
    let units = s.stored.units in
    let old = s.stored.marks in
    let unit = unit_of s.stored.start s.locks x parts numbers in
    let fresh = open_unheard s name x at steady.fresh in
    let may = session_may_commit_stock draws_of (is_called name) without_draws s.sessions x at s.stored s.ranges stock fits steady.drawn in
    subst (LevelsAgree (with_levels (settled_rows s.stored.levels s.ranges numbers) s.stored.levels))
    (sym (numbers_recorded units unit old (next_mark s.stored unit.key mark.Rec).seq (none_of (has_no_v2 units unit.key) unit.key old fresh)
    (steady.marked unit.key fresh)))
    (may.agree h)

-- what a restart finds in the store
agreed_anew : (taken : Bool) (stored : Ledger) (in_flight : Option Ledger) → Agrees stored → OfInFlight in_flight Agrees
    → Agrees (stored_anew taken stored in_flight)
agreed_anew false stored in_flight h flight = h
agreed_anew true stored None h flight = h
agreed_anew true stored (Some changed) h flight = flight

each-agreed : (found : Found) (s : State) → IsSteady s → Agrees s.stored → OfInFlight s.in_flight Agrees
    → OfEach (λ call v. MayCall s call → Agrees (judged s v).state.stored) found s
each-agreed found s steady h flight = record {
  refuses = λ call r plain may. h;
  enters = λ name user free may. h;
  logs_off = λ name x at may. h;
  grants = λ name x rs locks at e may. h;
  lowers = λ name x rs at may. h;
  frees = λ name x at may. h;
  converts = λ name x wanted c at e may. h;
  draws = λ name x object nr r at can may. agreed_drawn s x object nr r can steady.drawn h;
  reserves = λ name x object nr upto r at can may.
      agreed_raised s r.interval upto (interval_among s.ranges r (range_found s.ranges object nr r can.range).among)
      (not_no (is_buffered r.interval) can.buffered) (not_past r.interval.to upto can.within) steady.drawn h;
  reads = λ name x table key at may. h;
  commits_nothing = λ name x parts stock at may. h;
  commits_numbers = λ name x parts stock at may. agreed_numbered s name x stock at may steady.drawn h;
  commits = λ name x parts stock at may. agreed_recorded s name x parts stock at may steady h;
  rolls_back = λ name x at may. h;
  takes = λ worker part unit free e may. h;
  posts = λ worker part unit e may. agreed_marked s.stored unit (kind_for part (found.part part unit)) (post_commits_none part (found.part part unit)) h;
  drops = λ worker unit e may. h;
  kills = λ up may. h;
  fails_over = λ can may. h;
  strays = λ first second none may. h;
  attaches = λ up may. h;
  restarts = λ off may. agreed_anew (is_taken found.anew) s.stored s.in_flight h flight;
  cancels = λ unit status can may. agreed_marked s.stored unit mark.Gone (λ units seq key. refl) h;
  reopens = λ unit es here stand may. agreed_marked s.stored unit mark.Again1 (λ units seq key. refl) h;
  reposts = λ unit here may. agreed_marked s.stored unit mark.Again2 (λ units seq key. refl) h;
}

judged-agreed : (found : Found) (s : State) (call : Call) → MayCall s call → IsSteady s → Agrees s.stored → OfInFlight s.in_flight Agrees
    → Agrees (judged s (call_verdict found s call)).state.stored
judged-agreed found s call may steady h flight =
    by_made (λ call v. Agrees (judged s v).state.stored) found s (each-agreed found s steady h flight) call may

served-agreed : (o : DeviceOutcome) (s : State) (c : Command) → MayCall s (call_of c) → IsSteady s → Agrees s.stored → OfInFlight s.in_flight Agrees
    → Agrees (served o s c).state.stored
served-agreed o s c may steady h flight =
    by_event (λ r. Agrees r.state.stored) o s c (λ lost done k. k)
    (λ found. judged-agreed found s (call_of c) may steady h flight) h h
    (λ reading. by_stock (λ call t. Agrees t.stored) s (λ name parts stock. h) (λ call. h) (call_of c))
    (λ reading.
    let found = found_by reading s in
    by_filing Agrees found s (call_of c) h
    (λ worker part unit e. agreed_marked s.stored unit (kind_for part (found.part part unit)) (post_commits_none part (found.part part unit)) h)
    (λ unit status can. agreed_marked s.stored unit mark.Gone (λ units seq key. refl) h))
    (λ read r. h)

-- the change in flight where the store fails
failing-agreed : (s : State) (call : Call) (v : Verdict) → OfInFlight s.in_flight Agrees → Agrees (judged s v).state.stored
    → OfInFlight (in_flight_after s call v) Agrees
failing-agreed s call (Refuses r) flight h = flight
failing-agreed s call (Leaves after r) flight h =
    elim (only_reads call) as (λ b. OfInFlight (if b then s.in_flight else Some after.stored) Agrees) [ true ↦ flight | false ↦ h ]

flight-agreed : (o : DeviceOutcome) (s : State) (c : Command) → MayCall s (call_of c) → IsSteady s → Agrees s.stored → OfInFlight s.in_flight Agrees
    → OfInFlight (served o s c).state.in_flight Agrees
flight-agreed o s c may steady h flight =
    by_event (λ r. OfInFlight r.state.in_flight Agrees) o s c (λ lost done k. k)
    (λ found. verdict_in_flight (λ o. OfInFlight o Agrees) found s (call_of c) flight tt) flight flight
    (λ reading.
    let found = found_by reading s in
    failing-agreed s (call_of c) (call_verdict found s (call_of c)) flight (judged-agreed found s (call_of c) may steady h flight))
    (λ reading. flight) (λ read r. flight)

-- ---- states that calls lead to

record IsReached (s : State) : Type 0 where
  calls : ℕ
  all : HoldsAll calls s
  agreed : Agrees s.stored
  flight : OfInFlight s.in_flight Agrees

reached_next : (s : State) (m : Made) → IsModelAnswer s m → IsReached s → IsReached (recalled s m)
reached_next s m answer h =
    let c = m.call.command in
    let o = m.outcome in
    let may = answer.allowed.call in
    let r = served o s c in
    let steady = h.all.holds.steady in
    let agreed = served-agreed o s c may steady h.agreed h.flight in
    let flight = flight-agreed o s c may steady h.agreed h.flight in
    record {
      calls = h.calls + 1;
      all = step_all h.calls o s m.call.line c answer.allowed h.all;
      agreed = by_noting (λ x. Agrees x.state.stored) m.call.line c (takes_flight o) r agreed agreed;
      flight = by_noting (λ x. OfInFlight x.state.in_flight Agrees) m.call.line c (takes_flight o) r flight flight;
    }

reached_after : (s : State) (ms : List Made) → AnswersFrom s ms → IsReached s → IsReached (state_after s ms)
reached_after s [] answers h = h
reached_after s (m ∷ ms) answers h = reached_after (recalled s m) ms answers.1 (reached_next s m answers.0 h)

nothing_agrees : LevelsAgree empty []
nothing_agrees = record { right = λ name. simp get-empty tt; stored = All-from_recursion _ [] tt }

sound_agrees : (ledger : Ledger) → IsSound ledger → Agrees ledger
sound_agrees ledger (inl none) = subst Agrees (sym none) nothing_agrees
sound_agrees ledger (inr law) = law.levels

first_agrees : (ledger : Ledger) → IsFirst ledger → Agrees ledger
first_agrees ledger first = subst Agrees (sym first.2) (sound_agrees first.0 first.1)

-- ---- whole histories

reached : (limit mark_limit : ℕ) (intervals : List Interval) (told linked : Bool) (ledger : Ledger) (made : List Made) → IsFirstTable limit ledger
    → mark_limit ≤ 1048576 → AgreeWith intervals ledger → IsFirst ledger → AnswersFrom (opened limit mark_limit intervals told linked ledger) made
    → IsReached (state_after (opened limit mark_limit intervals told linked ledger) made)
reached limit mark_limit intervals told linked ledger made fits limited agree first answers =
    let start = opened limit mark_limit intervals told linked ledger in
    reached_after start made answers (record {
      calls = 0;
      all = record {
        holds = record {
          few = first_few limit mark_limit intervals told linked ledger;
          steady = first_steady limit mark_limit intervals told linked ledger limited fits agree first;
        };
        sound = first_sound limit mark_limit intervals told linked ledger fits first;
        open_units = first_open limit mark_limit intervals told linked ledger fits first;
        state_in_flight = tt;
      };
      agreed = first_agrees ledger first;
      flight = tt;
    })

-- in each state to which calls lead that are answered as the model answers them the committed numbers are right
pub numbers_right : (limit mark_limit : ℕ) (intervals : List Interval) (told linked : Bool) (ledger : Ledger) (made : List Made) → IsFirstTable limit ledger
    → mark_limit ≤ 1048576 → AgreeWith intervals ledger → IsFirst ledger → AnswersFrom (opened limit mark_limit intervals told linked ledger) made
    → AreNumbersRight (state_after (opened limit mark_limit intervals told linked ledger) made).stored
numbers_right limit mark_limit intervals told linked ledger made fits limited agree first answers =
    agreeing (state_after (opened limit mark_limit intervals told linked ledger) made).stored
    (reached limit mark_limit intervals told linked ledger made fits limited agree first answers).agreed

-- and while the server is up, where the locks can be told from the calls, those that were handed over are just those of the units that wait
pub handed_held : (limit mark_limit : ℕ) (intervals : List Interval) (told linked : Bool) (ledger : Ledger) (made : List Made) → IsFirstTable limit ledger
    → mark_limit ≤ 1048576 → AgreeWith intervals ledger → IsFirst ledger → AnswersFrom (opened limit mark_limit intervals told linked ledger) made
    → HandedAreOpen (state_after (opened limit mark_limit intervals told linked ledger) made)
handed_held limit mark_limit intervals told linked ledger made fits limited agree first answers =
    let now = state_after (opened limit mark_limit intervals told linked ledger) made in
    let units = (reached limit mark_limit intervals told linked ledger made fits limited agree first answers).all.open_units in
    λ honest. while_up now.condition (HoldsOpenUnits now.locks now.stored) (λ up. holds_up now units up honest)
