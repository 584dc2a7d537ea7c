-- What no call changes, and a call with its place in the history.
use Rattle.std.proofs.Common.{◌≡◌, ◌⊎◌, inl, inr, ℕ, ◌+◌, Bool, true, false, List, [], ◌∷◌, ◌++◌, length, refl, sym, ap, ◌∙◌, subst}
use Rattle.std.proofs.lemmas.List.{append-nil}
use Rattle.std.specs.Prelude.{if◌then◌else◌, IsTrue, Option, None}
use Rattle.enq_base.specs.declared.condition.Condition.{Condition}
use Rattle.enq_base.specs.declared.condition.Condition.TheVariants as condition
use Rattle.lock_entry.specs.declared.entry.Entry.{Entry}
use Rattle.hall_model.specs.Acts.{IsTelling}
use Rattle.hall_model.specs.Calls.{Kills, FailsOver, Restarts, Attaches, Cancels, Resubmits, Call, LogsOn, OfSession, OfWorker, OfAdmin, call_of, is_of_server, restarts}
use Rattle.hall_model.specs.Devices.{DeviceOutcome, Event, AllWell, Wanting, StoreFails, BackupFails, LinkFails, NotRemade, IsTold, MayFind, MayRead, found_by, Reading, AsKnown, Shows, Reopens, Hands}
use Rattle.hall_model.specs.History.{IsStep, Served, doubted, in_flight_after, is_unrecorded, judged, noted, past_entry, read_anew, served, step, takes_flight, with_entry, without_stock}
use Rattle.hall_model.specs.Recall.{HasBegun}
use Rattle.hall_model.specs.Numbers.{drawn, raised_to}
use Rattle.ledger_steps.specs.Drawn.{handed_out, num_of}
use Rattle.hall_model.specs.Sessions.{with_draw, with_session}
use Rattle.hall_model.specs.State.{State, doubt_in}
use Rattle.hall_model.specs.Stocks.{MayCall}
use Rattle.hall_model.specs.declared.command.Session.{Session}
use Rattle.number_ranges.specs.Intervals.{is_buffered}
use Rattle.number_ranges.specs.declared.interval.Interval.{Interval}
use Rattle.ledger_steps.specs.Levels.{present}
use Rattle.update_records.specs.Ledger.{Ledger}
use Rattle.hall_model.specs.Step.{Found, Verdict, call_verdict, verdict}
use Rattle.hall_model.specs.declared.command.Command.{Command}
use Rattle.hall_model.specs.declared.command.Reply.{Reply}
use Rattle.model_laws.proofs.ByCall.{OfEach, by_call, by_event, by_restart, by_stock}
use Rattle.model_laws.proofs.NotedCalls.{by_noting, of_server, reads_anew}

-- ---- what is kept

-- the parts of a state that a verdict leaves
pub record IsFramed (s t : State) : Type 0 where
  pub mark_limit : t.mark_limit ≡ s.mark_limit
  pub past : t.past ≡ s.past

stays : (s : State) → IsFramed s s
stays s = record { mark_limit = refl; past = refl }

drawn_frame : (s : State) (x : Session) (i : Interval) (number : ℕ) → IsFramed s (drawn s x i number)
drawn_frame s x i number =
    let t : State = record s { sessions = with_session x.name (with_draw (num_of i number)) s.sessions } in
    elim (is_buffered i) as (λ b. IsFramed s (if b then record t { ranges = handed_out i t.ranges; stored = raised_to i number t.stored } else t)) [
      | true ↦ record { mark_limit = refl; past = refl }
      | false ↦ record { mark_limit = refl; past = refl }
    ]

framed : (found : Found) (s : State) → OfEach (λ call v. IsFramed s (judged s v).state) found s
framed found s = record {
  refuses = λ call r plain. stays s;
  enters = λ name user free. record { mark_limit = refl; past = refl };
  logs_off = λ name x at. record { mark_limit = refl; past = refl };
  grants = λ name x rs locks at e. record { mark_limit = refl; past = refl };
  lowers = λ name x rs at. record { mark_limit = refl; past = refl };
  frees = λ name x at. record { mark_limit = refl; past = refl };
  converts = λ name x wanted c at e. record { mark_limit = refl; past = refl };
  draws = λ name x object nr r at can. drawn_frame s x (present s.stored.levels r.interval) _;
  reserves = λ name x object nr upto r at can. record { mark_limit = refl; past = refl };
  reads = λ name x table key at. stays s;
  commits_nothing = λ name x parts stock at. stays s;
  commits_numbers = λ name x parts stock at. record { mark_limit = refl; past = refl };
  commits = λ name x parts stock at. record { mark_limit = refl; past = refl };
  rolls_back = λ name x at. record { mark_limit = refl; past = refl };
  takes = λ worker part unit free e. record { mark_limit = refl; past = refl };
  posts = λ worker part unit e. record { mark_limit = refl; past = refl };
  drops = λ worker unit e. record { mark_limit = refl; past = refl };
  kills = λ up. record { mark_limit = refl; past = refl };
  fails_over = λ can. record { mark_limit = refl; past = refl };
  strays = λ first second none. record { mark_limit = refl; past = refl };
  attaches = λ up. record { mark_limit = refl; past = refl };
  restarts = λ off. record { mark_limit = refl; past = refl };
  cancels = λ unit status can. record { mark_limit = refl; past = refl };
  reopens = λ unit es here stand. record { mark_limit = refl; past = refl };
  reposts = λ unit here. record { mark_limit = refl; past = refl };
}

pub verdict_framed : (found : Found) (s : State) (c : Command) → IsFramed s (judged s (verdict found s c)).state
verdict_framed found s c = by_call (λ call v. IsFramed s (judged s v).state) found s (framed found s) _

-- ---- the change in flight

drawn_beside : (s : State) (x : Session) (i : Interval) (number : ℕ) → (drawn s x i number).in_flight ≡ s.in_flight
drawn_beside s x i number =
    let t : State = record s { sessions = with_session x.name (with_draw (num_of i number)) s.sessions } in
    let behind : Bool → State = λ b. if b then record t { ranges = handed_out i t.ranges; stored = raised_to i number t.stored } else t in
    elim (is_buffered i) as (λ b. (behind b).in_flight ≡ s.in_flight) [ true ↦ refl | false ↦ refl ]

flights : (Q : Option Ledger → Type 0) (found : Found) (s : State) → Q s.in_flight → Q None → OfEach (λ call v. Q (judged s v).state.in_flight) found s
flights Q found s h none = record {
  refuses = λ call r plain. h;
  enters = λ name user free. h;
  logs_off = λ name x at. h;
  grants = λ name x rs locks at e. h;
  lowers = λ name x rs at. h;
  frees = λ name x at. h;
  converts = λ name x wanted c at e. h;
  draws = λ name x object nr r at can. subst Q (sym (drawn_beside s x (present s.stored.levels r.interval) _)) h;
  reserves = λ name x object nr upto r at can. h;
  reads = λ name x table key at. h;
  commits_nothing = λ name x parts stock at. h;
  commits_numbers = λ name x parts stock at. h;
  commits = λ name x parts stock at. h;
  rolls_back = λ name x at. h;
  takes = λ worker part unit free e. h;
  posts = λ worker part unit e. h;
  drops = λ worker unit e. h;
  kills = λ up. h;
  fails_over = λ can. h;
  strays = λ first second none. h;
  attaches = λ up. h;
  restarts = λ off. none;
  cancels = λ unit status can. h;
  reopens = λ unit es here stand. h;
  reposts = λ unit here. h;
}

-- a call leaves it, or makes it known
pub verdict_in_flight : (Q : Option Ledger → Type 0) (found : Found) (s : State) (call : Call) → Q s.in_flight → Q None
    → Q (judged s (call_verdict found s call)).state.in_flight
verdict_in_flight Q found s call h none = by_call (λ call v. Q (judged s v).state.in_flight) found s (flights Q found s h none) call

-- a call that neither ends a lock server nor makes one anew leaves the condition
abbrev KeepsCondition : State → Call → Verdict → Type 0
KeepsCondition s call v = is_of_server call ≡ false → (judged s v).state.condition ≡ s.condition

drawn_condition : (s : State) (x : Session) (i : Interval) (number : ℕ) → (drawn s x i number).condition ≡ s.condition
drawn_condition s x i number =
    let t : State = record s { sessions = with_session x.name (with_draw (num_of i number)) s.sessions } in
    elim (is_buffered i) as (λ b. (if b then record t { ranges = handed_out i t.ranges; stored = raised_to i number t.stored } else t).condition ≡ s.condition)
    [ true ↦ refl | false ↦ refl ]

conditions : (found : Found) (s : State) → OfEach (KeepsCondition s) found s
conditions found s = record {
  refuses = λ call r plain off. refl;
  enters = λ name user free off. refl;
  logs_off = λ name x at off. refl;
  grants = λ name x rs locks at e off. refl;
  lowers = λ name x rs at off. refl;
  frees = λ name x at off. refl;
  converts = λ name x wanted c at e off. refl;
  draws = λ name x object nr r at can off. drawn_condition s x (present s.stored.levels r.interval) _;
  reserves = λ name x object nr upto r at can off. refl;
  reads = λ name x table key at off. refl;
  commits_nothing = λ name x parts stock at off. refl;
  commits_numbers = λ name x parts stock at off. refl;
  commits = λ name x parts stock at off. refl;
  rolls_back = λ name x at off. refl;
  takes = λ worker part unit free e off. refl;
  posts = λ worker part unit e off. refl;
  drops = λ worker unit e off. refl;
  kills = λ up off. of_server off;
  fails_over = λ can off. of_server off;
  strays = λ first second none off. of_server off;
  attaches = λ up off. refl;
  restarts = λ was off. of_server off;
  cancels = λ unit status can off. refl;
  reopens = λ unit es here stand off. refl;
  reposts = λ unit here off. refl;
}

pub verdict_condition : (found : Found) (s : State) (call : Call) → is_of_server call ≡ false
    → (judged s (call_verdict found s call)).state.condition ≡ s.condition
verdict_condition found s call off = by_call (KeepsCondition s) found s (conditions found s) call off

-- a call leaves the doubt, or makes a lock server anew
abbrev EndsDoubt : State → Call → Verdict → Type 0
EndsDoubt s call v = (doubt_in (judged s v).state.condition ≡ doubt_in s.condition) ⊎ ((judged s v).state.condition ≡ condition.Up)

doubts : (found : Found) (s : State) → OfEach (EndsDoubt s) found s
doubts found s = record {
  refuses = λ call r plain. inl refl;
  enters = λ name user free. inl refl;
  logs_off = λ name x at. inl refl;
  grants = λ name x rs locks at e. inl refl;
  lowers = λ name x rs at. inl refl;
  frees = λ name x at. inl refl;
  converts = λ name x wanted c at e. inl refl;
  draws = λ name x object nr r at can. inl (ap doubt_in (drawn_condition s x (present s.stored.levels r.interval) _));
  reserves = λ name x object nr upto r at can. inl refl;
  reads = λ name x table key at. inl refl;
  commits_nothing = λ name x parts stock at. inl refl;
  commits_numbers = λ name x parts stock at. inl refl;
  commits = λ name x parts stock at. inl refl;
  rolls_back = λ name x at. inl refl;
  takes = λ worker part unit free e. inl refl;
  posts = λ worker part unit e. inl refl;
  drops = λ worker unit e. inl refl;
  kills = λ up. inl (sym (ap doubt_in up));
  fails_over = λ can. inr refl;
  strays = λ first second none. inl refl;
  attaches = λ up. inl refl;
  restarts = λ off. inr refl;
  cancels = λ unit status can. inl refl;
  reopens = λ unit es here stand. inl refl;
  reposts = λ unit here. inl refl;
}

pub verdict_doubt : (found : Found) (s : State) (call : Call) → EndsDoubt s call (call_verdict found s call)
verdict_doubt found s call = by_call (EndsDoubt s) found s (doubts found s) call

pub served-past : (o : DeviceOutcome) (s : State) (c : Command) → (served o s c).state.past ≡ s.past
served-past o s c = by_event (λ r. r.state.past ≡ s.past) o s c (λ lost done same. same) (λ found. (verdict_framed found s c).past) refl refl
    (λ reading. by_stock (λ call t. t.past ≡ s.past) s (λ name parts stock. refl) (λ call. refl) (call_of c)) (λ reading. refl) (λ read r. refl)

-- what leaves the server in doubt
abbrev pub leaves_doubt : Event → Bool
leaves_doubt AllWell = false
leaves_doubt Wanting = false
leaves_doubt StoreFails = true
leaves_doubt BackupFails = true
leaves_doubt LinkFails = false
leaves_doubt (NotRemade fault) = true

-- the doubt stays as it was, or a restart ends it, or a device fails, or no lock server could be made anew
abbrev pub Becomes : Bool → Condition → Condition → Type 0
Becomes fails c d = (doubt_in d ≡ doubt_in c) ⊎ ((d ≡ condition.Up) ⊎ (IsTrue fails × ((k : ℕ) × (d ≡ condition.Doubt (k + 1)))))

stays_or_ends : (fails : Bool) (c d : Condition) → (doubt_in d ≡ doubt_in c) ⊎ (d ≡ condition.Up) → Becomes fails c d
stays_or_ends fails c d (inl same) = inl same
stays_or_ends fails c d (inr up) = inr (inl up)

failing_past : (s : State) (call : Call) (in_flight : Option Ledger)
    → (doubted (without_stock call s) call None in_flight).condition ≡ condition.Doubt (length s.past + 1)
failing_past s call in_flight =
    by_stock (λ other t. (doubted t call None in_flight).condition ≡ condition.Doubt (length s.past + 1)) s (λ name parts stock. refl) (λ other. refl) call

served_becomes : (o : DeviceOutcome) (s : State) (c : Command) → Becomes (leaves_doubt o.event) s.condition (served o s c).state.condition
served_becomes o s c =
    elim o.event as (λ e. Becomes (leaves_doubt e) s.condition (served (record { event = e; reading = o.reading; lost = o.lost }) s c).state.condition) [
      | AllWell ↦ stays_or_ends false _ _ (verdict_doubt _ s (call_of c))
      | Wanting ↦ inl refl
      | StoreFails ↦ inr (inr (refl, (length s.past, failing_past s (call_of c) (in_flight_after s (call_of c) (verdict (found_by o.reading s) s c)))))
      | BackupFails ↦ inr (inr (refl, (length s.past, refl)))
      | LinkFails ↦ inl refl
      | NotRemade fault ↦ inr (inr (refl, (length s.past, refl)))
    ]

-- ---- noted or not

pub step_becomes : (o : DeviceOutcome) (s : State) (n : ℕ) (c : Command) → Becomes (leaves_doubt o.event) s.condition (step o s n c).state.condition
step_becomes o s n c =
    let r = served o s c in
    by_noting (λ x. Becomes (leaves_doubt o.event) s.condition x.state.condition) n c (takes_flight o) r (served_becomes o s c) (served_becomes o s c)

-- ---- what a restart finds

-- what it finds it may find
pub may_find : (taken : Bool) (s : State) (call : Call) → MayRead (Reopens taken) s call → MayFind s taken
may_find taken s call = by_restart (λ c. MayRead (Reopens taken) s c → MayFind s taken) (λ may. may) (λ c off may. absurd (reads_anew taken s c off may)) call

-- any other call reads nothing of the change in flight
pub reads_none : (reading : Reading) (s : State) (call : Call) → restarts call ≡ false → MayRead reading s call → read_anew reading ≡ None
reads_none AsKnown s call off may = refl
reads_none (Shows text) s call off may = refl
reads_none (Reopens taken) s call off may = absurd (reads_anew taken s call off may)
reads_none (Hands list) s call off may = refl

-- ---- the list that a link hands over

told_refl : (b : Bool) (list : List Entry) → IsTold b (list ≡ list)
told_refl true list = refl
told_refl false list = tt

hands_told : (list : List Entry) (s : State) (call : Call) → MayRead (Hands list) s call → IsTold s.link_told (list ≡ s.locks)
hands_told list s (LogsOn name user) may = absurd may
hands_told list s (OfSession name call) may = absurd may
hands_told list s (OfWorker worker call) may = absurd may
hands_told list s (OfAdmin Kills) may = absurd may
hands_told list s (OfAdmin FailsOver) may = may
hands_told list s (OfAdmin Restarts) may = absurd may
hands_told list s (OfAdmin Attaches) may = absurd may
hands_told list s (OfAdmin (Cancels unit)) may = absurd may
hands_told list s (OfAdmin (Resubmits unit)) may = absurd may

-- where the link tells its list, it is the one of the state
pub list_told : (reading : Reading) (s : State) (call : Call) → MayRead reading s call → IsTold s.link_told ((found_by reading s).list ≡ s.locks)
list_told AsKnown s call may = told_refl s.link_told s.locks
list_told (Shows text) s call may = told_refl s.link_told s.locks
list_told (Reopens taken) s call may = told_refl s.link_told s.locks
list_told (Hands list) s call may = hands_told list s call may

-- ---- steps

-- a call that is put into the history
pub noted_step : (s : State) (line : ℕ) (c : Command) (taken : Bool) (after : State) (r : Reply) → MayCall s (call_of c) → IsTelling s c taken after r
    → is_unrecorded r ≡ false → IsStep s (with_entry line c taken (record { state = after; reply = r })) line c r
noted_step s line c taken after r may h on =
    let whole : Served = record { state = after; reply = r } in
    let entry : Served = record { state = with_entry line c taken whole; reply = r } in
    let act = h.act in
    record {
      outcome = act.outcome;
      allowed = record { call = may; possible = act.possible };
      same = sym ((λ i. noted line c (h.taken i) (act.same i)) ∙ ap (λ b. if b then whole else entry) on);
    }

-- the history goes on
pub step_begins : (o : DeviceOutcome) (s : State) (line : ℕ) (c : Command) → HasBegun s.past (step o s line c).state.past
step_begins o s line c =
    let r = served o s c in
    let taken = takes_flight o in
    let same = served-past o s c in
    by_noting (λ x. HasBegun s.past x.state.past) line c taken r
    ([], same ∙ sym (append-nil s.past))
    (past_entry line c taken r ∷ [], ap (λ es. es ++ past_entry line c taken r ∷ []) same)
