-- What a history tells of the orders of workers.
use Rattle.std.proofs.Common.{◌≡◌, ℕ, ◌+◌, ◌<◌, Bool, true, false, List, [], ◌∷◌, fold, length, refl, sym, ap, ◌∙◌, subst}
use Rattle.std.specs.Prelude.{if◌then◌else◌, nat_eq, Option, Some, None}
use Rattle.enq_base.specs.declared.owner.UnitKey.{UnitKey}
use Rattle.enq_base.specs.declared.refusal.Refusal.{Refusal}
use Rattle.enq_base.specs.declared.refusal.Refusal.TheVariants as refusal
use Rattle.model_laws.proofs.ByCall.{OfEach, by_call, by_event, by_stock}
use Rattle.model_laws.proofs.NotedCalls.{by_noting}
use Rattle.hall_model.specs.Calls.{Call, LogsOn, OfSession, OfWorker, OfAdmin, Kills, FailsOver, Restarts, Attaches, Cancels, Resubmits, WorkerCall, Takes, Posts, Drops, call_of}
use Rattle.hall_model.specs.History.{Served, judged, served, takes_flight, without_stock}
use Rattle.hall_model.specs.Kept.{IsKept}
use Rattle.hall_model.specs.Numbers.{drawn, raised_to}
use Rattle.hall_model.specs.Orders.{order_of}
use Rattle.hall_model.specs.Recall.{AreModelAnswers, IsModelAnswer, Made, again, calls_of, recalled, state_after}
use Rattle.hall_model.specs.Sessions.{with_draw, with_session}
use Rattle.hall_model.specs.State.{State}
use Rattle.hall_model.specs.Step.{Found, posted_reply}
use Rattle.hall_model.specs.declared.command.Reply.TheVariants as reply
use Rattle.hall_model.specs.declared.command.Session.{Session}
use Rattle.hall_laws.proofs.histories.NotedSteps.{AnswersFrom}
use Rattle.hall_laws.proofs.keeping.InFlight.{HoldsAll, step_all}
use Rattle.ledger_steps.specs.Drawn.{handed_out, num_of}
use Rattle.ledger_steps.specs.Levels.{present}
use Rattle.ledger_steps.specs.declared.step.Outcome.{Outcome}
use Rattle.ledger_steps.specs.declared.step.Outcome.TheVariants as outcome
use Rattle.number_ranges.specs.Intervals.{is_buffered}
use Rattle.number_ranges.specs.declared.interval.Interval.{Interval}
use Rattle.order_laws.proofs.OrderLists.{none_of, set_order}
use Rattle.order_laws.proofs.UpTold.{all_answers}
use Rattle.order_laws.specs.Behind.{IsFresh, order_after, order_behind, order_by, own_order}
use Rattle.ledger_steps.specs.declared.part.Part.{Part}
use Rattle.ledger_steps.specs.Parts.{is_first}

-- ---- states that calls lead to

pub record IsReached (s : State) : Type 0 where
  pub calls : ℕ
  pub all : HoldsAll calls s

pub reached_kept : (s : State) → IsKept s → IsReached s
reached_kept s kept = record {
  calls = length s.past;
  all = record {
    holds = record { few = kept.few; steady = kept.steady };
    sound = kept.sound;
    open_units = kept.open_units;
    state_in_flight = kept.state_in_flight;
  };
}

pub reached_next : (s : State) (m : Made) → IsModelAnswer s m → IsReached s → IsReached (recalled s m)
reached_next s m answer h = record { calls = h.calls + 1; all = step_all h.calls m.outcome s m.call.line m.call.command answer.allowed h.all }

pub reached_after : (s : State) (made : List Made) → AnswersFrom s made → IsReached s → IsReached (state_after s made)
reached_after s [] answers h = h
reached_after s (m ∷ ms) answers h = reached_after (recalled s m) ms answers.1 (reached_next s m answers.0 h)

pub within_orders : (s : State) (worker : ℕ) → IsReached s → worker < 256 → worker < length s.orders
within_orders s worker h few = subst (λ n. worker < n) (sym h.all.holds.steady.places) few

-- ---- a call that is refused

own_refused : (call : WorkerCall) (r : Refusal) (before : Option UnitKey) → before ≡ own_order call (reply.Refused r) before
own_refused (Takes part) r before = refl
own_refused (Posts part) r before = refl
own_refused Drops r before = refl

order_refused : (worker : ℕ) (call : Call) (r : Refusal) (before : Option UnitKey) → before ≡ order_by worker call (reply.Refused r) before
order_refused worker (LogsOn name user) r before = refl
order_refused worker (OfSession name call) r before = refl
order_refused worker (OfWorker other call) r before =
    elim (nat_eq other worker) as (λ b. before ≡ (if b then own_order call (reply.Refused r) before else before)) [
      | true ↦ own_refused call r before
      | false ↦ refl
    ]
order_refused worker (OfAdmin Kills) r before = refl
order_refused worker (OfAdmin FailsOver) r before = refl
order_refused worker (OfAdmin Restarts) r before = refl
order_refused worker (OfAdmin Attaches) r before = refl
order_refused worker (OfAdmin (Cancels unit)) r before = refl
order_refused worker (OfAdmin (Resubmits unit)) r before = refl

-- ---- any call

abbrev FollowsOrder : ℕ → State → Call → Served → Type 0
FollowsOrder worker s call r = order_of r.state.orders worker ≡ order_by worker call r.reply (order_of s.orders worker)

drawn_orders : (s : State) (x : Session) (i : Interval) (number : ℕ) → (drawn s x i number).orders ≡ s.orders
drawn_orders s x i number =
    let t : State = record s { sessions = with_session x.name (with_draw (num_of i number)) s.sessions } in
    let behind : Bool → State = λ b. if b then record t { ranges = handed_out i t.ranges; stored = raised_to i number t.stored } else t in
    elim (is_buffered i) as (λ b. (behind b).orders ≡ s.orders) [ true ↦ refl | false ↦ refl ]

-- a post that is answered without a refusal
posted_ends : (part : Part) (unit : UnitKey) (o : Outcome) (before : Option UnitKey) → None ≡ own_order (Posts part) (posted_reply part unit o) before
posted_ends part unit outcome.Done before =
    elim (is_first part) as (λ b. None ≡ own_order (Posts part) (if b then reply.Posted unit else reply.Closed unit) before) [ true ↦ refl | false ↦ refl ]
posted_ends part unit (outcome.Refused index reason) before =
    elim (is_first part) as (λ b. None ≡ own_order (Posts part) (if b then reply.Bad unit index reason else reply.Bad2 unit index reason) before) [
      | true ↦ refl
      | false ↦ refl
    ]

follows : (worker : ℕ) (found : Found) (s : State) → worker < length s.orders → OfEach (λ call v. FollowsOrder worker s call (judged s v)) found s
follows worker found s within = record {
  refuses = λ call r plain. order_refused worker call r _;
  enters = λ name user free. refl;
  logs_off = λ name x at. refl;
  grants = λ name x rs locks at e. refl;
  lowers = λ name x rs at. refl;
  frees = λ name x at. refl;
  converts = λ name x wanted c at e. refl;
  draws = λ name x object nr r at can. ap (λ os. order_of os worker) (drawn_orders s x (present s.stored.levels r.interval) _);
  reserves = λ name x object nr upto r at can. refl;
  reads = λ name x table key at. refl;
  commits_nothing = λ name x parts stock at. refl;
  commits_numbers = λ name x parts stock at. refl;
  commits = λ name x parts stock at. refl;
  rolls_back = λ name x at. refl;
  takes = λ other part unit free e. set_order s.orders other worker (Some unit) within;
  posts = λ other part unit e.
      set_order s.orders other worker None within
      ∙ ap (λ o. if nat_eq other worker then o else order_of s.orders worker) (posted_ends part unit (found.part part unit) (order_of s.orders worker));
  drops = λ other unit e. set_order s.orders other worker None within;
  kills = λ up. refl;
  fails_over = λ can. refl;
  strays = λ first second none. refl;
  attaches = λ up. refl;
  restarts = λ off. none_of 256 worker;
  cancels = λ unit status can. refl;
  reopens = λ unit es here stand. refl;
  reposts = λ unit here. refl;
}

stock_orders : (s : State) (call : Call) → (without_stock call s).orders ≡ s.orders
stock_orders s call = by_stock (λ c t. t.orders ≡ s.orders) s (λ name parts stock. refl) (λ c. refl) call

step_follows : (worker : ℕ) (s : State) (m : Made) → worker < length s.orders → FollowsOrder worker s (call_of m.call.command) (again s m)
step_follows worker s m within =
    let c = m.call.command in
    let call = call_of c in
    let before = order_of s.orders worker in
    let Q : Served → Type 0 = FollowsOrder worker s call in
    let h =
    by_event Q m.outcome s c (λ lost done h. h)
    (λ found. by_call (λ call v. FollowsOrder worker s call (judged s v)) found s (follows worker found s within) call)
    (order_refused worker call refusal.NoMemory before) (order_refused worker call refusal.LinkFault before)
    (λ reading. ap (λ os. order_of os worker) (stock_orders s call) ∙ order_refused worker call refusal.StoreFault before)
    (λ reading. order_refused worker call refusal.BackupFault before) (λ read r. order_refused worker call r before) in
    by_noting Q m.call.line c (takes_flight m.outcome) (served m.outcome s c) h h

recalled_order : (worker : ℕ) (s : State) (m : Made) → IsModelAnswer s m → worker < length s.orders
    → order_of (recalled s m).orders worker ≡ order_behind worker (order_of s.orders worker) m.call
recalled_order worker s m answer within =
    step_follows worker s m within ∙ ap (λ r. order_by worker (call_of m.call.command) r (order_of s.orders worker)) answer.reply

-- ---- histories

pub order_told : (worker : ℕ) (s : State) (made : List Made) → worker < 256 → AnswersFrom s made → IsReached s
    → order_of (state_after s made).orders worker ≡ fold (order_behind worker) (order_of s.orders worker) (calls_of made)
order_told worker s [] few answers h = refl
order_told worker s (m ∷ ms) few answers h =
    order_told worker (recalled s m) ms few answers.1 (reached_next s m answers.0 h)
    ∙ ap (λ o. fold (order_behind worker) o (calls_of ms)) (recalled_order worker s m answers.0 (within_orders s worker h few))

pub orders_are_told : (first : State) (made : List Made) (worker : ℕ) → IsFresh first → AreModelAnswers first made → worker < 256
    → order_of (state_after first made).orders worker ≡ order_after worker (calls_of made)
orders_are_told first made worker fresh answers few =
    order_told worker first made few (all_answers first made answers) (reached_kept first fresh.kept)
    ∙ ap (λ o. fold (order_behind worker) o (calls_of made)) (fresh.free worker few)
