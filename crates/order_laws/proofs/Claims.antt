-- The units that wait for their V1 part stay claimed by workers, unless a call offers one.
use Rattle.std.proofs.Common.{◌≡◌, ℕ, Bool, true, false, List, [], ◌∷◌, ◌++◌, set, sym, ap, ◌∙◌}
use Rattle.std.specs.Prelude.{if◌then◌else◌, nat_le, Option, Some, None}
use Rattle.std.proofs.lemmas.Bool.{or_parts}
use Rattle.enq_base.specs.Owners.{same_unit}
use Rattle.enq_base.specs.declared.owner.UnitKey.{UnitKey}
use Rattle.enq_base.specs.declared.unit.Status.{Status}
use Rattle.enq_base.specs.declared.unit.Status.TheVariants.{Open, Posted, Closed}
use Rattle.model_laws.proofs.ByCall.{OfEach, by_call, by_event, by_filing, by_stock}
use Rattle.model_laws.proofs.NotedCalls.{by_noting, of_server}
use Rattle.model_laws.proofs.OtherStatuses.{EndsFirst, apart_from_ended, marked_other, numbers_leave, of_has, status_in}
use Rattle.model_laws.proofs.PartOrders.{held_for}
use Rattle.hall_model.specs.Calls.{Call, call_of}
use Rattle.hall_model.specs.Devices.{found_by}
use Rattle.hall_model.specs.History.{Served, judged, served, takes_flight, without_stock}
use Rattle.hall_model.specs.Numbers.{drawn, raised_to}
use Rattle.hall_model.specs.Orders.{is_claimed, is_for, order_of, waits_for}
use Rattle.hall_model.specs.Recall.{AreModelAnswers, Made, again, calls_of, recalled, state_after}
use Rattle.hall_model.specs.Sessions.{unit_key, with_draw, with_session}
use Rattle.hall_model.specs.State.{State}
use Rattle.hall_model.specs.Step.{Found}
use Rattle.hall_model.specs.declared.command.Session.{Session}
use Rattle.hall_laws.proofs.histories.NotedSteps.{AnswersFrom}
use Rattle.ledger_steps.specs.Drawn.{handed_out, num_of, stored_as}
use Rattle.ledger_steps.specs.Intervals.{with_intervals}
use Rattle.ledger_steps.specs.Levels.{present}
use Rattle.ledger_steps.specs.Posts.{kind_for}
use Rattle.ledger_steps.specs.declared.step.Outcome.{Outcome}
use Rattle.ledger_steps.specs.declared.step.Outcome.TheVariants as outcome
use Rattle.number_ranges.specs.Intervals.{block_level, is_buffered, with_level}
use Rattle.number_ranges.specs.declared.interval.Interval.{Interval}
use Rattle.update_records.specs.Growing.{with_mark}
use Rattle.update_records.specs.Ledger.{Ledger}
use Rattle.update_records.specs.Marks.{has_status}
use Rattle.update_records.specs.declared.records.MarkKind.{MarkKind}
use Rattle.update_records.specs.declared.records.MarkKind.TheVariants.{Bad1, Bad2, Gone, V1, V2}
use Rattle.order_laws.proofs.OrderLists.{claimed_elsewhere}
use Rattle.order_laws.proofs.UpTold.{all_answers}
use Rattle.order_laws.specs.Resting.{AreClaimed, NoneOffers, offers}
use Rattle.ledger_steps.specs.declared.part.Part.TheVariants as parts
use Rattle.ledger_steps.specs.declared.part.Part.{Part}
use Rattle.ledger_steps.specs.Parts.{is_first}

-- the same by the parts of a state
abbrev ClaimedIn : Ledger → List (Option UnitKey) → Type 0
ClaimedIn ledger orders = (unit : UnitKey) → waits_for parts.V1 ledger unit ≡ true → is_claimed orders unit ≡ true

-- ---- marks that end the V1 part

one_status : (a b : Status) → Some a ≡ Some b → a ≡ b
one_status a b e = cc

open_posted : Posted ≡ Open → ⊥
open_posted e = cc

open_closed : Closed ≡ Open → ⊥
open_closed e = cc

posted_shut : (b : Bool) → (if b then Closed else Posted) ≡ Open → ⊥
posted_shut true e = open_closed e
posted_shut false e = open_posted e

ends_post : (part : Part) (o : Outcome) → EndsFirst (kind_for part o)
ends_post part outcome.Done =
    elim (is_first part) as (λ t. EndsFirst (if t then V1 else V2)) [
      | true ↦ λ b before e. posted_shut b (one_status _ Open e)
      | false ↦ λ b before e. open_closed (one_status _ Open e)
    ]
ends_post part (outcome.Refused index reason) =
    elim (is_first part) as (λ t. EndsFirst (if t then Bad1 index reason else Bad2 index reason)) [
      | true ↦ λ b before e. cc
      | false ↦ λ b before e. cc
    ]

ends_gone : EndsFirst Gone
ends_gone b before e = cc

-- such a mark brings no unit that waits for its V1 part
marked_before : (ledger : Ledger) (key unit : UnitKey) (kind : MarkKind) → EndsFirst kind → waits_for parts.V1 (with_mark ledger key kind) unit ≡ true
    → (same_unit key unit ≡ false) × (waits_for parts.V1 ledger unit ≡ true)
marked_before ledger key unit kind ends waits =
    let apart = apart_from_ended ledger key unit kind ends (of_has Open (status_in (with_mark ledger key kind) unit) waits) in
    (apart, sym (ap (has_status Open) (marked_other ledger key unit kind apart)) ∙ waits)

marked_claimed : (ledger : Ledger) (key : UnitKey) (kind : MarkKind) (orders : List (Option UnitKey)) → EndsFirst kind → ClaimedIn ledger orders
    → ClaimedIn (with_mark ledger key kind) orders
marked_claimed ledger key kind orders ends h unit waits = h unit (marked_before ledger key unit kind ends waits).1

posted_claimed : (ledger : Ledger) (key : UnitKey) (kind : MarkKind) (orders : List (Option UnitKey)) (worker : ℕ) → EndsFirst kind
    → order_of orders worker ≡ Some key → ClaimedIn ledger orders → ClaimedIn (with_mark ledger key kind) (set orders worker None)
posted_claimed ledger key kind orders worker ends held h unit waits =
    let before = marked_before ledger key unit kind ends waits in
    claimed_elsewhere orders worker None unit (ap (is_for unit) held ∙ before.0) (h unit before.1)

-- ---- any call

abbrev KeepsClaims : Call → Served → Type 0
KeepsClaims call r = offers call r.reply ≡ false → ClaimedIn r.state.stored r.state.orders

raised_claimed : (ledger : Ledger) (orders : List (Option UnitKey)) (i : Interval) (upto : ℕ) → ClaimedIn ledger orders
    → ClaimedIn (raised_to i upto ledger) orders
raised_claimed ledger orders i upto h =
    let raised = with_intervals (stored_as (with_level (block_level i upto) i) ∷ []) ledger in
    elim (nat_le upto i.level) as (λ b. ClaimedIn (if b then ledger else raised) orders) [
      | true ↦ h
      | false ↦ h
    ]

drawn_claimed : (s : State) (x : Session) (i : Interval) (number : ℕ) → ClaimedIn s.stored s.orders
    → ClaimedIn (drawn s x i number).stored (drawn s x i number).orders
drawn_claimed s x i number h =
    let t : State = record s { sessions = with_session x.name (with_draw (num_of i number)) s.sessions } in
    let behind : Bool → State = λ b. if b then record t { ranges = handed_out i t.ranges; stored = raised_to i number t.stored } else t in
    elim (is_buffered i) as (λ b. ClaimedIn (behind b).stored (behind b).orders) [
      | true ↦ raised_claimed s.stored s.orders i number h
      | false ↦ h
    ]

each-claimed : (found : Found) (s : State) → ClaimedIn s.stored s.orders → OfEach (λ call v. KeepsClaims call (judged s v)) found s
each-claimed found s h = record {
  refuses = λ call r plain on. h;
  enters = λ name user free on. h;
  logs_off = λ name x at on. h;
  grants = λ name x rs locks at e on. h;
  lowers = λ name x rs at on. h;
  frees = λ name x at on. h;
  converts = λ name x wanted c at e on. h;
  draws = λ name x object nr r at can on. drawn_claimed s x (present s.stored.levels r.interval) _ h;
  reserves = λ name x object nr upto r at can on. raised_claimed s.stored s.orders (present s.stored.levels r.interval) upto h;
  reads = λ name x table key at on. h;
  commits_nothing = λ name x parts stock at on. h;
  commits_numbers = λ name x parts stock at on unit waits.
      h unit (sym (ap (has_status Open) (numbers_leave s.stored (unit_key s.stored.start x) unit (x.draws ++ stock))) ∙ waits);
  commits = λ name x parts stock at on. of_server on;
  rolls_back = λ name x at on. h;
  takes = λ worker part key free e on unit waits. claimed_elsewhere s.orders worker (Some key) unit (ap (is_for unit) free) (h unit waits);
  posts = λ worker part key e on.
      posted_claimed s.stored key (kind_for part (found.part part key)) s.orders worker (ends_post part (found.part part key))
      (held_for part s.stored (order_of s.orders worker) key e).0 h;
  drops = λ worker key e on. of_server on;
  kills = λ up on. h;
  fails_over = λ can on. h;
  strays = λ first second none on. h;
  attaches = λ up on. h;
  restarts = λ off on. of_server on;
  cancels = λ key status can on. marked_claimed s.stored key Gone s.orders ends_gone h;
  reopens = λ key es here stand on. of_server on;
  reposts = λ key here on. of_server on;
}

stock_claimed : (s : State) (call : Call) → ClaimedIn s.stored s.orders → ClaimedIn (without_stock call s).stored (without_stock call s).orders
stock_claimed s call h = by_stock (λ c t. ClaimedIn t.stored t.orders) s (λ name parts stock. h) (λ c. h) call

recalled_claimed : (s : State) (m : Made) → ClaimedIn s.stored s.orders → KeepsClaims (call_of m.call.command) (again s m)
recalled_claimed s m h =
    let c = m.call.command in
    let call = call_of c in
    let o = m.outcome in
    let Q : Served → Type 0 = KeepsClaims call in
    let k : Q (served o s c) =
    by_event Q o s c (λ lost done k. k)
    (λ found. by_call (λ call v. KeepsClaims call (judged s v)) found s (each-claimed found s h) call)
    (λ on. h) (λ on. h) (λ reading on. stock_claimed s call h)
    (λ reading on.
    by_filing (λ ledger. ClaimedIn ledger s.orders) (found_by reading s) s call h
    (λ worker part key e. marked_claimed s.stored key _ s.orders (ends_post part ((found_by reading s).part part key)) h)
    (λ key status can. marked_claimed s.stored key Gone s.orders ends_gone h))
    (λ read r on. h) in
    by_noting Q m.call.line c (takes_flight o) (served o s c) k k

pub claims_from : (s : State) (made : List Made) → AnswersFrom s made → NoneOffers (calls_of made) → AreClaimed parts.V1 s
    → AreClaimed parts.V1 (state_after s made)
claims_from s [] answers none h = h
claims_from s (m ∷ ms) answers none h =
    let parts = or_parts (offers (call_of m.call.command) m.call.reply) _ none in
    claims_from (recalled s m) ms answers.1 parts.1
    (recalled_claimed s m h (ap (offers (call_of m.call.command)) answers.0.reply ∙ parts.0))

-- while no call offers a unit
pub claims_stay : (first : State) (made : List Made) → AreModelAnswers first made → NoneOffers (calls_of made) → AreClaimed parts.V1 first
    → AreClaimed parts.V1 (state_after first made)
claims_stay first made answers none h = claims_from first made (all_answers first made answers) none h
