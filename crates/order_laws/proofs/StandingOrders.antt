-- An order stands until its worker's next call.
use Rattle.std.proofs.Common.{◌≡◌, ◌≢◌, ℕ, ◌<◌, Bool, true, false, not, List, [], ◌∷◌, ◌++◌, refl, sym, ap, ◌∙◌, subst}
use Rattle.std.specs.Prelude.{if◌then◌else◌, nat_le, Option, Some, None}
use Rattle.std.proofs.lemmas.Bool.{and_parts}
use Rattle.std.proofs.lemmas.List.Sums.{fold-append}
use Rattle.enq_base.specs.Owners.{same_unit}
use Rattle.enq_base.specs.declared.condition.Condition.TheVariants as condition
use Rattle.enq_base.specs.declared.owner.UnitKey.{UnitKey}
use Rattle.enq_base.specs.declared.refusal.Refusal.{Refusal}
use Rattle.enq_base.specs.declared.unit.Status.{Status}
use Rattle.enq_base.specs.declared.unit.Status.TheVariants.{Open, Posted, Bad, Closed, Bad2, Cancelled}
use Rattle.model_laws.proofs.ByCall.{OfEach, by_call, by_event}
use Rattle.model_laws.proofs.Cancels.{unclaimed}
use Rattle.model_laws.proofs.NotedCalls.{by_noting}
use Rattle.model_laws.proofs.OtherStatuses.{Ends, apart_by, apart_by_status, ends_with, marked_other, numbers_leave, recorded_other, status_in}
use Rattle.model_laws.proofs.PartOrders.{held_for}
use Rattle.hall_model.specs.Calls.{Call, OfWorker, Takes, call_of}
use Rattle.hall_model.specs.History.{Served, judged, served, takes_flight}
use Rattle.hall_model.specs.Kept.{AreOrders, IsSteady, OutsideDoubt}
use Rattle.hall_model.specs.Numbers.{drawn, raised_to}
use Rattle.hall_model.specs.Orders.{first_unclaimed, is_claimed, order_for, order_of, waits_for}
use Rattle.hall_model.specs.Recall.{AreModelAnswers, IsModelAnswer, Made, again, calls_of, recalled, state_after}
use Rattle.hall_model.specs.Sessions.{unit_key, with_draw, with_session}
use Rattle.hall_model.specs.State.{State}
use Rattle.hall_model.specs.Step.{Found, unit_of}
use Rattle.hall_model.specs.declared.command.After.{After}
use Rattle.hall_model.specs.declared.command.Reply.TheVariants as reply
use Rattle.hall_model.specs.declared.command.Session.{Session}
use Rattle.hall_laws.proofs.histories.NotedSteps.{AnswersFrom, answers_before, answers_behind}
use Rattle.hall_laws.proofs.keeping.UnitsToCome.{open_unheard}
use Rattle.hall_laws.proofs.keeping.WorkerOrders.{found_all}
use Rattle.ledger_steps.specs.Drawn.{handed_out, num_of, stored_as}
use Rattle.ledger_steps.specs.Intervals.{with_intervals}
use Rattle.ledger_steps.specs.Levels.{present}
use Rattle.ledger_steps.specs.Posts.{WaitsFor, kind_for, status_for}
use Rattle.ledger_steps.specs.Steps.{waiting_for}
use Rattle.number_ranges.specs.Intervals.{block_level, is_buffered, with_level}
use Rattle.number_ranges.specs.declared.interval.Interval.{Interval}
use Rattle.record_laws.proofs.Status.{flip}
use Rattle.update_records.specs.Growing.{with_mark}
use Rattle.update_records.specs.Ledger.{Ledger}
use Rattle.update_records.specs.Marks.{has_status, status_of, waiting, waiting_again}
use Rattle.update_records.specs.declared.records.MarkKind.{MarkKind}
use Rattle.update_records.specs.declared.records.MarkKind.TheVariants as mark
use Rattle.order_laws.proofs.OrderLists.{apart, apart_from_order, never, orders_apart, set_other, set_own}
use Rattle.order_laws.proofs.OrdersTold.{IsReached, reached_after, reached_kept, reached_next, within_orders}
use Rattle.order_laws.proofs.UpTold.{of_up, up_if_told}
use Rattle.order_laws.proofs.WorkerAnswers.{take_step}
use Rattle.order_laws.specs.Behind.{IsFresh, is_up}
use Rattle.order_laws.specs.Resting.{GoBeside, OrdersStand, goes_beside, is_by}
use Rattle.ledger_steps.specs.declared.part.Part.{Part}
use Rattle.ledger_steps.specs.Parts.{is_first}

-- the worker has an order for the unit, which waits for this part
record HasOrder (part : Part) (worker : ℕ) (unit : UnitKey) (ledger : Ledger) (orders : List (Option UnitKey)) : Type 0 where
  order : order_of orders worker ≡ Some unit
  waits : WaitsFor part ledger unit

abbrev HasIn : Part → ℕ → UnitKey → State → Type 0
HasIn part worker unit s = HasOrder part worker unit s.stored s.orders

has_itself : (status : Status) → has_status status (Some status) ≡ true
has_itself Open = refl
has_itself Posted = refl
has_itself Bad = refl
has_itself Closed = refl
has_itself Bad2 = refl
has_itself Cancelled = refl

for_part : (part : Part) (worker : ℕ) (unit : UnitKey) (ledger : Ledger) (orders : List (Option UnitKey)) → HasOrder part worker unit ledger orders
    → order_for part ledger orders worker ≡ Some unit
for_part part worker unit ledger orders h =
    let waits : waits_for part ledger unit ≡ true = ap (has_status (status_for part)) h.waits ∙ has_itself (status_for part) in
    ap (λ o. elim o [ None ↦ None | Some key ↦ if waits_for part ledger key then Some key else None ]) h.order
    ∙ ap (λ b. if b then Some unit else None) waits

-- ---- other calls

raised_has : (part : Part) (worker : ℕ) (unit : UnitKey) (ledger : Ledger) (orders : List (Option UnitKey)) (i : Interval) (upto : ℕ)
    → HasOrder part worker unit ledger orders → HasOrder part worker unit (raised_to i upto ledger) orders
raised_has part worker unit ledger orders i upto h =
    let raised = with_intervals (stored_as (with_level (block_level i upto) i) ∷ []) ledger in
    elim (nat_le upto i.level) as (λ b. HasOrder part worker unit (if b then ledger else raised) orders) [
      | true ↦ h
      | false ↦ record { order = h.order; waits = h.waits }
    ]

drawn_has : (part : Part) (worker : ℕ) (unit : UnitKey) (s : State) (x : Session) (i : Interval) (number : ℕ) → HasIn part worker unit s
    → HasIn part worker unit (drawn s x i number)
drawn_has part worker unit s x i number h =
    let t : State = record s { sessions = with_session x.name (with_draw (num_of i number)) s.sessions } in
    let behind : Bool → State = λ b. if b then record t { ranges = handed_out i t.ranges; stored = raised_to i number t.stored } else t in
    elim (is_buffered i) as (λ b. HasIn part worker unit (behind b)) [
      | true ↦ raised_has part worker unit s.stored s.orders i number h
      | false ↦ h
    ]

-- another unit is marked
marked_has : (part : Part) (worker : ℕ) (unit key : UnitKey) (kind : MarkKind) (ledger : Ledger) (orders : List (Option UnitKey)) → same_unit key unit ≡ false
    → HasOrder part worker unit ledger orders → HasOrder part worker unit (with_mark ledger key kind) orders
marked_has part worker unit key kind ledger orders differ h =
    record { order = h.order; waits = marked_other ledger key unit kind differ ∙ h.waits }

waits_not : (part : Part) (status : Status) → (status ≡ Open → ⊥) → (status ≡ Posted → ⊥) → status ≡ status_for part → ⊥
waits_not part status no_open no_posted =
    elim (is_first part) as (λ b. status ≡ (if b then Open else Posted) → ⊥) [ true ↦ no_open | false ↦ no_posted ]

-- a unit of which a part was refused is another one
apart_from_refused : (part : Part) (worker : ℕ) (unit key : UnitKey) (status : Status) (ledger : Ledger) (orders : List (Option UnitKey))
    → (status ≡ Open → ⊥) → (status ≡ Posted → ⊥) → status_in ledger key ≡ Some status → HasOrder part worker unit ledger orders → same_unit key unit ≡ false
apart_from_refused part worker unit key status ledger orders no_open no_posted here h =
    apart_by ledger key unit status (status_for part) here h.waits (waits_not part status no_open no_posted)

abbrev KeepsOrder : Part → ℕ → UnitKey → Call → State → Type 0
KeepsOrder part worker unit call t = is_by worker call ≡ false → HasIn part worker unit t

each-keeps : (part : Part) (worker : ℕ) (unit : UnitKey) (found : Found) (s : State) → s.condition ≡ condition.Up → IsSteady s → AreOrders s.stored s.orders
    → HasIn part worker unit s → OfEach (λ call v. KeepsOrder part worker unit call (judged s v).state) found s
each-keeps part worker unit found s up steady orders h = record {
  refuses = λ call r plain off. h;
  enters = λ name user free off. h;
  logs_off = λ name x at off. h;
  grants = λ name x rs locks at e off. h;
  lowers = λ name x rs at off. h;
  frees = λ name x at off. h;
  converts = λ name x wanted c at e off. h;
  draws = λ name x object nr r at can off. drawn_has part worker unit s x (present s.stored.levels r.interval) _ h;
  reserves = λ name x object nr upto r at can off. raised_has part worker unit s.stored s.orders (present s.stored.levels r.interval) upto h;
  reads = λ name x table key at off. h;
  commits_nothing = λ name x parts stock at off. h;
  commits_numbers = λ name x parts stock at off. record {
    order = h.order;
    waits = numbers_leave s.stored (unit_key s.stored.start x) unit (x.draws ++ stock) ∙ h.waits;
  };
  commits = λ name x parts stock at off.
      let key = unit_key s.stored.start x in
      let new = open_unheard s name x at steady.fresh in
      record {
        order = h.order;
        waits = recorded_other s.stored (unit_of s.stored.start s.locks x parts (x.draws ++ stock)) unit new
            (flip key unit (apart_by_status s.stored unit key (status_for part) h.waits new))
            ∙ h.waits;
      };
  rolls_back = λ name x at off. h;
  takes = λ other some key free e off. record { order = set_other s.orders other worker (Some key) (apart other worker off) ∙ h.order; waits = h.waits };
  posts = λ other some key e off.
      let differ : other ≢ worker = apart other worker off in
      let held = (held_for some s.stored (order_of s.orders other) key e).0 in
      let kind = kind_for some (found.part some key) in
      let two = orders_apart s.stored s.orders other worker key unit orders differ held h.order in
      record {
        order = set_other s.orders other worker None differ ∙ h.order;
        waits = marked_other s.stored key unit kind two ∙ h.waits;
      };
  drops = λ other key e off. record { order = set_other s.orders other worker None (apart other worker off) ∙ h.order; waits = h.waits };
  kills = λ was off. h;
  fails_over = λ can off. h;
  strays = λ first second none off. h;
  attaches = λ was off. h;
  restarts = λ down off. absurd (down up);
  cancels = λ key status can off.
      let free = unclaimed s.orders key can.free in
      marked_has part worker unit key mark.Gone s.stored s.orders (flip key unit (apart_from_order s.orders worker unit key h.order free)) h;
  reopens = λ key es here stand off.
      marked_has part worker unit key mark.Again1 s.stored s.orders
      (apart_from_refused part worker unit key Bad s.stored s.orders (λ e. cc) (λ e. cc) here h) h;
  reposts = λ key here off.
      marked_has part worker unit key mark.Again2 s.stored s.orders
      (apart_from_refused part worker unit key Bad2 s.stored s.orders (λ e. cc) (λ e. cc) here h) h;
}

abbrev KeepsWhileUp : Part → ℕ → UnitKey → Served → Type 0
KeepsWhileUp part worker unit r = r.state.condition ≡ condition.Up → HasIn part worker unit r.state

recalled_keeps : (part : Part) (worker : ℕ) (unit : UnitKey) (s : State) (m : Made) → IsReached s → s.condition ≡ condition.Up
    → is_by worker (call_of m.call.command) ≡ false → HasIn part worker unit s → KeepsWhileUp part worker unit (again s m)
recalled_keeps part worker unit s m reached up off h =
    let c = m.call.command in
    let call = call_of c in
    let steady = reached.all.holds.steady in
    let orders : AreOrders s.stored s.orders = subst (λ k. OutsideDoubt k (AreOrders s.stored s.orders)) up steady.orders in
    let each : (found : Found) → OfEach (λ call v. KeepsOrder part worker unit call (judged s v).state) found s =
    λ found. each-keeps part worker unit found s up steady orders h in
    let Q : Served → Type 0 = KeepsWhileUp part worker unit in
    let k : Q (served m.outcome s c) =
    by_event Q m.outcome s c (λ lost done k. k)
    (λ found on. by_call (λ call v. KeepsOrder part worker unit call (judged s v).state) found s (each found) call off)
    (λ on. h) (λ on. h) (λ reading on. absurd (never (ap is_up on))) (λ reading on. absurd (never (ap is_up on))) (λ read r on. absurd (never (ap is_up on))) in
    by_noting Q m.call.line c (takes_flight m.outcome) (served m.outcome s c) k k

-- as the entry says, the server is up behind the call
up_behind_call : (s : State) (m : Made) → IsModelAnswer s m → is_up m.call.after.condition ≡ true → (recalled s m).condition ≡ condition.Up
up_behind_call s m answer on = of_up (recalled s m).condition (sym (ap (λ (a : After). is_up a.condition) answer.after) ∙ on)

not_so : (b : Bool) → not b ≡ true → b ≡ false
not_so true h = absurd (never h)
not_so false h = refl

stands : (part : Part) (worker : ℕ) (unit : UnitKey) (s : State) (made : List Made) → AnswersFrom s made → IsReached s → s.condition ≡ condition.Up
    → GoBeside worker (calls_of made) → HasIn part worker unit s → HasIn part worker unit (state_after s made)
stands part worker unit s [] answers reached up beside h = h
stands part worker unit s (m ∷ ms) answers reached up beside h =
    let both = and_parts (goes_beside worker m.call) _ beside in
    let here = and_parts (not (is_by worker (call_of m.call.command))) (is_up m.call.after.condition) both.0 in
    let on = up_behind_call s m answers.0 here.1 in
    stands part worker unit (recalled s m) ms answers.1 (reached_next s m answers.0 reached) on both.1
    (recalled_keeps part worker unit s m reached up (not_so (is_by worker (call_of m.call.command)) here.0) h on)

-- ---- the take

-- the unit that is offered for a part waits for it
first_waits : (part : Part) (ledger : Ledger) (orders : List (Option UnitKey)) (unit : UnitKey) → first_unclaimed orders (waiting_for part ledger) ≡ Some unit
    → WaitsFor part ledger unit
first_waits part ledger orders unit =
    let p : UnitKey → Bool = λ u. not (is_claimed orders u) in
    let units = ledger.units in
    let marks = ledger.marks in
    elim (is_first part) as (λ b. first_unclaimed orders (if b then waiting units marks else waiting_again units marks) ≡ Some unit
    → status_of units marks unit ≡ Some (if b then Open else Posted)) [
      | true ↦ λ e. (found_all (Ends units marks Open) p (waiting units marks) unit e (ends_with Open units marks)).0 None
      | false ↦ λ e. (found_all (Ends units marks Posted) p (waiting_again units marks) unit e (ends_with Posted units marks)).0 None
    ]

-- the server is up, and the worker has the order
record Begins (part : Part) (worker : ℕ) (unit : UnitKey) (t : State) : Type 0 where
  up : t.condition ≡ condition.Up
  has : HasOrder part worker unit t.stored t.orders

abbrev BeginsIf : Part → ℕ → UnitKey → Served → Type 0
BeginsIf part worker unit r = r.reply ≡ reply.Unit unit → Begins part worker unit r.state

refused_none : (unit : UnitKey) (r : Refusal) → reply.Refused r ≡ reply.Unit unit → ⊥
refused_none unit r e = cc

same_unit_told : (a b : UnitKey) → reply.Unit a ≡ reply.Unit b → a ≡ b
same_unit_told a b e = cc

take_begins : (part : Part) (worker : ℕ) (unit : UnitKey) (s : State) (m : Made) → IsReached s → worker < 256 → s.condition ≡ condition.Up → IsModelAnswer s m
    → call_of m.call.command ≡ OfWorker worker (Takes part) → m.call.reply ≡ reply.Unit unit → Begins part worker unit (recalled s m)
take_begins part worker unit s m reached few up answer is told =
    take_step (BeginsIf part worker unit) m.outcome s m.call.line m.call.command worker part up is answer.allowed.possible (record {
      full = λ e. absurd (refused_none unit _ e);
      busy = λ key has e. absurd (refused_none unit _ e);
      idle = λ free none e. absurd (refused_none unit _ e);
      takes = λ key free some e. record {
        up = up;
        has = record {
          order = set_own s.orders worker (Some key) (within_orders s worker reached few) ∙ ap Some (same_unit_told key unit e);
          waits = subst (WaitsFor part s.stored) (same_unit_told key unit e) (first_waits part s.stored s.orders key some);
        };
      };
    }) (answer.reply ∙ told)

-- ---- whole histories

pub orders_stand : (first : State) (made : List Made) → IsFresh first → AreModelAnswers first made → OrdersStand first made
orders_stand first made fresh answers earlier between later m worker part unit whole few up is told beside =
    let s = state_after first earlier in
    let t = recalled s m in
    let now = state_after first (earlier ++ m ∷ between) in
    let before = answers_before first made earlier (m ∷ (between ++ later)) answers whole in
    let reached = reached_after first earlier before (reached_kept first fresh.kept) in
    let answer = answers earlier (between ++ later) m whole in
    let begins = take_begins part worker unit s m reached few (up_if_told first earlier before fresh.up up) answer is told in
    let behind = answers_behind first made earlier between later m answers whole in
    for_part part worker unit now.stored now.orders
    (subst (HasIn part worker unit) (sym (fold-append recalled first earlier (m ∷ between)))
    (stands part worker unit t between behind (reached_next s m answer reached) begins.up beside begins.has))
