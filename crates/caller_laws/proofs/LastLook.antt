-- Behind a last look of a worker no unit waits.
use Rattle.std.proofs.Common.{◌≡◌, inl, inr, ℕ, ◌<◌, Bool, true, false, cond, List, [], ◌∷◌, ◌++◌, append_assoc, map, refl, sym, ap, ◌∙◌, subst}
use Rattle.std.specs.Prelude.{◌||◌, None}
use Rattle.std.specs.List.{filter, list_any}
use Rattle.std.proofs.lemmas.Bool.{or_from}
use Rattle.std.proofs.lemmas.List.{map-append, same_from_push}
use Rattle.std.proofs.lemmas.List.Folds.{list_any-append}
use Rattle.std.proofs.lemmas.List.Sums.{fold-append}
use Rattle.enq_base.specs.declared.condition.Condition.TheVariants as condition
use Rattle.enq_base.specs.declared.refusal.Refusal.TheVariants as refusal
use Rattle.hall_model.specs.Calls.{call_of, post_of, take_of}
use Rattle.hall_model.specs.History.{IsStep, Served, after_of, entry_of, takes_flight}
use Rattle.hall_model.specs.Orders.{first_unclaimed, order_of}
use Rattle.hall_model.specs.Recall.{AreModelAnswers, IsModelAnswer, Made, calls_of, recalled, state_after}
use Rattle.hall_model.specs.State.{State}
use Rattle.hall_model.specs.declared.command.Command.{Command}
use Rattle.hall_model.specs.declared.command.Command.TheVariants as command
use Rattle.hall_model.specs.declared.command.PastEntry.{PastEntry}
use Rattle.hall_model.specs.declared.command.Reply.{Reply}
use Rattle.hall_model.specs.declared.command.Reply.TheVariants as reply
use Rattle.hall_model.specs.declared.command.Who.TheVariants as caller
use Rattle.hall_laws.proofs.histories.NotedSteps.{AnswersFrom}
use Rattle.ledger_steps.specs.Steps.{waiting_for}
use Rattle.caller_laws.specs.Callers.{AreTheirs, is_by}
use Rattle.order_laws.proofs.OrdersTold.{orders_are_told}
use Rattle.order_laws.proofs.Rested.{none_waits_behind}
use Rattle.order_laws.proofs.UpTold.{all_answers, steady_up}
use Rattle.order_laws.proofs.WorkerAnswers.{idle_take}
use Rattle.order_laws.specs.Behind.{IsFresh, StaysUp, order_after}
use Rattle.order_laws.specs.Resting.{AllRestBehind, FindsNone, NoneOffers, NoneWaits, offers}
use Rattle.order_workers.specs.Orders.{Goes, Begins, Does, Turns, Leads, Stays, Then, Rests, is_idle, other}
use Rattle.order_workers.specs.Orders.{IsIdle as FoundNone}
use Rattle.order_workers.specs.Orders.{Made as MadeByWorker}
use Rattle.ledger_steps.specs.declared.part.Part.{Part}
use Rattle.ledger_steps.specs.declared.part.Part.TheVariants.{V1, V2}
use Rattle.caller_laws.specs.Rest.{BeganAt, IsIdle, LeadsState, RestedAlone, WentWell}
use Rattle.caller_laws.proofs.Histories.{answers_all, answers_first, answers_more, answers_on, answers_rest, calm_too}
use Rattle.caller_laws.proofs.LastCalls.{goes_free, never, none_stays}
use Rattle.caller_laws.proofs.Splits.{headed, mapped_none, no_push, split}
use Rattle.model_laws.proofs.PartOrders.{take_is}

-- ---- the calls of the last look, as the model answers them

-- what is asked and answered
pub record Asked : Type 0 where
  pub command : Command
  pub reply : Reply

abbrev pub asked_in : Made → Asked
asked_in m = record { command = m.call.command; reply = m.call.reply }

abbrev pub asked_by : MadeByWorker → Asked
asked_by m = record { command = m.command; reply = m.reply }

-- calls from one state to another that ask and answer this
pub record LedBy (s t : State) (asked : List Asked) : Type 0 where
  pub made : List Made
  pub answers : AnswersFrom s made
  pub state : t ≡ state_after s made
  pub same : map asked_in made ≡ asked

abbrev step_made : (s t : State) (c : Command) (r : Reply) → IsStep s t 0 c r → Made
step_made s t c r h = record { call = entry_of 0 c r (after_of (takes_flight h.outcome) t); outcome = h.outcome }

step_answer : (s t : State) (c : Command) (r : Reply) (h : IsStep s t 0 c r) → IsModelAnswer s (step_made s t c r h)
step_answer s t c r h = record {
  who = refl;
  reply = sym (ap (λ (x : Served). x.reply) h.same);
  after = ap (λ (x : Served). after_of (takes_flight h.outcome) x.state) h.same;
  allowed = h.allowed;
}

led_more : (s t u : State) (asked : List Asked) (c : Command) (r : Reply) → LedBy s t asked → IsStep t u 0 c r
    → LedBy s u (asked ++ record { command = c; reply = r } ∷ [])
led_more s t u asked c r led h =
    let at : IsStep (state_after s led.made) u 0 c r = subst (λ x. IsStep x u 0 c r) led.state h in
    let m = step_made (state_after s led.made) u c r at in
    record {
      made = led.made ++ m ∷ [];
      answers = answers_more s led.made m led.answers (step_answer (state_after s led.made) u c r at);
      state = ap (λ (x : Served). x.state) at.same ∙ sym (fold-append recalled s led.made (m ∷ []));
      same = map-append asked_in led.made (m ∷ []) ∙ ap (λ asks. asks ++ asked_in m ∷ []) led.same;
    }

led_by : (s t : State) (calls : List MadeByWorker) → Leads LeadsState s calls t → LedBy s t (map asked_by calls)
led_by s t calls (Stays k) = record { made = []; answers = tt; state = refl; same = refl }
led_by s t calls (Then k l n cs m leads one) =
    subst (LedBy k n) (sym (map-append asked_by cs (m ∷ []))) (led_more k l n (map asked_by cs) m.command m.reply (led_by k l cs leads) one)

-- ---- takes and posts offer nothing

abbrev asked_offers : Asked → Bool
asked_offers a = offers (call_of a.command) a.reply

offers_told : (made : List Made) → list_any (λ (call : PastEntry). offers (call_of call.command) call.reply) (calls_of made)
    ≡ list_any asked_offers (map asked_in made)
offers_told [] = refl
offers_told (m ∷ ms) = ap (λ b. offers (call_of m.call.command) m.call.reply || b) (offers_told ms)

take_offers_none : (part : Part) (w : ℕ) (r : Reply) → offers (call_of (take_of part w)) r ≡ false
take_offers_none V1 w r = refl
take_offers_none V2 w r = refl

post_offers_none : (part : Part) (w : ℕ) (r : Reply) → offers (call_of (post_of part w)) r ≡ false
post_offers_none V1 w r = refl
post_offers_none V2 w r = refl

taken_offers : (w : ℕ) (part : Part) (made : List Made) (take : MadeByWorker) → take.command ≡ take_of part w → map asked_in made ≡ asked_by take ∷ []
    → NoneOffers (calls_of made)
taken_offers w part made take at e =
    offers_told made ∙ ap (list_any asked_offers) e
    ∙ or_from _ _ (ap (λ c. offers (call_of c) take.reply) at ∙ take_offers_none part w take.reply) refl

done_offers : (w : ℕ) (part : Part) (made : List Made) (take post : MadeByWorker) → take.command ≡ take_of part w → post.command ≡ post_of part w
    → map asked_in made ≡ asked_by take ∷ asked_by post ∷ [] → NoneOffers (calls_of made)
done_offers w part made take post at next e =
    offers_told made ∙ ap (list_any asked_offers) e
    ∙ or_from _ _ (ap (λ c. offers (call_of c) take.reply) at ∙ take_offers_none part w take.reply)
    (or_from _ _ (ap (λ c. offers (call_of c) post.reply) next ∙ post_offers_none part w post.reply) refl)

offers_more : (xs ys : List Made) → NoneOffers (calls_of xs) → NoneOffers (calls_of ys) → NoneOffers (calls_of (xs ++ ys))
offers_more xs ys h k =
    let offering : PastEntry → Bool = λ (call : PastEntry). offers (call_of call.command) call.reply in
    ap (list_any offering) (map-append (λ (m : Made). m.call) xs ys)
    ∙ list_any-append offering (calls_of xs) (calls_of ys)
    ∙ or_from _ _ h k

-- ---- a look that finds none

told_idle : (r : Reply) → is_idle r ≡ true → r ≡ reply.Refused refusal.Idle
told_idle (reply.Refused refusal.Idle) h = refl
told_idle _ h = absurd (never h)

-- a call of the history as a step
as_step : (s : State) (m : Made) (r : Reply) → IsModelAnswer s m → m.call.reply ≡ r → IsStep s (recalled s m) m.call.line m.call.command r
as_step s m r answer e = record {
  outcome = m.outcome;
  allowed = answer.allowed;
  same = ap (λ x. record { state = recalled s m; reply = x }) (sym (answer.reply ∙ e));
}

found_none : (s : State) (m : Made) (w : ℕ) (part : Part) (take : MadeByWorker) → s.condition ≡ condition.Up → IsModelAnswer s m
    → asked_in m ≡ asked_by take → FoundNone w part take → FindsNone s (recalled s m) w part
found_none s m w part take up answer e idle =
    let told = ap (λ (a : Asked). a.reply) e ∙ told_idle take.reply idle.1 in
    idle_take s (recalled s m) m.call.line m.call.command w part up
    (ap (λ (a : Asked). call_of a.command) e ∙ ap call_of idle.0 ∙ take_is part w) (as_step s m _ answer told)

-- ---- V1 orders

abbrev NoneToTake : Part → State → Type 0
NoneToTake part s = first_unclaimed s.orders (waiting_for part s.stored) ≡ None

-- at some place of these calls there was no V1 order to take, and those behind it offer no unit for one
pub record Emptied (s : State) (made : List Made) : Type 0 where
  pub earlier : List Made
  pub later : List Made
  pub whole : made ≡ earlier ++ later
  pub none : NoneToTake V1 (state_after s earlier)
  pub offered : NoneOffers (calls_of later)

-- where V2 orders are taken next
abbrev IfSecond : Part → State → List Made → Type 0
IfSecond V1 s made = Unit {0}
IfSecond V2 s made = Emptied s made

emptied_more : (s : State) (front back : List Made) → NoneOffers (calls_of back) → Emptied s front → Emptied s (front ++ back)
emptied_more s front back none h = record {
  earlier = h.earlier;
  later = h.later ++ back;
  whole = ap (λ ms. ms ++ back) h.whole ∙ append_assoc h.earlier h.later back;
  none = h.none;
  offered = offers_more h.later back h.offered none;
}

if_more : (part : Part) (s : State) (front back : List Made) → NoneOffers (calls_of back) → IfSecond part s front → IfSecond part s (front ++ back)
if_more V1 s front back none h = tt
if_more V2 s front back none h = emptied_more s front back none h

if_turned : (part : Part) (s : State) (front back : List Made) → NoneToTake part (state_after s front) → NoneOffers (calls_of back)
    → IfSecond (other part) s (front ++ back)
if_turned V1 s front back none offered = record { earlier = front; later = back; whole = refl; none = none; offered = offered }
if_turned V2 s front back none offered = tt

abbrev IsUp : State → List Made → Type 0
IsUp s made = (earlier later : List Made) → made ≡ earlier ++ later → (state_after s earlier).condition ≡ condition.Up

up_first : (s : State) (front back : List Made) → IsUp s (front ++ back) → IsUp s front
up_first s front back up earlier later e = up earlier (later ++ back) (ap (λ ms. ms ++ back) e ∙ append_assoc earlier later back)

-- calls that the model answers as the worker was answered, with the server up
pub record Follows (s : State) (made : List Made) (calls : List MadeByWorker) : Type 0 where
  pub answers : AnswersFrom s made
  pub up : IsUp s made
  pub same : map asked_in made ≡ map asked_by calls

follows_first : (s : State) (made front back : List Made) (cs : List MadeByWorker) (calls : List MadeByWorker) → made ≡ front ++ back
    → map asked_in front ≡ map asked_by cs → Follows s made calls → Follows s front cs
follows_first s made front back cs calls whole same h = record {
  answers = answers_first s front back (subst (AnswersFrom s) whole h.answers);
  up = up_first s front back (subst (IsUp s) whole h.up);
  same = same;
}

-- the last of them
pub record FollowsLast (s : State) (made : List Made) (cs : List MadeByWorker) (m : MadeByWorker) : Type 0 where
  pub front : List Made
  pub last : Made
  pub whole : made ≡ front ++ last ∷ []
  pub follows : Follows s front cs
  pub is : asked_in last ≡ asked_by m
  pub answer : IsModelAnswer (state_after s front) last
  pub up : (state_after s front).condition ≡ condition.Up

follows_last : (s : State) (made : List Made) (cs : List MadeByWorker) (m : MadeByWorker) → Follows s made (cs ++ m ∷ []) → FollowsLast s made cs m
follows_last s made cs m h =
    let parts = split asked_in made (map asked_by cs) (asked_by m ∷ []) (h.same ∙ map-append asked_by cs (m ∷ [])) in
    let one = headed asked_in parts.back (asked_by m) [] parts.last in
    let alone : parts.back ≡ one.head ∷ [] = one.same ∙ ap (λ ms. one.head ∷ ms) (mapped_none asked_in one.rest one.last) in
    let whole : made ≡ parts.front ++ one.head ∷ [] = parts.same ∙ ap (λ ms. parts.front ++ ms) alone in
    record {
      front = parts.front;
      last = one.head;
      whole = whole;
      follows = follows_first s made parts.front (one.head ∷ []) cs (cs ++ m ∷ []) whole parts.first h;
      is = one.first;
      answer = (answers_rest s parts.front (one.head ∷ []) (subst (AnswersFrom s) whole h.answers)).0;
      up = h.up parts.front (one.head ∷ []) whole;
    }

last_offers : (s : State) (made : List Made) (cs : List MadeByWorker) (m : MadeByWorker) (w : ℕ) (part : Part) → m.command ≡ take_of part w
    → (h : FollowsLast s made cs m) → NoneOffers (calls_of (h.last ∷ []))
last_offers s made cs m w part at h = taken_offers w part (h.last ∷ []) m at (ap (λ a. a ∷ []) h.is)

none_at : (s : State) (made : List Made) (cs : List MadeByWorker) (m : MadeByWorker) (w : ℕ) (part : Part) → FoundNone w part m
    → (h : FollowsLast s made cs m) → FindsNone (state_after s h.front) (recalled (state_after s h.front) h.last) w part
none_at s made cs m w part idle h = found_none (state_after s h.front) h.last w part m h.up h.answer h.is idle

pub goes_emptied : (w : ℕ) (calls : List MadeByWorker) (part : Part) → Goes w calls part → (s : State) (made : List Made) → Follows s made calls
    → IfSecond part s made
goes_emptied w calls part Begins s made h = tt
goes_emptied w calls part (Does cs p take post g taken posted up) s made h =
    let parts = split asked_in made (map asked_by cs) (asked_by take ∷ asked_by post ∷ []) (h.same ∙ map-append asked_by cs (take ∷ post ∷ [])) in
    let front = follows_first s made parts.front parts.back cs (cs ++ take ∷ post ∷ []) parts.same parts.first h in
    subst (IfSecond p s) (sym parts.same)
    (if_more p s parts.front parts.back (done_offers w p parts.back take post taken.0 posted.0 parts.last) (goes_emptied w cs p g s parts.front front))
goes_emptied w calls part (Turns cs p take g idle) s made h =
    let last = follows_last s made cs take h in
    subst (IfSecond (other p) s) (sym last.whole)
    (if_turned p s last.front (last.last ∷ []) (none_at s made cs take w p idle last).none (last_offers s made cs take w p idle.0 last))

-- ---- the last take

take1_not_take2 : (w : ℕ) → command.Take1 w ≡ command.Take2 w → ⊥
take1_not_take2 w e = cc

post_no_take : (part : Part) (w : ℕ) → post_of part w ≡ command.Take2 w → ⊥
post_no_take V1 w e = cc
post_no_take V2 w e = cc

second_take : (w : ℕ) (part : Part) (calls : List MadeByWorker) → take_of part w ≡ command.Take2 w → Goes w calls part → Goes w calls V2
second_take w V1 calls e g = absurd (take1_not_take2 w e)
second_take w V2 calls e g = g

-- a worker whose last call took V2 orders was at that before
last_turn : (w : ℕ) (calls : List MadeByWorker) (part : Part) → Goes w calls part → (before : List MadeByWorker) (take : MadeByWorker)
    → calls ≡ before ++ take ∷ [] → take.command ≡ command.Take2 w → Goes w before V2
last_turn w calls part Begins before take e at = absurd (no_push before take e)
last_turn w calls part (Does cs p one post g taken posted up) before take e at =
    let same = same_from_push (cs ++ one ∷ []) before post take (append_assoc cs (one ∷ []) (post ∷ []) ∙ e) in
    absurd (post_no_take p w (sym posted.0 ∙ ap (λ (m : MadeByWorker). m.command) same.1 ∙ at))
last_turn w calls part (Turns cs p one g idle) before take e at =
    let same = same_from_push cs before one take e in
    subst (λ xs. Goes w xs V2) same.0 (second_take w p cs (sym idle.0 ∙ ap (λ (m : MadeByWorker). m.command) same.1 ∙ at) g)

-- ---- workers that make no calls any more

none_filtered : (p : PastEntry → Bool) (es : List PastEntry) → filter p es ≡ [] → list_any p es ≡ false
none_filtered p [] h = refl
none_filtered p (e ∷ es) h =
    elim (p e) as (λ b. cond b (e ∷ filter p es) (filter p es) ≡ [] → (b || list_any p es) ≡ false) [
      | true ↦ λ some. absurd (some_left e (filter p es) some)
      | false ↦ λ none. none_filtered p es none
    ] h
  where
    some_left : (x : PastEntry) (xs : List PastEntry) → x ∷ xs ≡ [] → ⊥
    some_left x xs e = cc

idle_free : (past : List PastEntry) (v : ℕ) → AreTheirs past → IsIdle past v → order_after v past ≡ None
idle_free past v theirs (inl none) = none_stays v past theirs (none_filtered (is_by (caller.Worker v)) past none)
idle_free past v theirs (inr did) = goes_free v did.calls V1 did.ended.goes past theirs did.seen

-- ---- no unit waits

-- behind calls of a worker alone that looked for V2 orders last, from a state to which calls led
module _ (first s t : State) (before : List Made) (fresh : IsFresh first) (from : AnswersFrom first before) (at : s ≡ state_after first before)
    (w : ℕ) (calls : List MadeByWorker) (rests : Rests w calls) (led : LedBy s t (map asked_by calls)) where
  abbrev whole : List Made
  whole = before ++ led.made

  whole_answers : AnswersFrom first whole
  whole_answers = answers_on first before led.made from (subst (λ x. AnswersFrom x led.made) at led.answers)

  whole_state : (more : List Made) → state_after first (before ++ more) ≡ state_after s more
  whole_state more = fold-append recalled first before more ∙ ap (λ x. state_after x more) (sym at)

  whole_ends : state_after first whole ≡ t
  whole_ends = whole_state led.made ∙ sym led.state

  module _ (up : StaysUp first whole) (free : (worker : ℕ) → worker < 256 → order_of t.orders worker ≡ None) where
    all_up : IsUp s led.made
    all_up earlier later e =
        subst (λ x. x.condition ≡ condition.Up) (whole_state earlier)
        (up (before ++ earlier) later (ap (λ ms. before ++ ms) e ∙ sym (append_assoc before earlier later)))

    followed : Follows s led.made (rests.before ++ rests.take ∷ [])
    followed = record { answers = led.answers; up = all_up; same = led.same ∙ ap (map asked_by) rests.all }

    last : FollowsLast s led.made rests.before rests.take
    last = follows_last s led.made rests.before rests.take followed

    looked : FindsNone (state_after s last.front) (recalled (state_after s last.front) last.last) w V2
    looked = none_at s led.made rests.before rests.take w V2 rests.idle last

    emptied : Emptied s led.made
    emptied =
        subst (Emptied s) (sym last.whole)
        (emptied_more s last.front (last.last ∷ []) (last_offers s led.made rests.before rests.take w V2 rests.idle.0 last)
        (goes_emptied w rests.before V2 (last_turn w calls V1 rests.goes rests.before rests.take rests.all rests.idle.0) s last.front last.follows))

    -- nothing changed in the last look
    ends_same : t ≡ state_after s last.front
    ends_same = led.state ∙ ap (state_after s) last.whole ∙ fold-append recalled s last.front (last.last ∷ []) ∙ looked.same

    parted : whole ≡ (before ++ emptied.earlier) ++ emptied.later
    parted = ap (λ ms. before ++ ms) emptied.whole ∙ sym (append_assoc before emptied.earlier emptied.later)

    free_behind : (worker : ℕ) → worker < 256 → order_after worker (calls_of whole) ≡ None
    free_behind worker few =
        sym (orders_are_told first whole worker fresh (answers_all first whole whole_answers) few)
        ∙ ap (λ (x : State). order_of x.orders worker) whole_ends
        ∙ free worker few

    rest : AllRestBehind first (before ++ emptied.earlier) emptied.later
    rest = record {
      first_none = subst (NoneToTake V1) (sym (whole_state emptied.earlier)) emptied.none;
      offered = emptied.offered;
      second_none =
          subst (NoneToTake V2) (sym (ap (state_after first) (sym parted) ∙ whole_ends ∙ ends_same)) looked.none;
      free = λ worker few. subst (λ ms. order_after worker (calls_of ms) ≡ None) parted (free_behind worker few);
    }

    pub none_waits : NoneWaits t
    none_waits =
        subst NoneWaits (ap (state_after first) (sym parted) ∙ whole_ends)
        (none_waits_behind first (before ++ emptied.earlier) emptied.later fresh
        (subst (AreModelAnswers first) parted (answers_all first whole whole_answers)) rest)

-- a worker looked last, alone, and all workers made their last calls
pub none_waits_rested : (first : State) (made : List Made) (w : ℕ) (s : State) → WentWell first made → AreTheirs (calls_of made)
    → RestedAlone w s (state_after first made) → BeganAt first s → ((v : ℕ) → v < 256 → IsIdle (calls_of made) v)
    → NoneWaits (state_after first made)
none_waits_rested first made w s well theirs alone began idle =
    let t = state_after first made in
    let from = all_answers first began.0 began.1 in
    let led = led_by s t alone.calls alone.leads in
    let all = whole first s t began.0 well.fresh from began.2 w alone.calls alone.rests led in
    let answers = whole_answers first s t began.0 well.fresh from began.2 w alone.calls alone.rests led in
    let ends = whole_ends first s t began.0 well.fresh from began.2 w alone.calls alone.rests led in
    let calm = calm_too first made all well.none (all_answers first made well.answers) answers ends well.calm in
    none_waits first s t began.0 well.fresh from began.2 w alone.calls alone.rests led
    (steady_up first all well.fresh (answers_all first all answers) calm)
    (λ v few. orders_are_told first made v well.fresh well.answers few ∙ idle_free (calls_of made) v theirs (idle v few))
