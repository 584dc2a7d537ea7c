-- What a worker's call is answered while the server is up.
use Rattle.std.proofs.Common.{◌≡◌, ℕ, Bool, true, false, ◌&&◌, ◌||◌, refl, sym, ap, ◌∙◌, subst}
use Rattle.std.specs.Prelude.{if◌then◌else◌, Option, Some, None}
use Rattle.std.proofs.lemmas.Bool.{or_parts}
use Rattle.enq_base.specs.declared.condition.Condition.TheVariants as condition
use Rattle.enq_base.specs.declared.owner.UnitKey.{UnitKey}
use Rattle.enq_base.specs.declared.refusal.Refusal.{Refusal}
use Rattle.enq_base.specs.declared.refusal.Refusal.TheVariants as refusal
use Rattle.model_laws.proofs.ByCall.{by_room}
use Rattle.model_laws.proofs.NotedCalls.{by_noting, of_server}
use Rattle.hall_model.specs.Calls.{Call, OfWorker, WorkerCall, Takes, Posts, call_of}
use Rattle.hall_model.specs.Devices.{DeviceOutcome, Event, AllWell, Wanting, StoreFails, BackupFails, LinkFails, NotRemade, IsPossible, MayHappen, MayLose, MayLoseIn, found_by}
use Rattle.hall_model.specs.History.{IsStep, Served, ends_in, judged, losing, noted, served, step, takes_flight}
use Rattle.hall_model.specs.Orders.{first_unclaimed, order_for, order_of}
use Rattle.hall_model.specs.Recall.{IsModelAnswer, Made}
use Rattle.hall_model.specs.State.{State}
use Rattle.hall_model.specs.Step.{Found, Verdict, Refuses, Leaves, call_verdict, down_refusal, is_full, or_else, posted_reply, posting, server_refusal, taken}
use Rattle.hall_model.specs.Step.{taking, unless_refused, with_room, worker_call}
use Rattle.hall_model.specs.declared.command.Command.{Command}
use Rattle.hall_model.specs.declared.command.PastEntry.{PastEntry}
use Rattle.hall_model.specs.declared.command.Reply.TheVariants as reply
use Rattle.ledger_steps.specs.Steps.{waiting_for}
use Rattle.ledger_steps.specs.declared.step.Outcome.{Outcome}
use Rattle.ledger_steps.specs.declared.step.Outcome.TheVariants as outcome
use Rattle.order_laws.proofs.OrderLists.{never, or_no}
use Rattle.order_laws.specs.Behind.{ends_server, goes_wrong, is_no_memory, is_post, is_trouble, wants}
use Rattle.order_laws.specs.Resting.{FindsNone, is_done_unless, may_refuse_post, may_refuse_take}
use Rattle.ledger_steps.specs.declared.part.Part.{Part}
use Rattle.ledger_steps.specs.Parts.{is_first}

-- ---- a worker's call

-- it is served, unless the history is full
by_up : (Q : Verdict → Type 0) (found : Found) (s : State) (worker : ℕ) (call : WorkerCall) → s.condition ≡ condition.Up → Q (Refuses refusal.LogFull)
    → Q (worker_call found s worker call) → Q (call_verdict found s (OfWorker worker call))
unfolding call_verdict
by_up Q found s worker call up full own =
    let c = OfWorker worker call in
    let own_verdict = worker_call found s worker call in
    subst (λ k. Q (unless_refused (or_else (if is_full s then Some refusal.LogFull else down_refusal k c) (or_else None (server_refusal k c))) own_verdict))
    (sym up)
    (elim (is_full s) as (λ b. Q (unless_refused (or_else (if b then Some refusal.LogFull else None) (or_else None None)) own_verdict)) [
      | true ↦ full
      | false ↦ own
    ])

-- ---- takes

-- what holds of each answer that a take may get
pub record OfTake (Q : Verdict → Type 0) (s : State) (worker : ℕ) (part : Part) : Type 0 where
  pub full : Q (Refuses refusal.LogFull)
  pub busy : (unit : UnitKey) → order_of s.orders worker ≡ Some unit → Q (Refuses (refusal.WorkerBusy unit))
  pub idle : order_of s.orders worker ≡ None → first_unclaimed s.orders (waiting_for part s.stored) ≡ None → Q (Refuses refusal.Idle)
  pub takes : (unit : UnitKey) → order_of s.orders worker ≡ None → first_unclaimed s.orders (waiting_for part s.stored) ≡ Some unit
      → Q (Leaves (taken s worker unit) (reply.Unit unit))

by_offer : (Q : Verdict → Type 0) (s : State) (worker : ℕ) (part : Part) (o : Option UnitKey) → first_unclaimed s.orders (waiting_for part s.stored) ≡ o
    → order_of s.orders worker ≡ None → OfTake Q s worker part → Q (taking s worker o)
by_offer Q s worker part None none free each = each.idle free none
by_offer Q s worker part (Some unit) some free each = each.takes unit free some

by_order : (Q : Verdict → Type 0) (s : State) (worker : ℕ) (part : Part) (o : Option UnitKey) → order_of s.orders worker ≡ o → OfTake Q s worker part
    → Q (elim o [ Some unit ↦ Refuses (refusal.WorkerBusy unit) | None ↦ taking s worker (first_unclaimed s.orders (waiting_for part s.stored)) ])
by_order Q s worker part None free each = by_offer Q s worker part (first_unclaimed s.orders (waiting_for part s.stored)) refl free each
by_order Q s worker part (Some unit) has each = each.busy unit has

by_take : (Q : Verdict → Type 0) (found : Found) (s : State) (worker : ℕ) (part : Part) → s.condition ≡ condition.Up → OfTake Q s worker part
    → Q (call_verdict found s (OfWorker worker (Takes part)))
by_take Q found s worker part up each =
    by_up Q found s worker (Takes part) up each.full (by_order Q s worker part (order_of s.orders worker) refl each)

-- no device fails in a take
take_well : (e : Event) (s : State) (worker : ℕ) (part : Part) (v : Verdict) → MayHappen e s (OfWorker worker (Takes part)) v → e ≡ AllWell
take_well AllWell s worker part v may = refl
take_well Wanting s worker part v may = absurd (never may.1)
take_well StoreFails s worker part v may = absurd (never may.1)
take_well BackupFails s worker part v may = absurd (never may.1)
take_well LinkFails s worker part v may = absurd (never may.1)
take_well (NotRemade fault) s worker part v may = absurd (never may.1)

-- and no replica is lost
never_lost : (e : Event) (s : State) (worker : ℕ) (part : Part) (v : Verdict) → MayLoseIn e s (OfWorker worker (Takes part)) v → ⊥
never_lost AllWell s worker part v may = never may.0
never_lost Wanting s worker part v may = may
never_lost StoreFails s worker part v may = may
never_lost BackupFails s worker part v may = may
never_lost LinkFails s worker part v may = may
never_lost (NotRemade fault) s worker part v may = may

take_follows : (lost : Bool) (e : Event) (s : State) (worker : ℕ) (part : Part) (v : Verdict) → MayLose lost e s (OfWorker worker (Takes part)) v → lost ≡ false
take_follows false e s worker part v may = refl
take_follows true e s worker part v may = absurd (never_lost e s worker part v may.may)

-- what the devices did, and what a call came to
abbrev ended : DeviceOutcome → State → Call → Served
ended o s call = losing o.lost (ends_in o.event o.reading s call (call_verdict (found_by o.reading s) s call))

abbrev Happens : DeviceOutcome → State → Call → Type 0
Happens o s call =
    MayHappen o.event s call (call_verdict (found_by o.reading s) s call) × MayLose o.lost o.event s call (call_verdict (found_by o.reading s) s call)

take_ended : (Q : Served → Type 0) (o : DeviceOutcome) (s : State) (worker : ℕ) (part : Part) → s.condition ≡ condition.Up
    → Happens o s (OfWorker worker (Takes part))
    → OfTake (λ v. Q (judged s v)) s worker part → Q (ended o s (OfWorker worker (Takes part)))
take_ended Q o s worker part up may each =
    let call = OfWorker worker (Takes part) in
    let v = call_verdict (found_by o.reading s) s call in
    subst (λ lost. Q (losing lost (ends_in o.event o.reading s call v))) (sym (take_follows o.lost o.event s worker part v may.1))
    (subst (λ e. Q (losing false (ends_in e o.reading s call v))) (sym (take_well o.event s worker part v may.0))
    (by_take (λ w. Q (losing false (judged s w))) (found_by o.reading s) s worker part up (record {
      full = each.full;
      busy = each.busy;
      idle = each.idle;
      takes = each.takes;
    })))

-- a take with its place in the history
pub take_step : (Q : Served → Type 0) (o : DeviceOutcome) (s : State) (line : ℕ) (c : Command) (worker : ℕ) (part : Part) → s.condition ≡ condition.Up
    → call_of c ≡ OfWorker worker (Takes part) → IsPossible o s c
    → OfTake (λ v. Q (noted line c (takes_flight o) (judged s v))) s worker part → Q (step o s line c)
take_step Q o s line c worker part up is possible each =
    let call = OfWorker worker (Takes part) in
    let may : Happens o s call = subst (Happens o s) is (possible.event, possible.lost) in
    subst (λ x. Q (noted line c (takes_flight o) (ended o s x))) (sym is)
    (take_ended (λ r. Q (noted line c (takes_flight o) r)) o s worker part up may each)

-- ---- a take that finds no unit

abbrev IfIdle : State → ℕ → Part → Served → Type 0
IfIdle s worker part r = r.reply ≡ reply.Refused refusal.Idle → FindsNone s r.state worker part

not_full : reply.Refused refusal.LogFull ≡ reply.Refused refusal.Idle → ⊥
not_full e = cc

not_busy : (unit : UnitKey) → reply.Refused (refusal.WorkerBusy unit) ≡ reply.Refused refusal.Idle → ⊥
not_busy unit e = cc

not_taken : (unit : UnitKey) → reply.Unit unit ≡ reply.Refused refusal.Idle → ⊥
not_taken unit e = cc

pub idle_step : (o : DeviceOutcome) (s : State) (line : ℕ) (c : Command) (worker : ℕ) (part : Part) → s.condition ≡ condition.Up
    → call_of c ≡ OfWorker worker (Takes part) → IsPossible o s c → IfIdle s worker part (step o s line c)
idle_step o s line c worker part up is possible =
    take_step (IfIdle s worker part) o s line c worker part up is possible (record {
      full = λ told. absurd (not_full told);
      busy = λ unit has told. absurd (not_busy unit told);
      idle = λ free none told. record { free = free; none = none; same = refl };
      takes = λ unit free some told. absurd (not_taken unit told);
    })

-- the same of two states
pub idle_take : (s t : State) (line : ℕ) (c : Command) (worker : ℕ) (part : Part) → s.condition ≡ condition.Up → call_of c ≡ OfWorker worker (Takes part)
    → IsStep s t line c (reply.Refused refusal.Idle) → FindsNone s t worker part
idle_take s t line c worker part up is h =
    subst (λ (r : Served). IfIdle s worker part r) (sym h.same) (idle_step h.outcome s line c worker part up is h.allowed.possible) refl

-- ---- why a take is refused

abbrev TakesUnless : Served → Type 0
TakesUnless r = is_done_unless may_refuse_take r.reply ≡ true

pub take_told : (o : DeviceOutcome) (s : State) (line : ℕ) (c : Command) (worker : ℕ) (part : Part) → s.condition ≡ condition.Up
    → call_of c ≡ OfWorker worker (Takes part) → IsPossible o s c → TakesUnless (step o s line c)
take_told o s line c worker part up is possible =
    take_step TakesUnless o s line c worker part up is possible (record {
      full = refl;
      busy = λ unit has. refl;
      idle = λ free none. refl;
      takes = λ unit free some. refl;
    })

pub take_answered : (s : State) (m : Made) (worker : ℕ) (part : Part) → s.condition ≡ condition.Up → call_of m.call.command ≡ OfWorker worker (Takes part)
    → IsModelAnswer s m → is_done_unless may_refuse_take m.call.reply ≡ true
take_answered s m worker part up is answer =
    subst (λ r. is_done_unless may_refuse_take r ≡ true) answer.reply
    (take_told m.outcome s m.call.line m.call.command worker part up is answer.allowed.possible)

-- a worker that is told of an order has it
abbrev HasIfBusy : State → ℕ → UnitKey → Served → Type 0
HasIfBusy s worker unit r = r.reply ≡ reply.Refused (refusal.WorkerBusy unit) → order_of s.orders worker ≡ Some unit

full_busy : (unit : UnitKey) → reply.Refused refusal.LogFull ≡ reply.Refused (refusal.WorkerBusy unit) → ⊥
full_busy unit e = cc

idle_busy : (unit : UnitKey) → reply.Refused refusal.Idle ≡ reply.Refused (refusal.WorkerBusy unit) → ⊥
idle_busy unit e = cc

taken_busy : (key unit : UnitKey) → reply.Unit key ≡ reply.Refused (refusal.WorkerBusy unit) → ⊥
taken_busy key unit e = cc

one_busy : (key unit : UnitKey) → reply.Refused (refusal.WorkerBusy key) ≡ reply.Refused (refusal.WorkerBusy unit) → key ≡ unit
one_busy key unit e = cc

pub busy_take : (s : State) (m : Made) (worker : ℕ) (part : Part) (unit : UnitKey) → s.condition ≡ condition.Up
    → call_of m.call.command ≡ OfWorker worker (Takes part) → IsModelAnswer s m → m.call.reply ≡ reply.Refused (refusal.WorkerBusy unit)
    → order_of s.orders worker ≡ Some unit
busy_take s m worker part unit up is answer told =
    take_step (HasIfBusy s worker unit) m.outcome s m.call.line m.call.command worker part up is answer.allowed.possible (record {
      full = λ e. absurd (full_busy unit e);
      busy = λ key has e. has ∙ ap Some (one_busy key unit e);
      idle = λ free none e. absurd (idle_busy unit e);
      takes = λ key free some e. absurd (taken_busy key unit e);
    }) (answer.reply ∙ told)

-- ---- why a post is

abbrev PostsUnless : Served → Type 0
PostsUnless r = is_done_unless may_refuse_post r.reply ≡ true

posted_done : (may : Refusal → Bool) (part : Part) (unit : UnitKey) (o : Outcome) → is_done_unless may (posted_reply part unit o) ≡ true
posted_done may part unit outcome.Done =
    elim (is_first part) as (λ b. is_done_unless may (if b then reply.Posted unit else reply.Closed unit) ≡ true) [ true ↦ refl | false ↦ refl ]
posted_done may part unit (outcome.Refused index reason) =
    elim (is_first part) as (λ b. is_done_unless may (if b then reply.Bad unit index reason else reply.Bad2 unit index reason) ≡ true) [
      | true ↦ refl
      | false ↦ refl
    ]

post_verdict : (found : Found) (s : State) (worker : ℕ) (part : Part) (unit : UnitKey) → s.condition ≡ condition.Up
    → order_for part s.stored s.orders worker ≡ Some unit → PostsUnless (judged s (call_verdict found s (OfWorker worker (Posts part))))
post_verdict found s worker part unit up has =
    let Q : Verdict → Type 0 = λ v. PostsUnless (judged s v) in
    by_up Q found s worker (Posts part) up refl
    (subst (λ o. Q (elim o [ None ↦ Refuses refusal.NoOrder | Some key ↦ with_room s (posting part s worker key (found.part part key)) ])) (sym has)
    (by_room Q s (posting part s worker unit (found.part part unit)) refl (posted_done may_refuse_post part unit (found.part part unit))))

post_ended : (o : DeviceOutcome) (s : State) (worker : ℕ) (part : Part) (unit : UnitKey) → s.condition ≡ condition.Up
    → order_for part s.stored s.orders worker ≡ Some unit → Happens o s (OfWorker worker (Posts part)) → PostsUnless (ended o s (OfWorker worker (Posts part)))
post_ended o s worker part unit up has may =
    let call = OfWorker worker (Posts part) in
    let v = call_verdict (found_by o.reading s) s call in
    elim o.event as (λ e. MayHappen e s call v → PostsUnless (ends_in e o.reading s call v)) [
      | AllWell ↦ λ h. post_verdict (found_by o.reading s) s worker part unit up has
      | Wanting ↦ λ h. refl
      | StoreFails ↦ λ h. refl
      | BackupFails ↦ λ h. refl
      | LinkFails ↦ λ h. absurd (never h.1)
      | NotRemade fault ↦ λ h. absurd (never h.1)
    ] may.0

pub post_told : (o : DeviceOutcome) (s : State) (line : ℕ) (c : Command) (worker : ℕ) (part : Part) (unit : UnitKey) → s.condition ≡ condition.Up
    → order_for part s.stored s.orders worker ≡ Some unit → call_of c ≡ OfWorker worker (Posts part) → IsPossible o s c → PostsUnless (step o s line c)
post_told o s line c worker part unit up has is possible =
    let may : Happens o s (OfWorker worker (Posts part)) = subst (Happens o s) is (possible.event, possible.lost) in
    let h : PostsUnless (served o s c) = subst (λ x. PostsUnless (ended o s x)) (sym is) (post_ended o s worker part unit up has may) in
    by_noting PostsUnless line c (takes_flight o) (served o s c) h h

pub post_answered : (s : State) (m : Made) (worker : ℕ) (part : Part) (unit : UnitKey) → s.condition ≡ condition.Up
    → order_for part s.stored s.orders worker ≡ Some unit → call_of m.call.command ≡ OfWorker worker (Posts part)
    → IsModelAnswer s m → is_done_unless may_refuse_post m.call.reply ≡ true
post_answered s m worker part unit up has is answer =
    subst (λ r. is_done_unless may_refuse_post r ≡ true) answer.reply
    (post_told m.outcome s m.call.line m.call.command worker part unit up has is answer.allowed.possible)

-- ---- a post where nothing went wrong

on_and : (b c : Bool) → b ≡ true → c ≡ true → (b && c) ≡ true
on_and true c h k = k
on_and false c h k = absurd (never h)

only_full : (call : Call) (r : Refusal) → is_post call ≡ true → may_refuse_post r ≡ true
    → (goes_wrong call (reply.Refused r) || is_no_memory (reply.Refused r)) ≡ false → r ≡ refusal.LogFull
only_full call refusal.LogFull post may off = refl
only_full call (refusal.StoreFull limit) post may off =
    let wrong = (or_parts (goes_wrong call (reply.Refused (refusal.StoreFull limit))) _ off).0 in
    let full = (or_parts (ends_server call (reply.Refused (refusal.StoreFull limit))) _ wrong).1 in
    absurd (never (sym full ∙ on_and (is_post call) true post refl))
only_full call refusal.NoMemory post may off = of_server (or_parts (goes_wrong call (reply.Refused refusal.NoMemory)) true off).1
only_full call refusal.StoreFault post may off = of_server off
only_full call refusal.BackupFault post may off = of_server off
only_full call r post may off = absurd (never may)

-- it is refused only where the history is full
pub post_full : (call : PastEntry) (r : Refusal) → is_post (call_of call.command) ≡ true → is_done_unless may_refuse_post call.reply ≡ true
    → call.reply ≡ reply.Refused r → is_trouble call ≡ false → wants call ≡ false → r ≡ refusal.LogFull
post_full call r post may told fine enough =
    let c = call_of call.command in
    only_full c r post (sym (ap (is_done_unless may_refuse_post) told) ∙ may)
    (or_no (goes_wrong c (reply.Refused r)) _ (sym (ap (goes_wrong c) told) ∙ fine) (sym (ap is_no_memory told) ∙ enough))
