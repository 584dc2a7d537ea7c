-- What a history tells of the lock server.
use Rattle.std.proofs.Common.{◌≡◌, ◌↔◌, ℕ, Bool, true, false, List, [], ◌∷◌, ◌++◌, fold, refl, sym, ap, ◌∙◌, subst}
use Rattle.std.specs.Prelude.{IsTrue, if◌then◌else◌, Some, None}
use Rattle.std.proofs.lemmas.Bool.{or_parts}
use Rattle.std.proofs.lemmas.List.{append-nil}
use Rattle.enq_base.specs.declared.condition.Condition.{Condition}
use Rattle.enq_base.specs.declared.condition.Condition.TheVariants as condition
use Rattle.enq_base.specs.declared.refusal.Refusal.TheVariants as refusal
use Rattle.model_laws.proofs.ByCall.{OfEach, by_call, by_restart}
use Rattle.model_laws.proofs.NotedCalls.{by_noting, of_server}
use Rattle.hall_model.specs.Calls.{Call, OfAdmin, Restarts, call_of, restarts}
use Rattle.hall_model.specs.Devices.{AllWell, Wanting, StoreFails, BackupFails, LinkFails, NotRemade, MayHappen, found_by}
use Rattle.hall_model.specs.History.{Served, ends_in, judged, served, takes_flight}
use Rattle.hall_model.specs.Recall.{AreModelAnswers, IsModelAnswer, Made, calls_of, recalled, state_after}
use Rattle.hall_model.specs.Sessions.{with_draw, with_session}
use Rattle.hall_model.specs.Numbers.{drawn, raised_to}
use Rattle.hall_model.specs.State.{State}
use Rattle.hall_model.specs.Step.{Found, Refuses, Leaves, call_verdict, is_taken, leaves, restart, restarted, unavailable, unless_refused}
use Rattle.hall_model.specs.declared.command.After.{After}
use Rattle.hall_model.specs.declared.command.Reply.TheVariants as reply
use Rattle.hall_model.specs.declared.command.Session.{Session}
use Rattle.hall_laws.proofs.histories.NotedSteps.{AnswersFrom, answers_before}
use Rattle.ledger_steps.specs.Drawn.{handed_out, num_of}
use Rattle.ledger_steps.specs.Levels.{present}
use Rattle.number_ranges.specs.Intervals.{is_buffered}
use Rattle.number_ranges.specs.declared.interval.Interval.{Interval}
use Rattle.order_laws.proofs.OrderLists.{never}
use Rattle.order_laws.specs.Behind.{HasNoTrouble, IsFresh, StaysUp, goes_wrong, is_trouble, is_up, up_after, up_behind}

-- ---- as the entries say

pub all_answers : (first : State) (made : List Made) → AreModelAnswers first made → AnswersFrom first made
all_answers first made answers = answers_before first made made [] answers (sym (append-nil made))

up_told : (s : State) (made : List Made) → AnswersFrom s made → is_up (state_after s made).condition ≡ fold up_behind (is_up s.condition) (calls_of made)
up_told s [] answers = refl
up_told s (m ∷ ms) answers =
    up_told (recalled s m) ms answers.1
    ∙ ap (λ b. fold up_behind b (calls_of ms)) (sym (ap (λ (a : After). is_up a.condition) answers.0.after))

pub of_up : (k : Condition) → is_up k ≡ true → k ≡ condition.Up
of_up condition.Up h = refl
of_up condition.NoServer h = absurd (never h)
of_up (condition.Doubt n) h = absurd (never h)

up_at_end : (s : State) (made : List Made) → AnswersFrom s made → s.condition ≡ condition.Up → is_up (state_after s made).condition ≡ up_after (calls_of made)
up_at_end s made answers up = up_told s made answers ∙ ap (λ b. fold up_behind b (calls_of made)) (ap is_up up)

pub up_if_told : (s : State) (made : List Made) → AnswersFrom s made → s.condition ≡ condition.Up → up_after (calls_of made) ≡ true
    → (state_after s made).condition ≡ condition.Up
up_if_told s made answers up on = of_up (state_after s made).condition (up_at_end s made answers up ∙ on)

pub up_is_told : (first : State) (made : List Made) → IsFresh first → AreModelAnswers first made
    → ((state_after first made).condition ≡ condition.Up) ↔ (up_after (calls_of made) ≡ true)
up_is_told first made fresh answers =
    let from = all_answers first made answers in
    ((λ up. sym (up_at_end first made from fresh.up) ∙ ap is_up up), up_if_told first made from fresh.up)

-- ---- where nothing goes wrong

abbrev StaysIn : Call → Served → Type 0
StaysIn call r = goes_wrong call r.reply ≡ false → r.state.condition ≡ condition.Up

drawn_condition : (s : State) (x : Session) (i : Interval) (number : ℕ) → (drawn s x i number).condition ≡ s.condition
drawn_condition s x i number =
    let t : State = record s { sessions = with_session x.name (with_draw (num_of i number)) s.sessions } in
    let behind : Bool → State = λ b. if b then record t { ranges = handed_out i t.ranges; stored = raised_to i number t.stored } else t in
    elim (is_buffered i) as (λ b. (behind b).condition ≡ s.condition) [ true ↦ refl | false ↦ refl ]

each-up : (found : Found) (s : State) → s.condition ≡ condition.Up → OfEach (λ call v. StaysIn call (judged s v)) found s
each-up found s up = record {
  refuses = λ call r plain on. up;
  enters = λ name user free on. up;
  logs_off = λ name x at on. up;
  grants = λ name x rs locks at e on. up;
  lowers = λ name x rs at on. up;
  frees = λ name x at on. up;
  converts = λ name x wanted c at e on. up;
  draws = λ name x object nr r at can on. drawn_condition s x (present s.stored.levels r.interval) _ ∙ up;
  reserves = λ name x object nr upto r at can on. up;
  reads = λ name x table key at on. up;
  commits_nothing = λ name x parts stock at on. up;
  commits_numbers = λ name x parts stock at on. up;
  commits = λ name x parts stock at on. up;
  rolls_back = λ name x at on. up;
  takes = λ worker part unit free e on. up;
  posts = λ worker part unit e on. up;
  drops = λ worker unit e on. up;
  kills = λ was on. of_server on;
  fails_over = λ can on. refl;
  strays = λ first second none on. up;
  attaches = λ was on. up;
  restarts = λ off on. refl;
  cancels = λ unit status can on. up;
  reopens = λ unit es here stand on. up;
  reposts = λ unit here on. up;
}

-- while the server is up none is made anew
not_anew : (found : Found) (s : State) → s.condition ≡ condition.Up → IsTrue (leaves (call_verdict found s (OfAdmin Restarts))) → ⊥
unfolding call_verdict
not_anew found s up =
    elim (unavailable s (OfAdmin Restarts)) as (λ o. IsTrue (leaves (unless_refused o (restart found s))) → ⊥) [
      | None ↦ (elim s.condition as (λ k. k ≡ condition.Up → IsTrue (leaves (elim k [
        | condition.Up ↦ Refuses refusal.ServerUp
        | condition.NoServer ↦ Leaves (restarted (is_taken found.anew) s) reply.Done
        | condition.Doubt n ↦ Leaves (restarted (is_taken found.anew) s) reply.Done
      ])) → ⊥) [
        | condition.Up ↦ λ is h. never h
        | condition.NoServer ↦ λ is h. never (ap is_up is)
        | condition.Doubt n ↦ λ is h. never (ap is_up is)
      ] up)
      | Some r ↦ λ h. never h
    ]

not_remade : (found : Found) (s : State) (call : Call) → s.condition ≡ condition.Up → IsTrue (leaves (call_verdict found s call)) → IsTrue (restarts call) → ⊥
not_remade found s call up =
    by_restart (λ c. IsTrue (leaves (call_verdict found s c)) → IsTrue (restarts c) → ⊥) (λ h is. not_anew found s up h)
    (λ c off h is. never (sym off ∙ is)) call

pub recalled_up : (s : State) (m : Made) → IsModelAnswer s m → is_trouble m.call ≡ false → s.condition ≡ condition.Up
    → (recalled s m).condition ≡ condition.Up
recalled_up s m answer on up =
    let c = m.call.command in
    let call = call_of c in
    let found = found_by m.outcome.reading s in
    let v = call_verdict found s call in
    let Q : Served → Type 0 = StaysIn call in
    let h : Q (served m.outcome s c) =
    elim m.outcome.event as (λ e. MayHappen e s call v → Q (ends_in e m.outcome.reading s call v)) [
      | AllWell ↦ λ may. by_call (λ call v. StaysIn call (judged s v)) found s (each-up found s up) call
      | Wanting ↦ λ may told. up
      | StoreFails ↦ λ may told. of_server told
      | BackupFails ↦ λ may told. of_server told
      | LinkFails ↦ λ may told. up
      | NotRemade r ↦ λ may told. absurd (not_remade found s call up may.0 may.1)
    ] answer.allowed.possible.event in
    by_noting Q m.call.line c (takes_flight m.outcome) (served m.outcome s c) h h (ap (goes_wrong call) answer.reply ∙ on)

pub stays_up : (s : State) (made later : List Made) → AnswersFrom s made → HasNoTrouble (calls_of (made ++ later)) → s.condition ≡ condition.Up
    → (state_after s made).condition ≡ condition.Up
stays_up s [] later answers none up = up
stays_up s (m ∷ ms) later answers none up =
    let parts = or_parts (is_trouble m.call) _ none in
    stays_up (recalled s m) ms later answers.1 parts.1 (recalled_up s m answers.0 parts.0 up)

pub steady_up : (first : State) (made : List Made) → IsFresh first → AreModelAnswers first made → HasNoTrouble (calls_of made) → StaysUp first made
steady_up first made fresh answers none earlier later whole =
    stays_up first earlier later (answers_before first made earlier later answers whole) (subst (λ ms. HasNoTrouble (calls_of ms)) whole none) fresh.up
