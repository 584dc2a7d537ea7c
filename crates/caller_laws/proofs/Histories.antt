-- Histories that lead to one state, and what the history in that state tells of them.
use Rattle.std.proofs.Common.{◌≡◌, ℕ, Bool, true, false, List, [], ◌∷◌, ◌++◌, refl, sym, ap, ◌∙◌, subst}
use Rattle.std.specs.Prelude.{◌||◌, ◌&&◌, if◌then◌else◌}
use Rattle.std.specs.List.{list_any}
use Rattle.std.proofs.lemmas.Bool.{or_from}
use Rattle.std.proofs.lemmas.List.Folds.{list_any-append}
use Rattle.enq_base.specs.declared.refusal.Refusal.{Refusal}
use Rattle.enq_base.specs.declared.refusal.Refusal.TheVariants as refusal
use Rattle.hall_model.specs.Calls.{Call, LogsOn, OfSession, OfWorker, OfAdmin, Kills, FailsOver, Restarts, Attaches, Cancels, Resubmits, call_of}
use Rattle.hall_model.specs.History.{Served, is_unrecorded, noted, past_entry, served, takes_flight, with_entry}
use Rattle.hall_model.specs.Recall.{AreModelAnswers, IsModelAnswer, Made, again, calls_of, recalled, state_after}
use Rattle.hall_model.specs.State.{State}
use Rattle.hall_model.specs.declared.command.Command.{Command}
use Rattle.hall_model.specs.declared.command.PastEntry.{PastEntry}
use Rattle.hall_model.specs.declared.command.Reply.{Reply}
use Rattle.hall_model.specs.declared.command.Reply.TheVariants as reply
use Rattle.hall_laws.proofs.histories.NotedSteps.{AnswersFrom, answers_before}
use Rattle.hall_laws.proofs.keeping.Unchanged.{served-past}
use Rattle.order_laws.proofs.UpTold.{steady_up, up_is_told}
use Rattle.order_laws.specs.Behind.{HasNoTrouble, StaysUp, ends_server, goes_wrong, is_post, is_trouble, up_after}
use Rattle.caller_laws.proofs.LastCalls.{never}
use Rattle.caller_laws.specs.Rest.{WentWell}

-- ---- answers

answer_at : (s : State) (earlier later : List Made) (m : Made) → AnswersFrom s (earlier ++ m ∷ later) → IsModelAnswer (state_after s earlier) m
answer_at s [] later m h = h.0
answer_at s (x ∷ xs) later m h = answer_at (recalled s x) xs later m h.1

pub answers_all : (s : State) (made : List Made) → AnswersFrom s made → AreModelAnswers s made
answers_all s made h earlier later m e = answer_at s earlier later m (subst (AnswersFrom s) e h)

pub answers_more : (s : State) (made : List Made) (m : Made) → AnswersFrom s made → IsModelAnswer (state_after s made) m → AnswersFrom s (made ++ m ∷ [])
answers_more s [] m h k = (k, tt)
answers_more s (x ∷ xs) m h k = (h.0, answers_more (recalled s x) xs m h.1 k)

pub answers_on : (s : State) (made more : List Made) → AnswersFrom s made → AnswersFrom (state_after s made) more → AnswersFrom s (made ++ more)
answers_on s [] more h k = k
answers_on s (x ∷ xs) more h k = (h.0, answers_on (recalled s x) xs more h.1 k)

pub answers_first : (s : State) (made more : List Made) → AnswersFrom s (made ++ more) → AnswersFrom s made
answers_first s [] more h = tt
answers_first s (x ∷ xs) more h = (h.0, answers_first (recalled s x) xs more h.1)

pub answers_rest : (s : State) (made more : List Made) → AnswersFrom s (made ++ more) → AnswersFrom (state_after s made) more
answers_rest s [] more h = h
answers_rest s (x ∷ xs) more h = answers_rest (recalled s x) xs more h.1

-- ---- trouble

abbrev TroubleIn : List PastEntry → Bool
TroubleIn es = list_any is_trouble es

ends_refused : (call : Call) (r : Refusal) → ends_server call (reply.Refused r) ≡ false
ends_refused (LogsOn name user) r = refl
ends_refused (OfSession name call) r = refl
ends_refused (OfWorker worker call) r = refl
ends_refused (OfAdmin Kills) r = refl
ends_refused (OfAdmin FailsOver) r = refl
ends_refused (OfAdmin Restarts) r = refl
ends_refused (OfAdmin Attaches) r = refl
ends_refused (OfAdmin (Cancels unit)) r = refl
ends_refused (OfAdmin (Resubmits unit)) r = refl

no_and : (b : Bool) → (b && false) ≡ false
no_and true = refl
no_and false = refl

-- a call that the history doesn't keep is no trouble
unrecorded_calm : (call : Call) (r : Reply) → is_unrecorded r ≡ true → goes_wrong call r ≡ false
unrecorded_calm call (reply.Refused refusal.LogFull) h = or_from _ _ (ends_refused call refusal.LogFull) (no_and (is_post call))
unrecorded_calm call (reply.Refused refusal.Idle) h = or_from _ _ (ends_refused call refusal.Idle) (no_and (is_post call))
unrecorded_calm call _ h = absurd (never h)

or_no : (a b : Bool) → b ≡ false → a ≡ (a || b)
or_no true b h = refl
or_no false b h = sym h

noted_trouble : (line : ℕ) (c : Command) (taken : Bool) (r : Served)
    → TroubleIn (noted line c taken r).state.past ≡ (TroubleIn r.state.past || goes_wrong (call_of c) (noted line c taken r).reply)
noted_trouble line c taken r =
    let on : Served = record r { state = with_entry line c taken r } in
    elim (is_unrecorded r.reply) as (λ b. is_unrecorded r.reply ≡ b
    → TroubleIn (if b then r else on).state.past ≡ (TroubleIn r.state.past || goes_wrong (call_of c) (if b then r else on).reply)) [
      | true ↦ λ off. or_no (TroubleIn r.state.past) _ (unrecorded_calm (call_of c) r.reply off)
      | false ↦ λ kept. list_any-append is_trouble r.state.past (past_entry line c taken r ∷ [])
          ∙ ap (λ b. TroubleIn r.state.past || b) (sym (or_no (goes_wrong (call_of c) r.reply) false refl))
    ] refl

recalled_trouble : (s : State) (m : Made) → IsModelAnswer s m → TroubleIn (recalled s m).past ≡ (TroubleIn s.past || is_trouble m.call)
recalled_trouble s m answer =
    let c = m.call.command in
    noted_trouble m.call.line c (takes_flight m.outcome) (served m.outcome s c)
    ∙ ap (λ es. TroubleIn es || goes_wrong (call_of c) (again s m).reply) (served-past m.outcome s c)
    ∙ ap (λ r. TroubleIn s.past || goes_wrong (call_of c) r) answer.reply

or_more : (a b c : Bool) → ((a || b) || c) ≡ (a || (b || c))
or_more true b c = refl
or_more false b c = refl

trouble_told : (s : State) (made : List Made) → AnswersFrom s made → TroubleIn (state_after s made).past ≡ (TroubleIn s.past || TroubleIn (calls_of made))
trouble_told s [] answers = or_no (TroubleIn s.past) false refl
trouble_told s (m ∷ ms) answers =
    trouble_told (recalled s m) ms answers.1
    ∙ ap (λ b. b || TroubleIn (calls_of ms)) (recalled_trouble s m answers.0)
    ∙ or_more (TroubleIn s.past) (is_trouble m.call) (TroubleIn (calls_of ms))

trouble_of : (first : State) (made : List Made) → first.past ≡ [] → AnswersFrom first made → TroubleIn (state_after first made).past ≡ TroubleIn (calls_of made)
trouble_of first made none answers = trouble_told first made answers ∙ ap (λ es. TroubleIn es || TroubleIn (calls_of made)) none

-- of two ways to one state the one has trouble where the other has
pub calm_too : (first : State) (made other : List Made) → first.past ≡ [] → AnswersFrom first made → AnswersFrom first other
    → state_after first other ≡ state_after first made → HasNoTrouble (calls_of made) → HasNoTrouble (calls_of other)
calm_too first made other none answers others same calm =
    sym (trouble_of first other none others)
    ∙ ap (λ (s : State). TroubleIn s.past) same
    ∙ trouble_of first made none answers
    ∙ calm

-- ---- the server is up all the while

pub well_up : (first : State) (made : List Made) → WentWell first made → StaysUp first made
well_up first made well = steady_up first made well.fresh well.answers well.calm

-- as the entries say
pub told_up : (first : State) (made earlier later : List Made) → WentWell first made → made ≡ earlier ++ later → up_after (calls_of earlier) ≡ true
told_up first made earlier later well whole =
    let from = answers_before first made earlier later well.answers whole in
    (up_is_told first earlier well.fresh (answers_all first earlier from)).0 (well_up first made well earlier later whole)
