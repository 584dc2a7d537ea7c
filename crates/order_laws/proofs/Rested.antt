-- Behind a history whose workers rest no unit waits.
use Rattle.std.proofs.Common.{List, ◌∷◌, ◌++◌, append_assoc, sym, ap, ◌∙◌, subst}
use Rattle.std.proofs.lemmas.List.Sums.{fold-append}
use Rattle.hall_model.specs.Recall.{AreModelAnswers, Made, recalled, state_after}
use Rattle.hall_model.specs.State.{State}
use Rattle.hall_laws.proofs.histories.NotedSteps.{AnswersFrom, answers_from}
use Rattle.order_laws.proofs.Claims.{claims_from}
use Rattle.order_laws.proofs.NoneWaiting.{all_claimed, none_waits}
use Rattle.order_laws.proofs.OrdersTold.{IsReached, orders_are_told, reached_after, reached_kept}
use Rattle.order_laws.proofs.UpTold.{all_answers}
use Rattle.order_laws.specs.Behind.{IsFresh}
use Rattle.order_laws.specs.Resting.{AllRestBehind, AreClaimed, NoneWaits}
use Rattle.ledger_steps.specs.declared.part.Part.TheVariants.{V1, V2}

-- the later calls of a history
pub later_answers : (first : State) (earlier later : List Made) → AreModelAnswers first (earlier ++ later) → AnswersFrom (state_after first earlier) later
later_answers first earlier later answers =
    answers_from first earlier later
    (λ done after m e. answers (earlier ++ done) after m (ap (λ ms. earlier ++ ms) e ∙ sym (append_assoc earlier done (m ∷ after))))

pub none_waits_behind : (first : State) (earlier later : List Made) → IsFresh first → AreModelAnswers first (earlier ++ later)
    → AllRestBehind first earlier later → NoneWaits (state_after first (earlier ++ later))
none_waits_behind first earlier later fresh answers rest =
    let all = earlier ++ later in
    let t = state_after first all in
    let reached : IsReached t = reached_after first all (all_answers first all answers) (reached_kept first fresh.kept) in
    let stay : AreClaimed V1 t =
    subst (AreClaimed V1) (sym (fold-append recalled first earlier later))
    (claims_from (state_after first earlier) later (later_answers first earlier later answers) rest.offered
    (all_claimed V1 (state_after first earlier) rest.first_none)) in
    none_waits t reached.all.holds.steady.places
    (λ worker few. orders_are_told first all worker fresh answers few ∙ rest.free worker few) stay (all_claimed V2 t rest.second_none)
