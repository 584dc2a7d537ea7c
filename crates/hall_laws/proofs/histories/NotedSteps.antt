-- Each step puts its call into the history as the model answers it.
use Rattle.std.proofs.Common.{◌≡◌, List, [], ◌∷◌, ◌++◌, append_assoc, refl, sym, ap, ◌∙◌, subst}
use Rattle.std.proofs.lemmas.List.{append-nil}
use Rattle.std.proofs.lemmas.List.Sums.{fold-append}
use Rattle.hall_model.specs.Recall.{AreModelAnswers, IsModelAnswer, Made, calls_of, recalled, state_after}
use Rattle.hall_model.specs.State.{State}

-- each call is answered as the model answers it, told from the first call on
abbrev pub AnswersFrom : State → List Made → Type 0
AnswersFrom s [] = Unit {0}
AnswersFrom s (m ∷ ms) = IsModelAnswer s m × AnswersFrom (recalled s m) ms

answer_at : (s : State) (earlier later : List Made) (m : Made) → AnswersFrom s (earlier ++ m ∷ later) → IsModelAnswer (state_after s earlier) m
answer_at s [] later m h = h.0
answer_at s (x ∷ ms) later m h = answer_at (recalled s x) ms later m h.1

-- the history leads from the first state to this one, each call with what its devices did
pub record IsTold (first s : State) : Type 0 where
  pub made : List Made
  pub calls : s.past ≡ calls_of made
  pub answers : AnswersFrom first made
  pub state : s ≡ state_after first made

pub told-answers : (first s : State) (h : IsTold first s) → AreModelAnswers first h.made
told-answers first s h earlier later m e = answer_at first earlier later m (subst (λ ms. AnswersFrom first ms) e h.answers)

-- ---- a part of a history

pub answers_from : (first : State) (earlier made : List Made)
    → ((done later : List Made) (m : Made) → made ≡ done ++ m ∷ later → IsModelAnswer (state_after first (earlier ++ done)) m)
    → AnswersFrom (state_after first earlier) made
answers_from first earlier [] h = tt
answers_from first earlier (m ∷ ms) h =
    let leads : state_after first (earlier ++ m ∷ []) ≡ recalled (state_after first earlier) m = fold-append recalled first earlier (m ∷ []) in (
      subst (λ es. IsModelAnswer (state_after first es) m) (append-nil earlier) (h [] ms m refl),
      subst (λ s. AnswersFrom s ms) leads
          (answers_from first (earlier ++ m ∷ []) ms
          (λ done later other e. subst (λ es. IsModelAnswer (state_after first es) other) (sym (append_assoc earlier (m ∷ []) done))
          (h (m ∷ done) later other (ap (λ es. m ∷ es) e)))),
    )

-- a call of those between is one of the whole history
rest_of : (all earlier between later : List Made) (m : Made) (done after : List Made) (other : Made) → all ≡ earlier ++ m ∷ (between ++ later)
    → between ≡ done ++ other ∷ after → all ≡ ((earlier ++ m ∷ []) ++ done) ++ other ∷ (after ++ later)
rest_of all earlier between later m done after other whole e =
    whole
    ∙ ap (λ es. earlier ++ m ∷ (es ++ later)) e
    ∙ ap (λ es. earlier ++ m ∷ es) (append_assoc done (other ∷ after) later)
    ∙ sym (append_assoc earlier (m ∷ []) (done ++ other ∷ (after ++ later)))
    ∙ sym (append_assoc (earlier ++ m ∷ []) done (other ∷ (after ++ later)))

-- the first calls of a history
pub answers_before : (first : State) (all earlier later : List Made) → AreModelAnswers first all → all ≡ earlier ++ later → AnswersFrom first earlier
answers_before first all earlier later answers whole =
    answers_from first [] earlier
    (λ done after other e. answers done (after ++ later) other (whole ∙ ap (λ es. es ++ later) e ∙ append_assoc done (other ∷ after) later))

-- the calls behind one of a history, answered from the state behind it
pub answers_behind : (first : State) (all earlier between later : List Made) (m : Made) → AreModelAnswers first all → all ≡ earlier ++ m ∷ (between ++ later)
    → AnswersFrom (recalled (state_after first earlier) m) between
answers_behind first all earlier between later m answers whole =
    subst (λ x. AnswersFrom x between) (fold-append recalled first earlier (m ∷ []))
    (answers_from first (earlier ++ m ∷ []) between
    (λ done after other e. answers ((earlier ++ m ∷ []) ++ done) (after ++ later) other (rest_of all earlier between later m done after other whole e)))
