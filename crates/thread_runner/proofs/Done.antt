-- What the threads have done stands in the history that they made.
use Rattle.std.proofs.Common.{Bool, List, [], ◌∷◌, ◌++◌, refl, sym, subst, append_assoc}
use Rattle.std.specs.List.{AllByRecursion}
use Rattle.hall_model.specs.Recall.{AreModelAnswers, Made, calls_of}
use Rattle.hall_model.specs.State.{State}
use Rattle.hall_model.specs.declared.command.PastEntry.{PastEntry}
use Rattle.script_actors.specs.Actors.{Land}
use Rattle.script_actors.specs.declared.line.NumberedLine.{NumberedLine}
use Rattle.actor_threads.specs.declared.actor.Deed.{Deed}
use Rattle.caller_laws.specs.Callers.{AreTheirs}
use Rattle.caller_laws.specs.Doing.{Did, Thread}
use Rattle.turn_desks.specs.Led.{Counts, IsLed}
use Rattle.thread_runner.specs.Hiring.{AreDone, AreKept, DidDeed, IsKeptOf, callers_in, left_of}

-- ---- each call says who makes it

theirs_from : (first : State) (earlier later : List Made) → AreModelAnswers first (earlier ++ later) → AreTheirs (calls_of later)
theirs_from first earlier [] answers = tt
theirs_from first earlier (m ∷ later) answers = (
  (answers earlier later m refl).who,
  theirs_from first (earlier ++ m ∷ []) later (subst (AreModelAnswers first) (sym (append_assoc earlier (m ∷ []) later)) answers),
)

pub led_theirs : (told tells linked : Bool) (first : State) (before : Counts) (s : State) (now : Counts) → IsLed told tells linked first before s now
    → AreTheirs s.past
led_theirs told tells linked first before s now led = subst AreTheirs (sym led.calls) (theirs_from first [] led.made led.answers)

-- ---- lists

pub all_append : {X : Type 0} (P : X → Type 0) (xs ys : List X) → AllByRecursion P xs → AllByRecursion P ys → AllByRecursion P (xs ++ ys)
all_append P [] ys a b = b
all_append P (x ∷ xs) ys a b = (a.0, all_append P xs ys a.1 b)

pub all_front : {X : Type 0} (P : X → Type 0) (xs ys : List X) → AllByRecursion P (xs ++ ys) → AllByRecursion P xs
all_front P [] ys h = tt
all_front P (x ∷ xs) ys h = (h.0, all_front P xs ys h.1)

pub all_back : {X : Type 0} (P : X → Type 0) (xs ys : List X) → AllByRecursion P (xs ++ ys) → AllByRecursion P ys
all_back P [] ys h = h
all_back P (x ∷ xs) ys h = all_back P xs ys h.1

pub all_later : {X : Type 0} (P Q : X → Type 0) → ((x : X) → P x → Q x) → (xs : List X) → AllByRecursion P xs → AllByRecursion Q xs
all_later P Q f [] h = tt
all_later P Q f (x ∷ xs) h = (f x h.0, all_later P Q f xs h.1)

module _ (land : Land) (lines : List NumberedLine) (past : List PastEntry) where
  kept_did : (t : Thread) (d : Deed) → IsKeptOf past t d → Did land lines past t.who t.left t.now.full_at → DidDeed land lines past d
  kept_did t d k h = record {
    did =
        subst (λ f. Did land lines past d.who (left_of d) f) (sym k.full_at)
        (subst (λ l. Did land lines past d.who l t.now.full_at) (sym k.left)
        (subst (λ w. Did land lines past w t.left t.now.full_at) (sym k.who) h));
    long = k.long;
  }

  -- of threads whose calls the history has, these are the deeds
  pub done_by : (threads : List Thread) (deeds : List Deed) → AreKept past threads deeds
      → AllByRecursion (λ (t : Thread). Did land lines past t.who t.left t.now.full_at) threads → AreDone land lines (callers_in threads) past deeds
  done_by [] [] kept all = record { who = refl; did = tt }
  done_by [] (d ∷ ds) kept all = absurd kept
  done_by (t ∷ ts) [] kept all = absurd kept
  done_by (t ∷ ts) (d ∷ ds) kept all =
      let rest : AreDone land lines (callers_in ts) past ds = done_by ts ds kept.1 all.1 in
      record { who = λ i. kept.0.who i ∷ rest.who i; did = (kept_did t d kept.0 all.0, rest.did) }
