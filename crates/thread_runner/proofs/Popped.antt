-- The answers of all deeds, where the last deed is taken off.
use Rattle.std.proofs.Common.{◌≡◌, true, ◌||◌, List, [], ◌∷◌, ◌++◌, sym, ap, subst, ◌∙◌, append_assoc, append-nil}
use Rattle.std.specs.Prelude.{is_some}
use Rattle.std.specs.List.Sorted.{IsNonDecreasingBy, IsPermutation}
use Rattle.actor_threads.specs.declared.actor.Deed.{Deed}
use Rattle.script_actors.specs.declared.actor.Said.{Said}
use Rattle.script_actors.specs.declared.line.NumberedLine.{NumberedLine}
use Rattle.thread_runner.specs.Answers.{AreInOrder, answers_in, answers_of}
use Rattle.thread_runner.specs.Writing.{AllSaid, is_worker}

answers_last : (lines : List NumberedLine) (deeds : List Deed) (d : Deed)
    → answers_in lines (deeds ++ d ∷ []) ≡ answers_of lines d.who d.said d.full_at ++ answers_in lines deeds
answers_last lines [] d = sym (append-nil (answers_of lines d.who d.said d.full_at))
answers_last lines (e ∷ deeds) d =
    ap (λ (l : List Said). l ++ answers_of lines e.who e.said e.full_at) (answers_last lines deeds d)
    ∙ append_assoc (answers_of lines d.who d.said d.full_at) (answers_in lines deeds) (answers_of lines e.who e.said e.full_at)

pub answers_moved : (lines : List NumberedLine) (all old new : List Said) (was rest : List Deed) (d : Deed) → was ≡ rest ++ d ∷ []
    → new ≡ old ++ answers_of lines d.who d.said d.full_at → old ++ answers_in lines was ≡ all → new ++ answers_in lines rest ≡ all
answers_moved lines all old new was rest d split more h =
    let own : List Said = answers_of lines d.who d.said d.full_at in
    let turned : own ++ answers_in lines rest ≡ answers_in lines was = sym (ap (answers_in lines) split ∙ answers_last lines rest d) in
    ap (λ (l : List Said). l ++ answers_in lines rest) more ∙ (append_assoc old own (answers_in lines rest) ∙ (ap (λ (l : List Said). old ++ l) turned ∙ h))

-- all deeds were taken off, and the answers sorted
pub in_order : (lines : List NumberedLine) (deeds left : List Deed) (found said : List Said) → left ≡ []
    → found ++ answers_in lines left ≡ answers_in lines deeds → IsPermutation found said
    → IsNonDecreasingBy (λ (x : Said). x.line) said → AreInOrder (answers_in lines deeds) said
in_order lines deeds left found said none h same ordered =
    let whole : found ≡ answers_in lines deeds = sym (append-nil found) ∙ (ap (λ (ds : List Deed). found ++ answers_in lines ds) (sym none) ∙ h) in
    record { same = subst (λ (l : List Said). IsPermutation l said) whole same; ordered = ordered }

all_last : (deeds : List Deed) (d : Deed) → (is_worker d.who || is_some d.said) ≡ true → AllSaid deeds → AllSaid (deeds ++ d ∷ [])
all_last [] d one h = (one, tt)
all_last (e ∷ deeds) d one h = (h.0, all_last deeds d one h.1)

pub all_moved : (was rest : List Deed) (d : Deed) → was ≡ rest ++ d ∷ [] → (is_worker d.who || is_some d.said) ≡ true → AllSaid rest → AllSaid was
all_moved was rest d split one h = subst (λ (ds : List Deed). AllSaid ds) (sym split) (all_last rest d one h)
