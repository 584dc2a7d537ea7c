use Rattle.std.proofs.Common.{ℕ, List, ap, ◌≡◌, ◌+◌, ◌++◌, ◌∷◌, [], ◌∙◌, arith, subst, All, length-append}
use Rattle.std.specs.List.{sum_by}
use Rattle.std.proofs.lemmas.List.{get_or_append_left}
use Rattle.std.proofs.lemmas.List.Sums.{sum_by_push}
use Rattle.turn_lock.specs.declared.view.View.{View}
use Rattle.turn_lock.specs.Passes.{known, IsPassOf}
use Rattle.turn_tests.specs.declared.actor.Actor.{Actor}
use Rattle.turn_tests.proofs.actors.gather.Goals as goal

pub loop-actor-preserved : goal.loop-actor-preserved
loop-actor-preserved g c =
    let X : Type 0 = Actor g.row.S.Denot g.row.A.Denot g.row.S-Entry.Denot g.S.History in
    let f : X → ℕ = λ a. (known a.pass).parts in
    let rest : List X = c.pop.new.self.items in
    let was : c.loop-actor.actors.items ≡ rest ++ c.in-Some.actor ∷ [] = c.in-Some.ensures.items in
    let both : (known c.join-pass.result).parts ≡ (known c.loop-actor.pass).parts + f c.in-Some.actor = ap (λ (v : View g.row.S-Entry.Denot). v.parts) c.join-pass.ensures.both in
    let inv = c.loop-actor.invariant in
    let sum : sum_by f c.loop-actor.actors.items ≡ sum_by f rest + f c.in-Some.actor = ap (sum_by f) was ∙ sum_by_push f rest c.in-Some.actor in
    let so_far = inv.parts in
    let whole = subst (λ (l : List X). All (λ (a : X). IsPassOf c.args.lock.now a.pass) l) was inv.actors in record {
      own = c.join-pass.ensures.own;
      actors = λ k d lt. subst (λ (a : X). IsPassOf c.args.lock.now a.pass) (get_or_append_left rest (c.in-Some.actor ∷ []) d k lt)
          (whole k d (omega (arith, length-append rest (c.in-Some.actor ∷ []))));
      parts = omega arith;
    }
