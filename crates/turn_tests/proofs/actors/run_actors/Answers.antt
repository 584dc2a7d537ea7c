use Rattle.std.proofs.Common.{◌≡◌, ℕ, subst, ap, sym, ◌∙◌, length, get_or, arith}
use Rattle.turn_lock.specs.Passes.{known, IsPassOf}
use Rattle.turn_tests.specs.declared.actor.Actor.{Actor}
use Rattle.turn_tests.specs.Acting.{HasActed}
use Rattle.turn_tests.proofs.Sums.{same_sums}
use Rattle.turn_tests.proofs.actors.run_actors.Goals as goal

pub returns-clause-own : goal.returns-clause-own
returns-clause-own g c i d lt =
    let J : Type 0 = Actor g.row.S.Denot g.row.A.Denot g.row.S-Entry.Denot g.S.History in
    let as_long : length c.for_each_mut.new.s ≡ length c.args.actors.now = c.for_each_mut.auto.s in
    let change = (c.for_each_mut.ensures i d (omega arith)).1 in
    subst (λ (a : J). IsPassOf c.args.lock.now a.pass) change.left change.call.0

pub returns-clause-parts : goal.returns-clause-parts
returns-clause-parts g c =
    let J : Type 0 = Actor g.row.S.Denot g.row.A.Denot g.row.S-Entry.Denot g.S.History in
    let f : J → ℕ = λ a. (known a.pass).parts in
    same_sums f c.args.actors.now c.for_each_mut.new.s c.for_each_mut.auto.s
    (λ i d lt.
    let change = (c.for_each_mut.ensures i d lt).1 in
    sym (ap f change.left) ∙ (change.call.1 ∙ ap f change.argument_is))

pub returns-clause-ran : goal.returns-clause-ran
returns-clause-ran g c i d lt =
    let J : Type 0 = Actor g.row.S.Denot g.row.A.Denot g.row.S-Entry.Denot g.S.History in
    let change = (c.for_each_mut.ensures i d lt).1 in
    let was = change.argument_is in
    let now = change.left in
    subst (λ (p : J × J). HasActed g.A.Act.does p.0 p.1) (λ k. (was k, now k)) change.call.2
