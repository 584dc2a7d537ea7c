use Rattle.std.proofs.Common.{rules, ◌≡◌, []}
use Rattle.std.proofs.lemmas.List.Sorted.{IsNonDecreasingBy-from_sort_by_key}
use Rattle.script_actors.specs.declared.actor.Said.{Said}
use Rattle.thread_runner.proofs.Popped.{all_moved, answers_moved, in_order}
use Rattle.thread_runner.proofs.answers.say_all.Goals as goal

pub loop-deed-preserved : goal.loop-deed-preserved
loop-deed-preserved c =
    let inv = c.loop-deed.invariant in
    let split = c.in-Some.ensures.items in
    record {
      said =
          answers_moved c.args.lines.now _ c.loop-deed.all.items _ c.loop-deed.deeds.items c.pop.new.self.items c.in-Some.deed split
          c.in_ok-say_of.ensures.said inv.said;
      whole = λ h. inv.whole (all_moved c.loop-deed.deeds.items c.pop.new.self.items c.in-Some.deed split c.in_ok-say_of.ensures.all h);
    }

pub returns-clause-said : goal.returns-clause-said
returns-clause-said c =
    let none : c.loop-deed.deeds.items ≡ [] = search rules in
    in_order c.args.lines.now c.args.deeds.items c.loop-deed.deeds.items c.loop-deed.all.items _ none c.loop-deed.invariant.said
    c.in_ok-sort_by_key.ensures.permutation
    (IsNonDecreasingBy-from_sort_by_key (λ (x : Said). x.line) _ c.in_ok-sort_by_key.ensures.sorted (λ a r q k. search rules))
