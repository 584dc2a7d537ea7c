use Rattle.std.proofs.Common.{rules, ◌+◌, ◌≤◌, ◌++◌, List, ap, arith, length, sym, ◌∙◌}
use Rattle.std.proofs.lemmas.List.Sorted.{IsNonDecreasingBy-from_sort_by_key}
use Rattle.actor_threads.specs.declared.actor.Deed.{Deed}
use Rattle.script_actors.specs.declared.drawing.Drawing.{Drawing}
use Rattle.thread_runner.specs.Hiring.{left_of}
use Rattle.thread_runner.specs.Numbers.{drawn_by}
use Rattle.thread_runner.proofs.Absorbed.{drawn_fits, drawn_next}
use Rattle.thread_runner.proofs.joining.collect.Goals as goal

pub copy_own-requires : goal.copy_own-requires
copy_own-requires c =
    let inv = c.loop-deed.invariant in
    let fits = drawn_fits c.args.deeds.now c.loop-deed.deed-index c.deed-item.result c.loop-deed-test.true c.deed-item.is in
    let was = ap length inv.items in
    let capacity = inv.capacity in
    let room = c.requires.room in
    record { room = omega (arith, fits, was, capacity, room) }

pub loop-deed-preserved : goal.loop-deed-preserved
loop-deed-preserved c =
    let inv = c.loop-deed.invariant in
    let deed : Deed = c.deed-item.result in
    record {
      items = c.copy_own.ensures.items ∙ ap (λ l. l ++ drawn_by deed.who (left_of deed)) inv.items
          ∙ sym (drawn_next c.args.deeds.now c.loop-deed.deed-index deed c.loop-deed-test.true c.deed-item.is);
      capacity = c.copy_own.ensures.capacity ∙ inv.capacity;
    }

pub returns-clause-order : goal.returns-clause-order
returns-clause-order c =
    IsNonDecreasingBy-from_sort_by_key (λ (x : Drawing). x.line) _ c.sort_unstable_by_key.ensures.sorted (λ a r q k. search rules)
