use Rattle.std.proofs.Common.{arith, length, sym, subst}
use Rattle.turn_list.proofs.Pushing.{IsSummed, first_sum, sum_step, sum_done}
use Rattle.turn_list.proofs.counts.new_count.Goals as goal

pub loop-start-init : goal.loop-start-init
loop-start-init c =
    subst (λ n. IsSummed c.args.slots.now c.args.unit.now (length c.args.slots.now) 1 n) (sym c.waits-count.ensures)
    (first_sum c.args.slots.now c.args.unit.now)

pub overflow_add-count : goal.overflow_add-count
overflow_add-count c =
    let step = sum_step c.args.slots.now c.args.unit.now c.args.counts.now c.loop-start.start c.loop-start.width c.loop-start.count
    c.requires.counted c.loop-start-test.true c.loop-start.invariant in
    omega (arith, c.requires.few)

pub loop-start-preserved : goal.loop-start-preserved
loop-start-preserved c =
    (sum_step c.args.slots.now c.args.unit.now c.args.counts.now c.loop-start.start c.loop-start.width c.loop-start.count
    c.requires.counted c.loop-start-test.true c.loop-start.invariant).next

pub returns : goal.returns
returns c =
    sum_done c.args.slots.now c.args.unit.now c.args.counts.now c.loop-start.start c.loop-start.width c.loop-start.count
    c.requires.counted c.loop-start-test.false c.loop-start.invariant
