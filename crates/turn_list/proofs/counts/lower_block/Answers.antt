use Rattle.turn_list.proofs.Lowering.{lowered_even, lowered_odd, lowered_past}
use Rattle.turn_list.proofs.counts.lower_block.Goals as goal
use Rattle.turn_list.proofs.counts.lower_block.Goals.{else-turn-width-eq0-via-then-turn-width-eq0+else-end-slots, else-turn-width-eq0-via-else-turn-width-eq0}

pub overflow_sub-counts-then-end-slots : goal.overflow_sub-counts-then-end-slots
overflow_sub-counts-then-end-slots c =
    (lowered_even c.args.slots.now c.args.counts.now c.args.turn c.args.level c.width_of-width.result c.requires.waits c.width_of-width.ensures
    c.if-turn-width-eq0.true c.if-end-slots.true c.requires.lowered).0

pub returns-then-end-slots : goal.returns-then-end-slots
returns-then-end-slots c =
    (lowered_even c.args.slots.now c.args.counts.now c.args.turn c.args.level c.width_of-width.result c.requires.waits c.width_of-width.ensures
    c.if-turn-width-eq0.true c.if-end-slots.true c.requires.lowered).1

pub returns-else-turn-width-eq0 : goal.returns-else-turn-width-eq0
returns-else-turn-width-eq0 c =
    let slots = c.args.slots.now in
    let counts = c.args.counts.now in
    let turn = c.args.turn in
    let level = c.args.level in
    let width = c.width_of-width.result in
    elim c.else-turn-width-eq0.branch [
      | else-turn-width-eq0-via-then-turn-width-eq0+else-end-slots w ↦
          lowered_past slots counts turn level width c.requires.waits c.width_of-width.ensures w.if-turn-width-eq0.true w.if-end-slots.false c.requires.lowered
      | else-turn-width-eq0-via-else-turn-width-eq0 w ↦
          lowered_odd slots counts turn level width c.requires.waits c.width_of-width.ensures w.if-turn-width-eq0.false c.requires.lowered
    ]
