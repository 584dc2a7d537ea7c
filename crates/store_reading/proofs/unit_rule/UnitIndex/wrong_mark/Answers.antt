use Rattle.std.proofs.Common.{arith}
use Rattle.store_reading.specs.Units.{is_right_unit}
use Rattle.store_reading.proofs.Firsts.{wrong_here, wrong_more, wrong_none}
use Rattle.store_reading.proofs.unit_rule.UnitIndex.wrong_mark.Goals as goal

pub loop-stored-preserved : goal.loop-stored-preserved
loop-stored-preserved c = record {
  place = omega arith;
  rest = λ headers modules steps locks index.
      wrong_more (λ before. is_right_unit headers modules steps locks) 4 c.args.marks.now c.loop-stored.stored-index c.loop-stored.row c.stored-item.result
      c.is_right.result _
      c.loop-stored-test.true c.stored-item.is c.loop-stored.invariant.place (c.is_right.ensures headers modules steps locks index) c.if-not-is_right.false
      (c.loop-stored.invariant.rest headers modules steps locks index);
}

pub returns-then-not-is_right : goal.returns-then-not-is_right
returns-then-not-is_right c = λ headers modules steps locks index.
    wrong_here (λ before. is_right_unit headers modules steps locks) 4 c.args.marks.now c.loop-stored.stored-index c.loop-stored.row c.stored-item.result
    c.is_right.result _
    c.loop-stored-test.true c.stored-item.is c.loop-stored.invariant.place (c.is_right.ensures headers modules steps locks index) c.if-not-is_right.true
    (c.loop-stored.invariant.rest headers modules steps locks index)

pub returns : goal.returns
returns c = λ headers modules steps locks index.
    wrong_none (λ before. is_right_unit headers modules steps locks) 4 c.args.marks.now c.loop-stored.stored-index _ c.loop-stored-test.false
    (c.loop-stored.invariant.rest headers modules steps locks index)
