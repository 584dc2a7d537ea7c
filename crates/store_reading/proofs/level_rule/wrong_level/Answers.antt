use Rattle.std.proofs.Common.{arith}
use Rattle.store_reading.specs.Intervals.{is_right_level}
use Rattle.store_reading.proofs.Firsts.{wrong_more}
use Rattle.store_reading.proofs.level_rule.wrong_level.Goals as goal

pub loop-stored-preserved : goal.loop-stored-preserved
loop-stored-preserved c = record {
  place = omega arith;
  rest = λ numbers lists. wrong_more (λ before. is_right_level numbers) 5 c.args.levels.now c.loop-stored.stored-index c.loop-stored.row c.stored-item.result _
      _
      c.loop-stored-test.true c.stored-item.is c.loop-stored.invariant.place (c.in_ok-is_right.ensures numbers lists) c.if-not-is_right.false
      (c.loop-stored.invariant.rest numbers lists);
}
