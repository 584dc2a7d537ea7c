use Rattle.std.proofs.Common.{arith}
use Rattle.store_reading.specs.Units.{is_counted}
use Rattle.store_reading.proofs.Firsts.{wrong_here, wrong_more, wrong_none}
use Rattle.store_reading.proofs.unit_rule.uncounted_row.Goals as goal

pub loop-stored-preserved : goal.loop-stored-preserved
loop-stored-preserved c = record {
  place = omega arith;
  rest = λ headers counts. wrong_more (λ before. is_counted headers) c.args.table c.args.records.now c.loop-stored.stored-index c.loop-stored.row
      c.stored-item.result c.is_counted.result _
      c.loop-stored-test.true c.stored-item.is c.loop-stored.invariant.place (c.is_counted.ensures headers counts) c.if-not-is_counted.false
      (c.loop-stored.invariant.rest headers counts);
}

pub returns-then-not-is_counted : goal.returns-then-not-is_counted
returns-then-not-is_counted c = λ headers counts.
    wrong_here (λ before. is_counted headers) c.args.table c.args.records.now c.loop-stored.stored-index c.loop-stored.row c.stored-item.result
    c.is_counted.result _
    c.loop-stored-test.true c.stored-item.is c.loop-stored.invariant.place (c.is_counted.ensures headers counts) c.if-not-is_counted.true
    (c.loop-stored.invariant.rest headers counts)

pub returns : goal.returns
returns c = λ headers counts. wrong_none (λ before. is_counted headers) c.args.table c.args.records.now c.loop-stored.stored-index _ c.loop-stored-test.false
    (c.loop-stored.invariant.rest headers counts)
