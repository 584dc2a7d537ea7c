use Rattle.std.proofs.Common.{arith}
use Rattle.store_reading.specs.Units.{is_recorded_header}
use Rattle.store_reading.proofs.Firsts.{wrong_here, wrong_more, wrong_none}
use Rattle.store_reading.proofs.unit_rule.unrecorded_header.Goals as goal

pub loop-stored-preserved : goal.loop-stored-preserved
loop-stored-preserved c = record {
  place = omega arith;
  rest = λ marks recorded. wrong_more (λ before. is_recorded_header marks) 1 c.args.headers.now c.loop-stored.stored-index c.loop-stored.row
      c.stored-item.result c.is_recorded_header.result _
      c.loop-stored-test.true c.stored-item.is c.loop-stored.invariant.place (c.is_recorded_header.ensures marks recorded) c.if-not-is_recorded_header.false
      (c.loop-stored.invariant.rest marks recorded);
}

pub returns-then-not-is_recorded_header : goal.returns-then-not-is_recorded_header
returns-then-not-is_recorded_header c = λ marks recorded.
    wrong_here (λ before. is_recorded_header marks) 1 c.args.headers.now c.loop-stored.stored-index c.loop-stored.row c.stored-item.result
    c.is_recorded_header.result _
    c.loop-stored-test.true c.stored-item.is c.loop-stored.invariant.place (c.is_recorded_header.ensures marks recorded) c.if-not-is_recorded_header.true
    (c.loop-stored.invariant.rest marks recorded)

pub returns : goal.returns
returns c = λ marks recorded. wrong_none (λ before. is_recorded_header marks) 1 c.args.headers.now c.loop-stored.stored-index _ c.loop-stored-test.false
    (c.loop-stored.invariant.rest marks recorded)
