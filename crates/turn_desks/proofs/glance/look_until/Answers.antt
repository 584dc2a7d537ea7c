use Rattle.gauges.specs.Boards.{seen}
use Rattle.turn_desks.proofs.Glances.{found_longer, looked_last, none_yet, one_more}
use Rattle.turn_desks.proofs.glance.look_until.Goals as goal

pub loop-init : goal.loop-init
loop-init g c = record { own = c.requires.own; looked = none_yet c.args.past (seen c.args.pass.now) }

pub loop-preserved : goal.loop-preserved
loop-preserved g c = record {
  own = c.look-now.ensures.own;
  looked =
      one_more c.args.past _ _ _ c.loop.counter c.look-now.result c.loop.invariant.looked c.loop-test.true c.look-now.ensures.seen
      c.if-is_longer.false;
}

pub returns-then-is_longer : goal.returns-then-is_longer
returns-then-is_longer g c = record {
  own = c.look-now.ensures.own;
  looked =
      found_longer c.args.past _ _ _ c.loop.counter c.look-now.result c.loop.invariant.looked c.look-now.ensures.seen c.if-is_longer.true;
}

pub returns : goal.returns
returns g c = record {
  own = c.look.ensures.own;
  looked =
      looked_last c.args.past _ _ _ c.loop.counter c.look.result c.loop.invariant.looked c.loop-test.false c.look.ensures.seen;
}
