use Rattle.std.proofs.Common.{◌<◌, ◌+◌, ◌^◌, ap, subst, sym, ◌∙◌}
use Rattle.enq_base.specs.declared.unit.Num.{Num}
use Rattle.ledger_steps.specs.Levels.{AreApart, intervals_of}
use Rattle.range_list.specs.RangePlaces.{ArePlaces}
use Rattle.draw_laws.proofs.HandedOut.{all_next, passed_by_intervals, passed_next}
use Rattle.range_list.proofs.range_places.pass_all.Goals as goal

pub loop-num-preserved : goal.loop-num-preserved
loop-num-preserved c = record {
  rest = passed_next c.args.numbers.now c.loop-num.num-index c.num-item.result c.loop-num.ranges c.pass.new.ranges c.loop-num-test.true c.num-item.is
      c.pass.ensures ∙ c.loop-num.invariant.rest;
  intervals = ap intervals_of c.pass.ensures ∙ passed_by_intervals c.num-item.result c.loop-num.ranges ∙ c.loop-num.invariant.intervals;
  room = (all_next (λ (num : Num). num.number + 1 < 2 ^ 64) c.args.numbers.now c.loop-num.num-index c.num-item.result c.loop-num-test.true c.num-item.is
      c.loop-num.invariant.room).1;
}

pub pass-requires : goal.pass-requires
pass-requires c = record {
  places = subst (ArePlaces c.args.places.now) (sym c.loop-num.invariant.intervals) c.requires.places;
  apart = subst AreApart (sym c.loop-num.invariant.intervals) c.requires.apart;
  room = (all_next (λ (num : Num). num.number + 1 < 2 ^ 64) c.args.numbers.now c.loop-num.num-index c.num-item.result c.loop-num-test.true c.num-item.is
      c.loop-num.invariant.room).0;
}
