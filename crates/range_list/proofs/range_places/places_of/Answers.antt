use Rattle.std.proofs.Common.{◌∙◌, arith}
use Rattle.std.specs.HashMap.{get}
use Rattle.range_list.specs.RangePlaces.{range_id, same_range}
use Rattle.range_list.proofs.FoundByPlace.{places_more}
use Rattle.range_list.proofs.range_places.places_of.Goals as goal

pub loop-left-preserved : goal.loop-left-preserved
loop-left-preserved c = record {
  within = omega (arith, c.loop-left.invariant.within);
  places = λ object nr.
      c.in_ok-put.ensures object nr
      ∙ places_more c.args.intervals.now c.loop-left.left c.index-intervals-left.result object nr
      (get same_range c.loop-left.places (range_id object nr)) c.loop-left-test.true c.loop-left.invariant.within c.index-intervals-left.is
      (c.loop-left.invariant.places object nr);
}
