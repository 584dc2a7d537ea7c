use Rattle.std.proofs.Common.{◌<◌, ◌∙◌, ap, refl, sym, arith}
use Rattle.std.specs.List.{slice_get}
use Rattle.range_list.proofs.NextPlaces.{none_behind, none_more, some_more}
use Rattle.range_list.proofs.range_places.next_place.Goals as goal

pub loop-num-preserved : goal.loop-num-preserved
loop-num-preserved c = record {
  low = grind (arith, c.min-next.ensures, c.loop-num.invariant.low, c.place_from.ensures.low);
  high = grind (arith, c.min-next.ensures, c.loop-num.invariant.high);
  none = λ k r from before at.
      let first : k < c.loop-num.next = grind (arith, c.min-next.ensures, before) in
      let second : k < c.place_from.result = grind (arith, c.min-next.ensures, before) in
      none_more r.interval c.args.numbers.now c.loop-num.num-index c.num-item.result c.loop-num-test.true c.num-item.is
      (c.loop-num.invariant.none k r from first at) (c.place_from.ensures.none k r from second at);
  some = λ r at.
      some_more c.args.ranges.now c.args.numbers.now c.loop-num.num-index c.num-item.result c.loop-num.next c.place_from.result c.loop-num-test.true
      c.num-item.is c.loop-num.invariant.some
      c.place_from.ensures.some r (ap (slice_get c.args.ranges.now) (sym c.min-next.ensures) ∙ at);
}

pub loop-num-init : goal.loop-num-init
loop-num-init c = record {
  low = c.requires.within;
  high = omega arith;
  none = λ k r from before at. refl;
  some = λ r at. absurd (none_behind c.args.ranges.now r at);
}
