use Rattle.std.proofs.Common.{◌≤◌, drop, length}
use Rattle.range_list.specs.RangePlaces.{ArePlacesFrom}
use Rattle.range_list.proofs.range_places.places_of.Given as goal

abbrev pub invariant-loop-left : goal.invariant-loop-left
invariant-loop-left l = record {
  within : l.left ≤ length l.intervals;
  places : ArePlacesFrom l.left l.places (drop l.left l.intervals);
}

abbrev pub decreases-loop-left : goal.decreases-loop-left
decreases-loop-left l = l.left
