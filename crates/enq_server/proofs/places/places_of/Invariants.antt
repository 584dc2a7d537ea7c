use Rattle.std.proofs.Common.{◌≤◌, drop, length}
use Rattle.enq_server.specs.Recovery.{ArePlaces}
use Rattle.enq_server.proofs.places.places_of.Given as goal

abbrev pub invariant-loop-left : goal.invariant-loop-left
invariant-loop-left l = record {
  within : l.left ≤ length l.lists;
  places : ArePlaces l.places l.lists (drop l.left l.lists);
}

abbrev pub decreases-loop-left : goal.decreases-loop-left
decreases-loop-left l = l.left
