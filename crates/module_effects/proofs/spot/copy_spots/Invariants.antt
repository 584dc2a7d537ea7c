use Rattle.std.proofs.Common.{◌≡◌, take}
use Rattle.module_effects.proofs.spot.copy_spots.Given as goal

abbrev pub invariant-loop-spot : goal.invariant-loop-spot
invariant-loop-spot l = l.copies.items ≡ take l.spot-index l.spots
