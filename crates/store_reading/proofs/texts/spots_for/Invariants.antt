use Rattle.std.proofs.Common.{◌≡◌, map, take}
use Rattle.store_reading.specs.Posting.{spot_for}
use Rattle.store_reading.proofs.texts.spots_for.Given as goal

abbrev pub invariant-loop-effect : goal.invariant-loop-effect
invariant-loop-effect l = l.spots.items ≡ map (spot_for l.texts) (take l.effect-index l.effects)
