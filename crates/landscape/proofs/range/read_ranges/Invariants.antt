use Rattle.std.proofs.Common.{◌≡◌, [], drop, map}
use Rattle.toml.specs.View.{view}
use Rattle.landscape.specs.Broken.{in_turn}
use Rattle.landscape.specs.Ranges.{range_of}
use Rattle.landscape.proofs.range.read_ranges.Given as goal

-- those so far, and the values that are left
abbrev pub invariant-loop-value : goal.invariant-loop-value
invariant-loop-value l = in_turn range_of l.intervals.items (map view (drop l.value-index l.values)) ≡ in_turn range_of [] (map view l.values)
