use Rattle.std.proofs.Common.{◌≡◌, [], drop, map}
use Rattle.toml.specs.View.{view}
use Rattle.landscape.specs.Broken.{in_turn}
use Rattle.landscape.specs.Objects.{read_object}
use Rattle.landscape.proofs.object.read_objects.Given as goal

-- those so far, and the values that are left
abbrev pub invariant-loop-value : goal.invariant-loop-value
invariant-loop-value l = in_turn read_object l.objects.items (map view (drop l.value-index l.values)) ≡ in_turn read_object [] (map view l.values)
