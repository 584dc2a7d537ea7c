use Rattle.std.proofs.Common.{◌≡◌, drop, map}
use Rattle.toml.specs.View.{view}
use Rattle.landscape.specs.Tables.{name_in}
use Rattle.landscape.specs.Objects.{each}
use Rattle.landscape.proofs.EachSteps.{behind}
use Rattle.landscape.proofs.parts.read_names.Given as goal

-- those so far, and the values that are left
abbrev pub invariant-loop-value : goal.invariant-loop-value
invariant-loop-value l = behind l.names.items (each name_in (map view (drop l.value-index l.values))) ≡ each name_in (map view l.values)
