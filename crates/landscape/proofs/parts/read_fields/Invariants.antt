use Rattle.std.proofs.Common.{◌≡◌, drop, map}
use Rattle.toml.specs.View.{view}
use Rattle.landscape.specs.Objects.{field_of}
use Rattle.landscape.specs.Objects.{each}
use Rattle.landscape.proofs.EachSteps.{behind}
use Rattle.landscape.proofs.parts.read_fields.Given as goal

-- those so far, and the values that are left
abbrev pub invariant-loop-value : goal.invariant-loop-value
invariant-loop-value l = behind l.fields.items (each field_of (map view (drop l.value-index l.values))) ≡ each field_of (map view l.values)
