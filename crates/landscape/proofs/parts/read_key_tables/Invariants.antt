use Rattle.std.proofs.Common.{◌≡◌, drop, map}
use Rattle.toml.specs.View.{view}
use Rattle.landscape.specs.Objects.{key_table_of}
use Rattle.landscape.specs.Objects.{each}
use Rattle.landscape.proofs.EachSteps.{behind}
use Rattle.landscape.proofs.parts.read_key_tables.Given as goal

-- those so far, and the values that are left
abbrev pub invariant-loop-value : goal.invariant-loop-value
invariant-loop-value l = behind l.tables.items (each key_table_of (map view (drop l.value-index l.values))) ≡ each key_table_of (map view l.values)
