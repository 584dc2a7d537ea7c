use Rattle.std.proofs.Common.{◌≡◌, length}
use Rattle.script_runner.specs.Lines.{field_values}
use Rattle.script_runner.proofs.Filled.{values_behind}
use Rattle.script_runner.proofs.requests.field_values.Given as goal

-- the values so far, and those in the rest, are the values of the line
abbrev pub invariant-rest : goal.invariant-rest
invariant-rest l = values_behind l.all.items (field_values l.side.side.variables l.rest) ≡ field_values l.side.side.variables l.values

abbrev pub decreases-rest : goal.decreases-rest
decreases-rest l = length l.rest
