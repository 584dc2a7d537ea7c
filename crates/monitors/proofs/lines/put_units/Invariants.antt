use Rattle.std.proofs.Common.{◌≡◌, ◌++◌, take, string_bytes}
use Rattle.monitors.specs.Monitors.{unit_lines}
use Rattle.monitors.proofs.lines.put_units.Given as goal

-- the lines so far
abbrev pub invariant-loop-unit : goal.invariant-loop-unit
invariant-loop-unit l = string_bytes l.text ≡ string_bytes l.initial.text ++ unit_lines l.line (take l.unit-index l.units)
