use Rattle.std.proofs.Common.{◌≡◌, ◌++◌, take, string_bytes}
use Rattle.monitors.specs.Monitors.{range_lines}
use Rattle.monitors.proofs.lines.put_ranges.Given as goal

-- the lines so far
abbrev pub invariant-loop-range : goal.invariant-loop-range
invariant-loop-range l = string_bytes l.text ≡ string_bytes l.initial.text ++ range_lines l.line (take l.range-index l.ranges)
