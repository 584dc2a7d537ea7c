use Rattle.std.proofs.Common.{◌≡◌, ◌++◌, take, string_bytes}
use Rattle.monitors.specs.Monitors.{entry_lines}
use Rattle.monitors.proofs.lines.put_entries.Given as goal

-- the lines so far
abbrev pub invariant-loop-entry : goal.invariant-loop-entry
invariant-loop-entry l = string_bytes l.text ≡ string_bytes l.initial.text ++ entry_lines l.line (take l.entry-index l.entries)
