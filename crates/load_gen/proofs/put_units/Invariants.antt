use Rattle.std.proofs.Common.{◌≡◌, ◌++◌, string_bytes}
use Rattle.load_gen.specs.Script.{text_of, unit_lines}
use Rattle.load_gen.proofs.put_units.Given as goal

-- the lines of the units so far
abbrev pub invariant-loop-done : goal.invariant-loop-done
invariant-loop-done l = string_bytes l.text ≡ string_bytes l.initial.text ++ text_of (unit_lines l.done)
