use Rattle.keeper_mem.specs.Memory.{IsSettled}
use Rattle.books_tests.proofs.lines.put_lines.Given as goal

abbrev pub invariant-loop-line : goal.invariant-loop-line
invariant-loop-line l = IsSettled l.keeper
