use Rattle.keeper_mem.specs.Memory.{IsSettled}
use Rattle.books_tests.proofs.openings.put_lines_but.Given as goal

abbrev pub invariant-loop-place : goal.invariant-loop-place
invariant-loop-place l = IsSettled l.keeper
