use Rattle.keeper_mem.specs.Memory.{IsSettled}
use Rattle.sending_tests.proofs.rows.put_all.Given as goal

abbrev pub invariant-loop-row : goal.invariant-loop-row
invariant-loop-row l = IsSettled l.keeper
