use Rattle.keeper_mem.specs.Memory.{IsSettled}
use Rattle.remote_tests.proofs.bad_rows.put_all.Given as goal

abbrev pub invariant-loop-row : goal.invariant-loop-row
invariant-loop-row l = IsSettled l.keeper
