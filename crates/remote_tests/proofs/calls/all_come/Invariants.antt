use Rattle.keeper_mem.specs.Memory.{IsSettled}
use Rattle.remote_tests.proofs.calls.all_come.Given as goal

abbrev pub invariant-loop-call : goal.invariant-loop-call
invariant-loop-call l = IsSettled l.target.keeper
