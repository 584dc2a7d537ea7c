use Rattle.std.proofs.Common.{◌≡◌, true}
use Rattle.sqlite_tests.proofs.stops.commit_all.Given as goal

abbrev pub invariant-loop-done : goal.invariant-loop-done
invariant-loop-done g l = l.keeper.is_open ≡ true
