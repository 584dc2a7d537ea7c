use Rattle.std.proofs.Common.{◌≡◌, true}
use Rattle.sqlite_tests.proofs.files.take_all.Given as goal

abbrev pub invariant-loop-step : goal.invariant-loop-step
invariant-loop-step l = l.keeper.is_open ≡ true
