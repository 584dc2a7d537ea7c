use Rattle.std.specs.Prelude.{◌≡◌, false}
use Rattle.device_tests.proofs.steps.check_steps.Given as goal

abbrev pub invariant-loop-step : goal.invariant-loop-step
invariant-loop-step g l = l.server.file.failed ≡ false
