use Rattle.std.proofs.Common.{◌≡◌, map}
use Rattle.std.specs.List.{range_with_len}
use Rattle.ledger_steps.specs.Drawn.{num_of}
use Rattle.hall_tests.proofs.calls.numbers_from.Given as goal

abbrev pub invariant-loop-done : goal.invariant-loop-done
invariant-loop-done l = l.numbers.items ≡ map (num_of l.interval) (range_with_len l.first l.done)
