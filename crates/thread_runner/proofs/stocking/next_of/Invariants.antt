use Rattle.std.proofs.Common.{◌≡◌, Some, drop}
use Rattle.ledger_steps.specs.Levels.{range_at}
use Rattle.ledger_steps.specs.declared.range.NumberRange.{NumberRange}
use Rattle.thread_runner.proofs.stocking.next_of.Given as goal

abbrev pub invariant-loop-range : goal.invariant-loop-range
invariant-loop-range l =
    (r : NumberRange) → range_at l.found l.object l.nr ≡ Some r → range_at (drop l.range-index l.found) l.object l.nr ≡ Some r
