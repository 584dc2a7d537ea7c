use Rattle.std.proofs.Common.{◌≡◌, ◌++◌, take}
use Rattle.ledger_steps.specs.Intervals.{interval_rows}
use Rattle.posting.proofs.batch.push_levels.Given as goal

abbrev pub invariant-loop-level : goal.invariant-loop-level
invariant-loop-level l = l.batch.items ≡ l.fn.batch.items ++ interval_rows (take l.level-index l.levels)
