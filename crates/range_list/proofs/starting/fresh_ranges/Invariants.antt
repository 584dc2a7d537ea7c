use Rattle.std.proofs.Common.{◌≡◌, take}
use Rattle.ledger_steps.specs.Levels.{intervals_of}
use Rattle.range_list.proofs.starting.fresh_ranges.Given as goal

abbrev pub invariant-loop-interval : goal.invariant-loop-interval
invariant-loop-interval l = intervals_of l.ranges.items ≡ take l.interval-index l.intervals
