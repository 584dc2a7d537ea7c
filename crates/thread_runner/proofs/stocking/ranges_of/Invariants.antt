use Rattle.std.proofs.Common.{◌≡◌, ◌≤◌, length, take, vec_capacity}
use Rattle.ledger_steps.specs.Levels.{intervals_of}
use Rattle.thread_runner.proofs.stocking.ranges_of.Given as goal

abbrev pub invariant-loop-range : goal.invariant-loop-range
invariant-loop-range l = record {
  items : l.intervals.items ≡ intervals_of (take l.range-index l.found);
  long : length l.intervals.items ≡ l.range-index;
  room : length l.found ≤ vec_capacity l.intervals;
}
