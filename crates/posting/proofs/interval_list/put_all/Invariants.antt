use Rattle.std.proofs.Common.{◌≡◌, ◌≤◌, ◌+◌, length, take}
use Rattle.ledger_steps.specs.Intervals.{with_levels}
use Rattle.posting.proofs.interval_list.put_all.Given as goal

abbrev pub invariant-loop-interval : goal.invariant-loop-interval
invariant-loop-interval l = record {
  levels : l.list.levels ≡ with_levels (take l.interval-index l.intervals) l.fn.list.levels;
  spare : length l.intervals ≤ l.list.spare + l.interval-index;
}
