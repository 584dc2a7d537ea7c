use Rattle.std.proofs.Common.{◌≡◌, ◌≤◌, length, drop}
use Rattle.update_records.specs.Intervals.{levels_of}
use Rattle.posting.proofs.restoring.interval_list.Given as goal

abbrev pub invariant-loop-left : goal.invariant-loop-left
invariant-loop-left l = record {
  bound : l.left ≤ length l.intervals;
  levels : l.list.levels ≡ levels_of (drop l.left l.intervals);
}

abbrev pub decreases-loop-left : goal.decreases-loop-left
decreases-loop-left l = l.left
