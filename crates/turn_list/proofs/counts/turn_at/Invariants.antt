use Rattle.std.proofs.Common.{◌≤◌}
use Rattle.turn_list.proofs.Finding.{IsNear}
use Rattle.turn_list.proofs.counts.turn_at.Given as goal

abbrev pub invariant-loop-level : goal.invariant-loop-level
invariant-loop-level l = record {
  low : l.level ≤ 21;
  near : IsNear l.slots l.place l.level l.turn l.left;
}

abbrev pub decreases-loop-level : goal.decreases-loop-level
decreases-loop-level l = l.level
