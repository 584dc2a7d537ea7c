use Rattle.std.proofs.Common.{length, take, ◌-◌, ◌≡◌, ◌≤◌}
use Rattle.enq_server.proofs.recovery.first_difference.Given as goal

abbrev pub invariant-loop-before : goal.invariant-loop-before
invariant-loop-before l = record {
  within : l.before ≤ length l.known;
  inside : l.before ≤ length l.listed;
  same : take l.before l.known ≡ take l.before l.listed;
}

abbrev pub decreases-loop-before : goal.decreases-loop-before
decreases-loop-before l = length l.known - l.before
