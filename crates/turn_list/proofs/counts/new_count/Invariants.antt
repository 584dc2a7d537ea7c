use Rattle.turn_list.proofs.Pushing.{IsSummed}
use Rattle.turn_list.proofs.counts.new_count.Given as goal

abbrev pub invariant-loop-start : goal.invariant-loop-start
invariant-loop-start l = IsSummed l.slots l.unit l.start l.width l.count

abbrev pub decreases-loop-start : goal.decreases-loop-start
decreases-loop-start l = l.start
