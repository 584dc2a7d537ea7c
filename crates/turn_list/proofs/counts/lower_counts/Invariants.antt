use Rattle.turn_list.specs.Counts.{IsLowered}
use Rattle.turn_list.proofs.counts.lower_counts.Given as goal

abbrev pub invariant-loop-level : goal.invariant-loop-level
invariant-loop-level l = IsLowered l.slots l.turn l.counts l.level
