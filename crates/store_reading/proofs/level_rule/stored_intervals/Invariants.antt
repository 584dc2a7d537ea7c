use Rattle.std.proofs.Common.{take}
use Rattle.store_reading.specs.Standings.{AreStored}
use Rattle.store_reading.proofs.level_rule.stored_intervals.Given as goal

abbrev pub invariant-loop-level : goal.invariant-loop-level
invariant-loop-level l = AreStored l.stored (take l.level-index l.levels)
