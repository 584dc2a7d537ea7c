use Rattle.std.proofs.Common.{take}
use Rattle.store_reading.specs.Standings.{AreNumbers}
use Rattle.store_reading.proofs.numbers.lists_of.Given as goal

abbrev pub invariant-loop-num : goal.invariant-loop-num
invariant-loop-num l = AreNumbers l.lists (take l.num-index l.numbers)
