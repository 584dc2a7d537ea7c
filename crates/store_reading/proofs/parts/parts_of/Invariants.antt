use Rattle.std.proofs.Common.{take}
use Rattle.store_reading.specs.Posting.{AreParts}
use Rattle.store_reading.proofs.parts.parts_of.Given as goal

abbrev pub invariant-loop-stored : goal.invariant-loop-stored
invariant-loop-stored l = AreParts l.parts (take l.stored-index l.steps)
