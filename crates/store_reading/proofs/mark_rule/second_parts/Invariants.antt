use Rattle.std.proofs.Common.{take}
use Rattle.store_reading.specs.Standings.{AreSecond}
use Rattle.store_reading.proofs.mark_rule.second_parts.Given as goal

abbrev pub invariant-loop-stored : goal.invariant-loop-stored
invariant-loop-stored l = AreSecond l.second (take l.stored-index l.headers)
