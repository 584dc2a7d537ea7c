use Rattle.std.proofs.Common.{take}
use Rattle.store_reading.specs.Standings.{AreRecorded}
use Rattle.store_reading.proofs.unit_rows.recorded_units.Given as goal

abbrev pub invariant-loop-stored : goal.invariant-loop-stored
invariant-loop-stored l = AreRecorded l.recorded (take l.stored-index l.marks)
