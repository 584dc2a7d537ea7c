use Rattle.std.proofs.Common.{take}
use Rattle.store_reading.specs.Standings.{AreRows}
use Rattle.store_reading.proofs.unit_rows.rows_of.Given as goal

abbrev pub invariant-loop-stored : goal.invariant-loop-stored
invariant-loop-stored l = AreRows l.rows (take l.stored-index l.records)
