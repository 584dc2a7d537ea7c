use Rattle.std.proofs.Common.{◌≡◌, take}
use Rattle.store_reading.specs.Rules.{marks_in}
use Rattle.store_reading.specs.Told.{records_in}
use Rattle.store_reading.proofs.units.marks_in.Given as goal

abbrev pub invariant-loop-stored : goal.invariant-loop-stored
invariant-loop-stored l = l.marks.items ≡ marks_in (take l.stored-index (records_in l.records 4))
