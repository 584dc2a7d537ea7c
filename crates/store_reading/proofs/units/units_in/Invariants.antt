use Rattle.std.proofs.Common.{◌≡◌, map, take}
use Rattle.update_records.specs.Ledger.{recorded}
use Rattle.store_reading.specs.Rules.{marks_in}
use Rattle.store_reading.specs.Stores.{unit_in}
use Rattle.store_reading.specs.Told.{records_in}
use Rattle.store_reading.proofs.units.units_in.Given as goal

abbrev pub invariant-loop-stored : goal.invariant-loop-stored
invariant-loop-stored l =
    l.units.items ≡ map (unit_in (records_in l.records 1) (records_in l.records 3) (records_in l.records 7))
    (recorded (marks_in (take l.stored-index (records_in l.records 4))))
