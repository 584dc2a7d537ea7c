use Rattle.std.proofs.Common.{◌≡◌, map, take}
use Rattle.std.specs.List.{flat_map}
use Rattle.update_records.specs.Intervals.{entry_of}
use Rattle.store_reading.specs.Stores.{level_entry}
use Rattle.store_reading.proofs.ledger.intervals_in.Given as goal

abbrev pub invariant-loop-stored : goal.invariant-loop-stored
invariant-loop-stored l = map entry_of l.intervals.items ≡ flat_map level_entry (take l.stored-index l.levels)
