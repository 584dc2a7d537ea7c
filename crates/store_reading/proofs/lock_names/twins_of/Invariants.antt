use Rattle.std.proofs.Common.{List, take}
use Rattle.std.specs.List.{flat_map}
use Rattle.update_records.specs.declared.stored.Record.{Record}
use Rattle.store_reading.specs.Standings.{AreCounts, AreNames, AreTwins}
use Rattle.store_reading.specs.Units.{names_in}
use Rattle.store_reading.proofs.lock_names.twins_of.Given as goal

abbrev pub invariant-loop-stored : goal.invariant-loop-stored
invariant-loop-stored l = (headers : List Record) → AreCounts l.counts headers
    → AreNames l.seen (flat_map (names_in headers) (take l.stored-index l.locks)) × AreTwins l.twins (flat_map (names_in headers) (take l.stored-index l.locks))
