use Rattle.std.proofs.Common.{◌≡◌, take}
use Rattle.std.specs.List.{flat_map}
use Rattle.store_reading.specs.Intervals.{numbers_by}
use Rattle.store_reading.proofs.numbers.committed.Given as goal

abbrev pub invariant-loop-stored : goal.invariant-loop-stored
invariant-loop-stored l = l.numbers.items ≡ flat_map (numbers_by l.headers) (take l.stored-index l.marks)
