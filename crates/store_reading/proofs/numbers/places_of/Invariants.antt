use Rattle.std.proofs.Common.{◌≡◌, drop}
use Rattle.std.specs.HashMap.{get}
use Rattle.enq_base.specs.declared.owner.UnitKey.{UnitKey}
use Rattle.enq_base.specs.Ids.{id_of, same_id}
use Rattle.store_reading.specs.Intervals.{numbers_after, numbers_at}
use Rattle.store_reading.specs.Standings.{numbers_there}
use Rattle.store_reading.proofs.numbers.places_of.Given as goal

abbrev pub invariant-loop-place : goal.invariant-loop-place
invariant-loop-place l =
    (key : UnitKey) → numbers_after key (numbers_there l.headers (get same_id l.places (id_of key))) (drop l.place l.headers) ≡ numbers_at l.headers key
