use Rattle.std.proofs.Common.{◌≡◌, ◌+◌, Some, drop, ap, sym, ◌∙◌}
use Rattle.std.specs.HashMap.{get}
use Rattle.std.specs.List.{slice_get}
use Rattle.std.proofs.lemmas.List.{at_drop_more}
use Rattle.enq_base.specs.Ids.{id_of, same_id}
use Rattle.store_reading.specs.Intervals.{numbers_after, numbers_told}
use Rattle.store_reading.specs.Standings.{numbers_there}
use Rattle.store_reading.proofs.Draws.{there_is}
use Rattle.store_reading.proofs.numbers.places_of.Goals as goal

pub loop-place-preserved : goal.loop-place-preserved
loop-place-preserved c = λ key.
    let headers = c.args.headers.now in
    let place = c.loop-place.place in
    let r = c.index-headers-place.result in
    let before = numbers_there headers (get same_id c.loop-place.places (id_of key)) in
    let there : slice_get headers place ≡ Some r = there_is headers place r c.loop-place-test.true c.index-headers-place.is in
    ap (λ ns. numbers_after key ns (drop (place + 1) headers)) (c.in_ok-add_place.ensures headers there key)
    ∙ ap (λ x. numbers_after key (numbers_told key before x) (drop (place + 1) headers)) c.index-headers-place.is
    ∙ sym (at_drop_more (numbers_after key before) headers place r c.loop-place-test.true)
    ∙ c.loop-place.invariant key
