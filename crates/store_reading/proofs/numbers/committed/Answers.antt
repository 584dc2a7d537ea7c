use Rattle.std.proofs.Common.{◌≡◌, ◌+◌, ◌++◌, ◌∷◌, [], take, ap, sym, ◌∙◌}
use Rattle.std.specs.List.{flat_map}
use Rattle.std.proofs.lemmas.List.{flat_map_more, take_all, take_more}
use Rattle.store_reading.specs.Intervals.{numbers_by}
use Rattle.store_reading.proofs.numbers.committed.Goals as goal

pub loop-stored-preserved : goal.loop-stored-preserved
loop-stored-preserved c =
    let numbers = numbers_by c.args.headers.now in
    let mark = c.stored-item.result in
    let before = take c.loop-stored.stored-index c.args.marks.now in
    let front : before ++ mark ∷ [] ≡ take (c.loop-stored.stored-index + 1) c.args.marks.now =
    ap (λ x. before ++ x ∷ []) c.stored-item.is ∙ sym (take_more c.args.marks.now c.loop-stored.stored-index mark c.loop-stored-test.true) in
    c.in_ok-extend_from_slice.ensures.items
    ∙ ap (λ ns. ns ++ c.numbers_by.result.now) c.loop-stored.invariant
    ∙ ap (λ ns. flat_map numbers before ++ ns) (c.numbers_by.ensures c.in_ok-places.ensures)
    ∙ flat_map_more numbers [] before mark
    ∙ ap (flat_map numbers) front

pub returns : goal.returns
returns c =
    c.loop-stored.invariant
    ∙ ap (flat_map (numbers_by c.args.headers.now)) (take_all c.loop-stored.stored-index c.args.marks.now c.loop-stored-test.false)
