use Rattle.std.proofs.Common.{ap, sym, ◌∙◌}
use Rattle.number_stock.specs.declared.hand.Hand.{Hand}
use Rattle.number_stock.specs.Seats.{hand}
use Rattle.number_stock.proofs.lemmas.Apart.{was_joined}
use Rattle.turn_tests.proofs.Seats.{has_back, joined_as}
use Rattle.turn_tests.proofs.parting.join_and_part.Goals as goal

pub part-requires-clause-joined : goal.part-requires-clause-joined
part-requires-clause-joined g c =
    joined_as _ _ _ _ _ c.requires.told.0 c.requires.told.1
    (was_joined _ _ _ c.join-both.ensures.both c.requires.second c.requires.owns.0 c.requires.owns.1)

pub part-requires-clause-told : goal.part-requires-clause-told
part-requires-clause-told g c = ap (λ (x : Hand). x.draws) c.requires.told.1 ∙ sym c.left-draws.ensures

pub returns-clause-back : goal.returns-clause-back
returns-clause-back g c =
    let apart = c.part.ensures.parted in
    let whole = hand c.join-both.result in
    (has_back _ _ _ whole apart.0 c.requires.told.0, has_back _ _ _ whole apart.1 c.requires.told.1)
