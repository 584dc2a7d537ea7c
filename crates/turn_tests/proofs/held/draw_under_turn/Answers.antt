use Rattle.std.proofs.Common.{ap, ◌∙◌}
use Rattle.number_stock.specs.Seats.{hand, base_of}
use Rattle.number_stock.specs.declared.hand.Hand.{Hand}
use Rattle.turn_tests.proofs.Draws.{both_distinct}
use Rattle.turn_tests.proofs.held.draw_under_turn.Goals as goal

pub returns-then-in_time : goal.returns-then-in_time
returns-then-in_time g c =
    let answered : Hand → _ = λ v. v.answered in
    let none_yet = ap answered c.in-Ok.ensures.seat.1 in
    let drew = c.draw_beside-turn.ensures in
    both_distinct (base_of c.in-Ok.stock) (hand c.join-all.result).answered (hand c.draw_beside-turn.result.1.0.seat).answered (hand c.draw_beside-turn.result.1.1.seat).answered
    (hand c.split-one.result.0).answered (hand c.split-one.result.1).answered _ _
    c.join-all.ensures.distinct.1 (ap answered c.join-all.ensures.both) drew.one.1 drew.two.1
    (ap answered c.split-one.ensures.cut.0 ∙ none_yet) (ap answered c.split-one.ensures.cut.1)
