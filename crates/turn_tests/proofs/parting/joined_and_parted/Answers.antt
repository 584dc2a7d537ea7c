use Rattle.turn_tests.proofs.Seats.{back_from}
use Rattle.turn_tests.proofs.parting.joined_and_parted.Goals as goal

pub returns-clause-back : goal.returns-clause-back
returns-clause-back c =
    let back = c.join_and_part.ensures.back in
    (back_from _ _ _ c.learn.ensures.same back.0, back_from _ _ _ c.learn-2.ensures.same back.1)
