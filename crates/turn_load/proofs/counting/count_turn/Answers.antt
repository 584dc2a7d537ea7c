use Rattle.turn_load.proofs.Counts.{turn_added}
use Rattle.turn_load.proofs.counting.count_turn.Goals as goal

pub returns-clause-counted : goal.returns-clause-counted
returns-clause-counted g c =
    let turn = c.with.ensures.ran in turn_added _ turn.before.turns turn.after.turns _ _ turn.ran turn.own
