use Rattle.std.proofs.Common.{◌∷◌, []}
use Rattle.std.proofs.lemmas.List.{replicate_more}
use Rattle.turn_load.proofs.counting.CountTurnActCountBool.act.Goals as goal

pub returns-clause-grows : goal.returns-clause-grows
returns-clause-grows c = (0 ∷ [], replicate_more c.args.state.now.turns 0)
