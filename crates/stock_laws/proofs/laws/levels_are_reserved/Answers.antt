use Rattle.stock_laws.proofs.Reserving.{level_reserved, reservation_answers}
use Rattle.stock_laws.proofs.laws.levels_are_reserved.Goals as goal

pub returns : goal.returns
returns c = record { reserved = level_reserved; answers = reservation_answers }
