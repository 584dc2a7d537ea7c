use Rattle.number_stock.proofs.Keeps.{joined_limit}
use Rattle.number_stock.proofs.stock.Stock.absorb.Goals as goal

pub returns-clause-limit : goal.returns-clause-limit
returns-clause-limit c = joined_limit c.args.seat.now.seat.me.0 c.args.other.seat.me.0 _ c.glue.ensures.both c.glue.ensures.learned.4
