use Rattle.number_stock.proofs.Keeps.{joined_limit}
use Rattle.number_stock.proofs.stock.Stock.join.Goals as goal

pub returns-clause-limit : goal.returns-clause-limit
returns-clause-limit c = joined_limit c.args.a.seat.me.0 c.args.b.seat.me.0 _ c.glue.ensures.both c.glue.ensures.learned.4
