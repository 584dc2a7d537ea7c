use Rattle.std.proofs.Common.{arith}
use Rattle.number_stock.proofs.Keeps.{yields_allowed}
use Rattle.number_stock.proofs.stock.Stock.cut_unused.Goals as goal

pub split_seat-unused-requires : goal.split_seat-unused-requires
split_seat-unused-requires c = (c.requires.own, omega (arith, c.args.self.now.two_words), yields_allowed _ _ _)
