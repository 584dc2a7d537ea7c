use Rattle.std.proofs.Common.{arith}
use Rattle.number_stock.proofs.lemmas.Apart.{owns_allowed}
use Rattle.number_stock.proofs.stock.Stock.learn.Goals as goal

pub load-requires : goal.load-requires
load-requires c = (c.requires.own, omega (arith, c.args.self.now.two_words), owns_allowed _ _ _ _)
