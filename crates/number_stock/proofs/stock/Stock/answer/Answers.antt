use Rattle.std.proofs.Common.{arith}
use Rattle.number_stock.proofs.Keeps.{looks_told}
use Rattle.number_stock.proofs.stock.Stock.answer.Goals as goal

pub load-limit-requires : goal.load-limit-requires
load-limit-requires g c =
    (c.requires.own, omega (arith, c.args.self.now.two_words), looks_told _ _ _ _ _ _ _ c.requires.told.0 c.requires.told.1 c.requires.unanswered)
