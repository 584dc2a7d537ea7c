use Rattle.std.proofs.Common.{arith}
use Rattle.number_stock.proofs.lemmas.Apart.{parts_allowed}
use Rattle.number_stock.proofs.stock.Stock.sever.Goals as goal

pub split_seat-given-requires : goal.split_seat-given-requires
split_seat-given-requires g c = (c.requires.own, omega (arith, c.args.self.now.two_words), parts_allowed _ _ _ _ _ c.requires.joined)
