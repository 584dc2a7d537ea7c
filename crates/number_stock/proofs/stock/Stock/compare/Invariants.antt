use Rattle.number_stock.specs.Rule.{rest_of}
use Rattle.number_stock.specs.Seats.{hand}
use Rattle.number_stock.proofs.stock.Stock.compare.Given as goal

abbrev pub ghosts-compare_as : goal.ghosts-compare_as
ghosts-compare_as a = record { first = hand a.right.now; second = rest_of (hand a.seat.now) }
