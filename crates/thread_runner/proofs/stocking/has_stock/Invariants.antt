use Rattle.std.proofs.Common.{◌≡◌, false, map, take}
use Rattle.turn_desks.specs.Stocks.{fact_of, is_of_stock}
use Rattle.thread_runner.proofs.stocking.has_stock.Given as goal

abbrev pub invariant-loop-stock : goal.invariant-loop-stock
invariant-loop-stock l = is_of_stock (map fact_of (take l.stock-index l.stocks)) l.object l.nr ≡ false
