use Rattle.std.proofs.Common.{sym, subst}
use Rattle.hall_laws.proofs.keeping.DrawnNumbers.{no_stock_in}
use Rattle.hall_model.specs.Stocks.{IsStockIn}
use Rattle.hall_tests.proofs.calls.no_stock.Goals as goal

pub returns : goal.returns
returns c s = subst (IsStockIn s) (sym c.new.ensures.items) (no_stock_in s)
