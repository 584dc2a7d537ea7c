use Rattle.thread_tests.proofs.Stocks.{no_stock_may}
use Rattle.thread_tests.proofs.again.is_answered_so.Goals as goal

pub serve-again-requires : goal.serve-again-requires
serve-again-requires c = no_stock_may c.args.hall.now.state _ (c.has_no_stock.ensures c.if-not-has_no_stock.false)
