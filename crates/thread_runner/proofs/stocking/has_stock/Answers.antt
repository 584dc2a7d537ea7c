use Rattle.std.proofs.Common.{sym, ◌∙◌}
use Rattle.thread_runner.proofs.Counted.{stock_there}
use Rattle.thread_runner.proofs.stocking.has_stock.Goals as goal

pub returns-then-is_named : goal.returns-then-is_named
returns-then-is_named c =
    sym (stock_there c.args.stocks.now c.args.object.now c.args.nr c.loop-stock.stock-index c.stock-item.result c.loop-stock-test.true c.stock-item.is
    (sym c.is_named.ensures ∙ c.if-is_named.true))
