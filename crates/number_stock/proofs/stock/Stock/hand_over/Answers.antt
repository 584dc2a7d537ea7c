use Rattle.std.proofs.Common.{subst}
use Rattle.number_stock.specs.Rule.{OwnsAnswers}
use Rattle.number_stock.proofs.stock.Stock.hand_over.Goals as goal

pub returns-clause-owns : goal.returns-clause-owns
returns-clause-owns c = (subst OwnsAnswers c.learn-2.ensures.same c.learn-2.ensures.owns, subst OwnsAnswers c.learn.ensures.same c.learn.ensures.owns)
