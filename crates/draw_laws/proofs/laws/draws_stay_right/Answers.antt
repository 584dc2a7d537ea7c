use Rattle.draw_laws.proofs.Drawing.{buffered_drawn, plain_drawn}
use Rattle.draw_laws.proofs.Recording.{commit_drawn, raised_drawn}
use Rattle.draw_laws.proofs.Stocks.{stock_drawn}
use Rattle.draw_laws.proofs.laws.draws_stay_right.Goals as goal

pub returns-clause-plain : goal.returns-clause-plain
returns-clause-plain c = plain_drawn

pub returns-clause-buffered : goal.returns-clause-buffered
returns-clause-buffered c = buffered_drawn

pub returns-clause-raised : goal.returns-clause-raised
returns-clause-raised c = raised_drawn

pub returns-clause-committed : goal.returns-clause-committed
returns-clause-committed c = commit_drawn

pub returns-clause-stock : goal.returns-clause-stock
returns-clause-stock c = stock_drawn
