use Rattle.stock_laws.proofs.Answered.{commit_answers}
use Rattle.stock_laws.proofs.Shares.{none_respects, share_respects, stock_may}
use Rattle.stock_laws.proofs.laws.stocks_may_be_committed.Goals as goal

pub returns : goal.returns
returns c = record { may = stock_may; share = share_respects; none = none_respects; answers = commit_answers }
