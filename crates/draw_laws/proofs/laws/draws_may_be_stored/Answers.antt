use Rattle.draw_laws.proofs.StoredDraws.{may_commit, may_raise}
use Rattle.draw_laws.proofs.StockBehind.{run_is_stock}
use Rattle.draw_laws.proofs.laws.draws_may_be_stored.Goals as goal

pub returns-clause-commit : goal.returns-clause-commit
returns-clause-commit c = may_commit

pub returns-clause-level : goal.returns-clause-level
returns-clause-level c = may_raise

pub returns-clause-stock : goal.returns-clause-stock
returns-clause-stock c = run_is_stock
