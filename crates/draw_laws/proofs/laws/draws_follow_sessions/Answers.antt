use Rattle.std.proofs.Common.{map}
use Rattle.std.specs.List.{filter}
use Rattle.draw_laws.proofs.OverSessions.{session_commits, session_commits_stock, session_draws_buffered, session_draws_plain, session_gives_back}
use Rattle.draw_laws.proofs.OverSessions.{session_has_digits, session_may_commit, session_may_commit_stock, session_stock_digits}
use Rattle.draw_laws.proofs.SessionDraws.{fewer_drawn, fewer_left}
use Rattle.draw_laws.proofs.laws.draws_follow_sessions.Goals as goal

pub returns-clause-gives_back : goal.returns-clause-gives_back
returns-clause-gives_back g c = session_gives_back

pub returns-clause-goes : goal.returns-clause-goes
returns-clause-goes g c = λ draws_of stays sessions ranges levels committed h.
    fewer_drawn ranges levels (map draws_of sessions) (map draws_of (filter stays sessions)) committed (fewer_left draws_of stays sessions) h

pub returns-clause-plain : goal.returns-clause-plain
returns-clause-plain g c = session_draws_plain

pub returns-clause-buffered : goal.returns-clause-buffered
returns-clause-buffered g c = session_draws_buffered

pub returns-clause-commits : goal.returns-clause-commits
returns-clause-commits g c = session_commits

pub returns-clause-may_commit : goal.returns-clause-may_commit
returns-clause-may_commit g c = λ draws_of test sessions x found ledger ranges h. (
  session_may_commit draws_of test (λ s. s) sessions x found ledger ranges h,
  session_has_digits draws_of test
      (λ s. s) sessions x found ranges ledger.levels _ h,
)

pub returns-clause-commits_stock : goal.returns-clause-commits_stock
returns-clause-commits_stock g c = λ draws_of test change sessions x found ranges levels committed stock none fits h.
    session_commits_stock draws_of test change sessions x found ranges levels committed stock fits h none

pub returns-clause-may_commit_stock : goal.returns-clause-may_commit_stock
returns-clause-may_commit_stock g c = λ draws_of test sessions x found ledger ranges stock fits h. (
  session_may_commit_stock draws_of test (λ s. s) sessions x found ledger ranges stock fits h,
  session_stock_digits draws_of test
      (λ s. s) sessions x found ranges ledger.levels _ stock fits h,
)
