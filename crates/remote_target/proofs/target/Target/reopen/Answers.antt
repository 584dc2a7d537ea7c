use Rattle.remote_target.proofs.Standing.{some_run}
use Rattle.remote_target.proofs.target.Target.reopen.Goals as goal

pub returns-clause-stands : goal.returns-clause-stands
returns-clause-stands g c = some_run g.K.Keeper.held c.open_rows.new.keeper c.in_ok-count.count c.in_ok-count.ensures.calls
