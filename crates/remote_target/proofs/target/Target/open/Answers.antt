use Rattle.remote_target.proofs.Standing.{some_run}
use Rattle.remote_target.proofs.target.Target.open.Goals as goal

pub returns-in-Ok-clause-stands : goal.returns-in-Ok-clause-stands
returns-in-Ok-clause-stands g c = some_run g.K.Keeper.held c.open_rows.new.keeper c.in-Ok.count c.in-Ok.ensures.calls
