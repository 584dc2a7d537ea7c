use Rattle.std.proofs.Common.{None, Ok, refl}
use Rattle.remote_target.specs.Carrying.{executed_by}
use Rattle.remote_target.proofs.Lines.{carries_none}
use Rattle.remote_target.proofs.mem_carrier.deliver_sent.Goals as goal

pub returns : goal.returns
returns g c = carries_none (executed_by g.K.Keeper.held c.args.line.now) (executed_by g.K.Keeper.held c.args.line.now) (Ok None) refl refl
