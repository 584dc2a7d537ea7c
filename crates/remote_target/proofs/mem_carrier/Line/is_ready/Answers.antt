use Rattle.std.proofs.Common.{None, Ok, refl}
use Rattle.remote_target.specs.Carrying.{executed_by}
use Rattle.remote_target.proofs.Lines.{carries_none}
use Rattle.remote_target.proofs.mem_carrier.Line.is_ready.Goals as goal

pub returns-clause-carries : goal.returns-clause-carries
returns-clause-carries g c = carries_none (executed_by g.K.Keeper.held c.args.self.now) (executed_by g.K.Keeper.held c.args.self.now) (Ok None) refl refl
