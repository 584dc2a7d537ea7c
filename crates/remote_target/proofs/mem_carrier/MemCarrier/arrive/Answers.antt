use Rattle.std.proofs.Common.{subst}
use Rattle.remote_target.specs.Carrying.{Carries, executed_by}
use Rattle.remote_target.proofs.mem_carrier.MemCarrier.arrive.Goals as goal

pub returns-clause-carries : goal.returns-clause-carries
returns-clause-carries g c = subst (λ v. Carries (executed_by g.K.Keeper.held v.line) (executed_by g.K.Keeper.held c.carry.new.line) c.carry.result)
    c.self.view_is c.carry.ensures
