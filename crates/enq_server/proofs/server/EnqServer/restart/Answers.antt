use Rattle.std.proofs.Common.{ap, subst}
use Rattle.enq_server.specs.Server.{IsRecovered}
use Rattle.enq_server.proofs.server.EnqServer.restart.Goals as goal

pub returns-clause-file : goal.returns-clause-file
returns-clause-file g c = λ t.
    subst (λ f. IsRecovered g.D.Disk.reads g.D.Disk.may_leave (g.D.Disk.reads f.disk) c.args.units.now c.restart.new.self.file)
    (ap (λ s. s.file) c.self.view_is) (c.in_ok-table.ensures.file t)
