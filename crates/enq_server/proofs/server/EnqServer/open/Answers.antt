use Rattle.std.proofs.Common.{subst}
use Rattle.enq_server.specs.Server.{IsRecovered}
use Rattle.enq_server.proofs.server.EnqServer.open.Goals as goal

pub returns-in-Ok-clause-file : goal.returns-in-Ok-clause-file
returns-in-Ok-clause-file g c = λ t.
    subst (λ d. IsRecovered g.D.Disk.reads g.D.Disk.may_leave (g.D.Disk.reads d) c.args.units.now c.read_anew.new.backup) c.unread-backup.ensures.disk
    (c.in-Ok.ensures.file t)
