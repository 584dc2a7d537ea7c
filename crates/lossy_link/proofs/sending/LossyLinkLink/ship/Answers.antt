use Rattle.replica_link.specs.declared.fault.LinkFault.TheVariants as fault
use Rattle.lossy_link.proofs.Follow.{lost-follows}
use Rattle.lossy_link.proofs.sending.LossyLinkLink.ship.Goals as goal

pub returns-then-seq-eq18446744073709551615-clause-runs : goal.returns-then-seq-eq18446744073709551615-clause-runs
returns-then-seq-eq18446744073709551615-clause-runs g c = λ _. lost-follows g.W.Wire.place g.W.Wire.may_bring g.W.Wire.may_answer c.args.self.now
    c.lose.new.self fault.Failed c.lose.ensures.lost
