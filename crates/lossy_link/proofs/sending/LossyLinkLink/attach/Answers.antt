use Rattle.std.proofs.Common.{◌≡◌, rules}
use Rattle.replica_link.specs.declared.fault.LinkFault.TheVariants as fault
use Rattle.lossy_link.specs.Wiring.{lost}
use Rattle.lossy_link.proofs.Follow.{lost-follows}
use Rattle.lossy_link.proofs.sending.LossyLinkLink.attach.Goals as goal

pub returns-then-self-clause-runs : goal.returns-then-self-clause-runs
returns-then-self-clause-runs g c =
    let is : c.lose.new.self ≡ lost fault.Failed c.args.self.now = search rules in
    λ _. lost-follows g.W.Wire.place g.W.Wire.may_bring g.W.Wire.may_answer c.args.self.now c.lose.new.self fault.Failed is

pub returns-in_default-clause-runs : goal.returns-in_default-clause-runs
returns-in_default-clause-runs g c =
    let is : c.lose-in_default.new.self ≡ lost fault.NoMemory c.args.self.now = search rules in
    λ _. lost-follows g.W.Wire.place g.W.Wire.may_bring g.W.Wire.may_answer c.args.self.now c.lose-in_default.new.self fault.NoMemory is
