use Rattle.std.proofs.Common.{ap}
use Rattle.posting.specs.Mirrors.{MirrorView}
use Rattle.posting.proofs.mirror.Mirror.register.Goals as goal

pub returns : goal.returns
returns c = ap (λ (v : MirrorView). v.ledger) c.self.view_is
