use Rattle.std.proofs.Common.{ap, ◌∙◌}
use Rattle.posting.specs.Mirrors.{business, MirrorView}
use Rattle.posting.proofs.mirror.Mirror.rows.Goals as goal

pub returns : goal.returns
returns c = c.self.invariant ∙ ap (λ (v : MirrorView). business v.ledger) c.self.view_is
