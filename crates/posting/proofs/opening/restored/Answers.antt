use Rattle.std.proofs.Common.{sym, ap, ◌∙◌}
use Rattle.posting.specs.Mirrors.{business}
use Rattle.posting.proofs.opening.restored.Goals as goal

pub new-requires : goal.new-requires
new-requires c = c.requires.rows ∙ ap business (sym c.in-Ok.ensures)
