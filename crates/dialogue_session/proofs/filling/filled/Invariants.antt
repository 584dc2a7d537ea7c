use Rattle.std.proofs.Common.{◌≡◌, length}
use Rattle.std.specs.Prelude.{Ok}
use Rattle.dialogue_session.specs.Filling.{filled, joined}
use Rattle.dialogue_session.proofs.filling.filled.Given as goal

-- the text so far, and the rest with its texts behind it, are the part with its texts
abbrev pub invariant-rest : goal.invariant-rest
invariant-rest l = joined (Ok l.text.items) (filled l.variables.items l.rest) ≡ filled l.variables.items l.part

abbrev pub decreases-rest : goal.decreases-rest
decreases-rest l = length l.rest
