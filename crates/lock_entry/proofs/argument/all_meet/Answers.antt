use Rattle.std.proofs.Common.{◌∙◌}
use Rattle.lock_entry.proofs.Arguments.{pointwise-zip}
use Rattle.lock_entry.specs.Argument.{bytes_meet}
use Rattle.lock_entry.proofs.argument.all_meet.Goals as goal

pub returns-then-a-b : goal.returns-then-a-b
returns-then-a-b c = c.pairs_meet.ensures ∙ pointwise-zip bytes_meet _ _ c.if-a-b.true
