use Rattle.std.proofs.Common.{◌∙◌}
use Rattle.lock_entry.proofs.Arguments.{pointwise-zip}
use Rattle.lock_entry.specs.Argument.{byte_fits}
use Rattle.lock_entry.proofs.argument.all_fit.Goals as goal

pub returns-then-key-argument : goal.returns-then-key-argument
returns-then-key-argument c = c.pairs_fit.ensures ∙ pointwise-zip byte_fits _ _ c.if-key-argument.true
