use Rattle.std.proofs.Common.{◌∙◌}
use Rattle.mode_rules.proofs.lemmas.ModeNumbers.{again}
use Rattle.mode_rules.proofs.mode_of.Goals as goal

pub returns-clause-again : goal.returns-clause-again
returns-clause-again c = λ mode told past. c.read_mode.ensures.mode ∙ again mode c.args.number told past
