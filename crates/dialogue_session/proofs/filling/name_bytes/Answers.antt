use Rattle.std.proofs.Common.{sym, ◌∙◌}
use Rattle.dialogue_session.proofs.Fillings.{run-ends, run-is_all}
use Rattle.dialogue_session.proofs.filling.name_bytes.Goals as goal

pub returns-in-Some : goal.returns-in-Some
returns-in-Some c = run-ends c.args.bytes.now c.in-Some.end (sym c.first_other.ensures ∙ c.in-Some.is)

pub returns-in-None : goal.returns-in-None
returns-in-None c = run-is_all c.args.bytes.now (sym c.first_other.ensures ∙ c.in-None.is)
