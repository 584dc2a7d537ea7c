use Rattle.script_actors.proofs.ReplyTexts.{behind_first, behind_nothing}
use Rattle.script_actors.proofs.texts.behind_space.Goals as goal

pub returns-in-Some : goal.returns-in-Some
returns-in-Some c = λ given space. behind_first c.args.text.now c.in-Some.rest.now given _ c.in-Some.ensures.cases.0 space

pub returns-in-None : goal.returns-in-None
returns-in-None c = λ given space. behind_nothing c.args.text.now given c.in-None.ensures.cases space
