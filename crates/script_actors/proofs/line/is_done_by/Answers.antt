use Rattle.std.proofs.Common.{ap, ◌∙◌}
use Rattle.script_actors.specs.Doers.{is_actor}
use Rattle.script_actors.proofs.line.is_done_by.Goals as goal

pub returns-in-Actor : goal.returns-in-Actor
returns-in-Actor c = c.is_same.ensures ∙ ap (is_actor c.args.who.now) c.in-Actor.ensures
