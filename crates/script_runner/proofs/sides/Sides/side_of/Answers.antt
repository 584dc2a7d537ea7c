use Rattle.std.proofs.Common.{ap, ◌∙◌}
use Rattle.std.specs.Option.{option_map}
use Rattle.script_runner.specs.Sides.{side_of}
use Rattle.script_runner.proofs.Dialogues.{borrowed, side, side_found}
use Rattle.script_runner.proofs.sides.Sides.side_of.Goals as goal

pub returns : goal.returns
returns c =
    borrowed c.get.result ∙ ap (option_map side) c.get.ensures.value
    ∙ side_found c.args.name.now c.self.inside.by_name.entries c.self.invariant
    ∙ ap (λ v. side_of v.items c.args.name.now) c.self.view_is
