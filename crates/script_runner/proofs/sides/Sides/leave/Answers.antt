use Rattle.std.proofs.Common.{ap, sym, ◌∙◌, subst}
use Rattle.std.specs.Map.{lookup}
use Rattle.hall_calls.specs.Named.{AreNamed}
use Rattle.hall_calls.proofs.lemmas.NamedValues.{are_named_taken, name_eq}
use Rattle.script_runner.specs.Sides.{without_side}
use Rattle.script_runner.proofs.Dialogues.{owner, side_taken, sides_in}
use Rattle.script_runner.proofs.sides.Sides.leave.Goals as goal

pub invariant_of-self : goal.invariant_of-self
invariant_of-self c =
    subst (AreNamed owner) (sym c.shift_remove.ensures.entries)
    (are_named_taken owner c.args.name.now c.self.inside.by_name.entries c.self.invariant)

pub returns : goal.returns
returns c =
    let gone = ap (lookup (name_eq c.args.name.now)) (sym c.shift_remove.ensures.entries) ∙ c.shift_remove.ensures.updates.1 in
    ap sides_in c.shift_remove.ensures.entries
    ∙ side_taken c.args.name.now c.self.inside.by_name.entries c.self.invariant gone
    ∙ ap (λ v. without_side c.args.name.now v.items) c.self.view_is
