use Rattle.std.proofs.Common.{ap, sym, ◌∙◌, subst}
use Rattle.std.specs.Map.{lookup, values_of}
use Rattle.hall_calls.specs.Named.{AreNamed}
use Rattle.hall_model.specs.Sessions.{without_session}
use Rattle.hall_calls.proofs.lemmas.NamedValues.{are_named_taken, name_eq, taken_by_name}
use Rattle.hall_calls.proofs.sessions.Sessions.leave.Goals as goal

pub invariant_of-self : goal.invariant_of-self
invariant_of-self c =
    subst (AreNamed (λ x. x.name)) (sym c.shift_remove.ensures.entries)
    (are_named_taken (λ x. x.name) c.args.name.now c.self.inside.by_name.entries c.self.invariant)

pub returns : goal.returns
returns c =
    let gone = ap (lookup (name_eq c.args.name.now)) (sym c.shift_remove.ensures.entries) ∙ c.shift_remove.ensures.updates.1 in
    ap values_of c.shift_remove.ensures.entries
    ∙ taken_by_name (λ x. x.name) c.args.name.now c.self.inside.by_name.entries c.self.invariant gone
    ∙ ap (without_session c.args.name.now) c.self.view_is
