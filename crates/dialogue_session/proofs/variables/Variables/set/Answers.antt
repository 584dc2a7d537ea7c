use Rattle.std.proofs.Common.{ap, sym, ◌∙◌}
use Rattle.dialogue_session.proofs.Places.{with_text-known, with_text-new}
use Rattle.dialogue_session.proofs.variables.Variables.set.Goals as goal

pub returns-in-Some-place_of : goal.returns-in-Some-place_of
returns-in-Some-place_of c =
    with_text-known c.args.name c.args.text.now c.in-Some.text c.self.inside.items.items c.as_slice.result.now c.args.self.now.items c.in-Some-place_of.place
    (sym c.place_of.ensures ∙ c.in-Some-place_of.is) c.as_slice.ensures.value (ap (λ v. v.items) c.self.view_is) c.in-Some.ensures.value

pub returns-in-None : goal.returns-in-None
returns-in-None c =
    c.push_reserved.ensures.items
    ∙ with_text-new c.args.name c.args.text.now c.in-Some.text c.self.inside.items.items c.as_slice.result.now c.args.self.now.items
    (sym c.place_of.ensures ∙ c.in-None.is) c.as_slice.ensures.value (ap (λ v. v.items) c.self.view_is) c.in-Some.ensures.value
