use Rattle.std.proofs.Common.{Some, ap, sym, ◌∙◌}
use Rattle.std.specs.Option.{option_map}
use Rattle.dialogue_session.proofs.Places.{text_of-known, text_of-none}
use Rattle.dialogue_session.proofs.variables.Variables.text_of.Goals as goal

pub returns-in_err-place : goal.returns-in_err-place
returns-in_err-place c =
    ap (option_map (λ text. text.now)) c.from_residual.ensures
    ∙ text_of-none c.args.name.now c.self.inside.items.items c.as_slice.result.now c.args.self.now.items
    (sym c.place_of.ensures ∙ c.in_err-place.was) c.as_slice.ensures.value (ap (λ v. v.items) c.self.view_is)

pub returns : goal.returns
returns c =
    ap (λ t. Some t) c.bytes.ensures.same
    ∙ text_of-known c.args.name.now c.self.inside.items.items c.as_slice.result.now c.args.self.now.items c.in_ok-place.place c.index.result.now
    (sym c.place_of.ensures ∙ c.in_ok-place.was) c.as_slice.ensures.value (ap (λ v. v.items) c.self.view_is) c.index.ensures
