use Rattle.std.proofs.Common.{map, [], ◌∷◌, ap, subst, subst₂, ◌∙◌}
use Rattle.module_effects.specs.Spots.{IsDone, IsRefused, row_at}
use Rattle.remote_target.proofs.Applies.{done_makes, own_spot, refused_makes}
use Rattle.remote_target.proofs.execute.apply_one.Goals as goal

pub returns-in-Ok : goal.returns-in-Ok
returns-in-Ok c =
    done_makes c.args.effect.now c.args.text c.in-Ok.after.items c.only.result
    (subst₂ (λ ss es. IsDone ss es c.in-Ok.after.items) c.from_ref.ensures.value c.from_ref-2.ensures.value c.in-Ok.ensures.done)
    (c.in-Ok.ensures.same_rows ∙ ap (map row_at) c.from_ref.ensures.value)
    c.only.ensures

pub returns-in-Err-Refused : goal.returns-in-Err-Refused
returns-in-Err-Refused c =
    refused_makes c.args.effect.now c.args.text c.in-Err-Refused.field-0-0 c.in-Err-Refused.reason
    (subst (IsRefused (own_spot c.args.effect.now c.args.text ∷ []) (c.args.effect.now ∷ [])) c.in-Err-Refused.field-0-is
    (subst₂ (λ ss es. IsRefused ss es c.in-Err-Refused.field-0) c.from_ref.ensures.value c.from_ref-2.ensures.value c.in-Err-Refused.ensures.refused))
