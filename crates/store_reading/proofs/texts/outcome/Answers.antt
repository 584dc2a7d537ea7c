use Rattle.std.proofs.Common.{IsTrue, IfOk, IfErr, sym, subst, ◌∙◌}
use Rattle.module_effects.specs.Spots.{covers, IsDone, IsRefused}
use Rattle.store_reading.proofs.Laid.{covered, done_for, refused_for}
use Rattle.store_reading.proofs.texts.outcome.Goals as goal

pub apply-requires : goal.apply-requires
apply-requires c =
    subst (λ ss. IsTrue (covers ss c.args.effects.now)) (sym (c.as_slice.ensures.value ∙ c.in_ok-spots.ensures)) (covered c.args.texts.now c.args.effects.now)

pub returns-clause-done : goal.returns-clause-done
returns-clause-done c =
    done_for c.args.texts.now c.args.effects.now c.apply.result
    (subst (λ ss. IfOk c.apply.result (λ after. IsDone ss c.args.effects.now after.items))
    (c.as_slice.ensures.value ∙ c.in_ok-spots.ensures) c.apply.ensures.done)

pub returns-clause-refused : goal.returns-clause-refused
returns-clause-refused c =
    refused_for c.args.texts.now c.args.effects.now c.apply.result
    (subst (λ ss. IfErr c.apply.result (IsRefused ss c.args.effects.now)) (c.as_slice.ensures.value ∙ c.in_ok-spots.ensures) c.apply.ensures.refused)
