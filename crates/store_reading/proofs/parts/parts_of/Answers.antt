use Rattle.std.proofs.Common.{◌++◌, ap, sym, subst, ◌∙◌}
use Rattle.std.proofs.lemmas.List.{take_all}
use Rattle.store_reading.specs.Posting.{AreParts}
use Rattle.store_reading.specs.Posts.{effect_in}
use Rattle.store_reading.proofs.Twins.{names_on}
use Rattle.store_reading.proofs.parts.parts_of.Goals as goal

pub loop-stored-preserved : goal.loop-stored-preserved
loop-stored-preserved c = λ key part.
    c.in_ok-add_step.ensures key part
    ∙ ap (λ es. es ++ effect_in key part c.stored-item.result) (c.loop-stored.invariant key part)
    ∙ sym (names_on (effect_in key part) c.args.steps.now c.loop-stored.stored-index c.stored-item.result c.loop-stored-test.true c.stored-item.is)

pub returns : goal.returns
returns c = subst (AreParts c.loop-stored.parts) (take_all c.loop-stored.stored-index c.args.steps.now c.loop-stored-test.false) c.loop-stored.invariant
