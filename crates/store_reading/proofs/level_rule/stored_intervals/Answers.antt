use Rattle.std.proofs.Common.{◌||◌, take, ap, sym, subst, ◌∙◌}
use Rattle.std.proofs.lemmas.List.{take_all}
use Rattle.std.proofs.lemmas.List.Folds.{list_any_more}
use Rattle.store_reading.specs.Intervals.{has_level, is_level}
use Rattle.store_reading.specs.Standings.{AreStored}
use Rattle.store_reading.proofs.level_rule.stored_intervals.Goals as goal

pub loop-level-preserved : goal.loop-level-preserved
loop-level-preserved c = λ name.
    c.in_ok-add_stored.ensures name
    ∙ ap (λ b. b || is_level name c.level-item.result) (c.loop-level.invariant name)
    ∙ ap (λ r. has_level (take c.loop-level.level-index c.args.levels.now) name || is_level name r) c.level-item.is
    ∙ sym (list_any_more (is_level name) c.args.levels.now c.loop-level.level-index c.level-item.result c.loop-level-test.true)

pub returns : goal.returns
returns c = subst (AreStored c.loop-level.stored) (take_all c.loop-level.level-index c.args.levels.now c.loop-level-test.false) c.loop-level.invariant
