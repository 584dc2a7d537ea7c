use Rattle.std.proofs.Common.{◌||◌, take, ap, sym, subst, ◌∙◌}
use Rattle.std.proofs.lemmas.List.{take_all}
use Rattle.std.proofs.lemmas.List.Folds.{list_any_more}
use Rattle.store_reading.specs.Rules.{has_second, tells_second}
use Rattle.store_reading.specs.Standings.{AreSecond}
use Rattle.store_reading.proofs.mark_rule.second_parts.Goals as goal

pub loop-stored-preserved : goal.loop-stored-preserved
loop-stored-preserved c = λ key.
    c.in_ok-add_second.ensures key
    ∙ ap (λ b. b || tells_second key c.stored-item.result) (c.loop-stored.invariant key)
    ∙ ap (λ r. has_second (take c.loop-stored.stored-index c.args.headers.now) key || tells_second key r) c.stored-item.is
    ∙ sym (list_any_more (tells_second key) c.args.headers.now c.loop-stored.stored-index c.stored-item.result c.loop-stored-test.true)

pub returns : goal.returns
returns c = subst (AreSecond c.loop-stored.second) (take_all c.loop-stored.stored-index c.args.headers.now c.loop-stored-test.false) c.loop-stored.invariant
