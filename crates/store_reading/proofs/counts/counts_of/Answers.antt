use Rattle.std.proofs.Common.{◌+◌, drop, ap, sym, ◌∙◌}
use Rattle.std.proofs.lemmas.List.{at_drop_more, drop_all}
use Rattle.store_reading.specs.Standings.{counts_for}
use Rattle.store_reading.specs.Units.{counts_after, told}
use Rattle.store_reading.proofs.counts.counts_of.Goals as goal

pub loop-stored-preserved : goal.loop-stored-preserved
loop-stored-preserved c = λ key.
    let before = counts_for c.loop-stored.counts key in
    let rest = drop (c.loop-stored.stored-index + 1) c.args.headers.now in
    ap (λ x. counts_after key x rest) (c.in_ok-add_counts.ensures key)
    ∙ ap (λ r. counts_after key (told key before r) rest) c.stored-item.is
    ∙ sym (at_drop_more (counts_after key before) c.args.headers.now c.loop-stored.stored-index c.stored-item.result c.loop-stored-test.true)
    ∙ c.loop-stored.invariant key

pub returns : goal.returns
returns c = λ key. sym
    (ap (counts_after key (counts_for c.loop-stored.counts key)) (drop_all c.loop-stored.stored-index c.args.headers.now c.loop-stored-test.false))
    ∙ c.loop-stored.invariant key
