use Rattle.store_reading.proofs.TextRows.{for_tables, more_here, none_here, other_here, short_here}
use Rattle.store_reading.proofs.post_rule.difference.Goals as goal

pub returns-in_default : goal.returns-in_default
returns-in_default c =
    for_tables c.args.texts.now c.args.business.now _ c.into_iter-id-iterator.ensures.into_iter_gives.5
    (short_here c.loop-id.row _ _ _ c.loop-id.rest.now _ c.in-Some.ensures.steps c.in_default.ensures.cases c.loop-id.invariant.tail)

pub returns-then-not-is_row : goal.returns-then-not-is_row
returns-then-not-is_row c =
    for_tables c.args.texts.now c.args.business.now _ c.into_iter-id-iterator.ensures.into_iter_gives.5
    (other_here c.loop-id.row _ _ _ c.in-Some-split_first.stored.now _ c.loop-id.rest.now _ _ c.in-Some.ensures.steps c.in-Some-split_first.ensures.cases.0
    c.is_row.ensures c.if-not-is_row.true c.loop-id.invariant.tail)

pub returns-then-is_empty : goal.returns-then-is_empty
returns-then-is_empty c =
    for_tables c.args.texts.now c.args.business.now _ c.into_iter-id-iterator.ensures.into_iter_gives.5
    (none_here c.loop-id.row _ c.loop-id.rest.now _ _ c.in-None.ensures.steps.0 c.is_empty.ensures c.if-is_empty.true c.loop-id.invariant.tail)

pub returns : goal.returns
returns c =
    for_tables c.args.texts.now c.args.business.now _ c.into_iter-id-iterator.ensures.into_iter_gives.5
    (more_here c.loop-id.row _ c.loop-id.rest.now _ _ c.in-None.ensures.steps.0 c.is_empty.ensures c.if-is_empty.false c.loop-id.invariant.tail)
