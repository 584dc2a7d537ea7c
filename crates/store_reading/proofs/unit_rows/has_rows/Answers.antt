use Rattle.store_reading.specs.Standings.{lists_row}
use Rattle.store_reading.proofs.Ranges.{all_done, all_fails, all_more}
use Rattle.store_reading.proofs.unit_rows.has_rows.Goals as goal

pub loop-number-preserved : goal.loop-number-preserved
loop-number-preserved c =
    all_more (lists_row c.args.rows.now c.args.key.now c.args.part) c.loop-number.number c.args.count c.has_row.result _
    c.loop-number-test.true c.has_row.ensures c.if-not-has_row.false c.loop-number.invariant

pub returns-then-not-has_row : goal.returns-then-not-has_row
returns-then-not-has_row c =
    all_fails (lists_row c.args.rows.now c.args.key.now c.args.part) c.loop-number.number c.args.count c.has_row.result _
    c.loop-number-test.true c.has_row.ensures c.if-not-has_row.true c.loop-number.invariant

pub returns : goal.returns
returns c = all_done (lists_row c.args.rows.now c.args.key.now c.args.part) c.loop-number.number c.args.count _ c.loop-number-test.false c.loop-number.invariant
