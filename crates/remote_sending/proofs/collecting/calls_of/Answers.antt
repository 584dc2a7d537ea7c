use Rattle.std.proofs.Common.{◌∙◌}
use Rattle.remote_sending.proofs.Reading.{all_calls, one_more_call}
use Rattle.remote_sending.proofs.collecting.calls_of.Goals as goal

pub returns : goal.returns
returns c = all_calls c.args.rows.now c.loop-row.row-index c.loop-row.calls.items c.loop-row-test.false c.loop-row.invariant

pub loop-row-preserved : goal.loop-row-preserved
loop-row-preserved c =
    c.in_ok-push_if.ensures
    ∙ one_more_call c.args.rows.now c.loop-row.row-index c.row-item.result c.loop-row.calls.items c.in_ok-call.call c.loop-row-test.true c.row-item.is
    c.in_ok-call.ensures c.loop-row.invariant
