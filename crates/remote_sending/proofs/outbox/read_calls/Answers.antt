use Rattle.std.specs.Global.{Vec}
use Rattle.keeper_api.specs.declared.rows.Row.{Row}
use Rattle.remote_sending.specs.Sends.{ended_as}
use Rattle.remote_sending.proofs.Faults.{all_calls_read, bad_read_told, outbox_ends, outbox_no_bad, outbox_rises, outbox_stays, rows_calm, rows_end, unless_outbox}
use Rattle.remote_sending.proofs.outbox.read_calls.Goals as goal

pub returns-in-Ok-clause-calls : goal.returns-in-Ok-clause-calls
returns-in-Ok-clause-calls g c =
    all_calls_read c.calls_in.result
    (g.O.Keeper.held c.args.outbox.now) c.in-Ok.rows.items c.as_slice.result.now c.as_slice.ensures.value c.in-Ok.ensures.rows c.calls_in.ensures.calls

pub returns-in-Ok-clause-bad : goal.returns-in-Ok-clause-bad
returns-in-Ok-clause-bad g c =
    bad_read_told (ended_as c.calls_in.result)
    (g.O.Keeper.held c.args.outbox.now) c.in-Ok.rows.items c.as_slice.result.now c.as_slice.ensures.value c.in-Ok.ensures.rows c.calls_in.ensures.bad

pub returns-in-Ok-clause-stays : goal.returns-in-Ok-clause-stays
returns-in-Ok-clause-stays g c = unless_outbox (ended_as c.calls_in.result) _ c.in-Ok.ensures.stays

pub returns-in-Ok-clause-cause : goal.returns-in-Ok-clause-cause
returns-in-Ok-clause-cause g c = rows_calm (ended_as c.calls_in.result) _ _ c.calls_in.ensures.end c.in-Ok.ensures.cause.quiet

pub returns-in-Ok-clause-end : goal.returns-in-Ok-clause-end
returns-in-Ok-clause-end g c = rows_end (ended_as c.calls_in.result) c.calls_in.ensures.end

pub returns-in-Err-clause-bad : goal.returns-in-Err-clause-bad
returns-in-Err-clause-bad g c = outbox_no_bad c.in-Err.fault c.of_outbox.result _ c.of_outbox.ensures

pub returns-in-Err-clause-stays : goal.returns-in-Err-clause-stays
returns-in-Err-clause-stays g c = outbox_stays (Vec Row) c.in-Err.fault c.of_outbox.result _ c.of_outbox.ensures c.in-Err.ensures.stays

pub returns-in-Err-clause-cause : goal.returns-in-Err-clause-cause
returns-in-Err-clause-cause g c = outbox_rises c.in-Err.fault c.of_outbox.result _ _ c.of_outbox.ensures c.in-Err.ensures.cause

pub returns-in-Err-clause-end : goal.returns-in-Err-clause-end
returns-in-Err-clause-end g c = outbox_ends c.in-Err.fault c.of_outbox.result c.of_outbox.ensures
