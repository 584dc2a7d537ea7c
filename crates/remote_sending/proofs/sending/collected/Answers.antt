use Rattle.std.specs.Global.{Vec}
use Rattle.remote_sending.specs.declared.outbox.OutboxCall.{OutboxCall}
use Rattle.std.proofs.Common.{◌∙◌}
use Rattle.remote_sending.specs.Sends.{ended_as}
use Rattle.remote_sending.proofs.Ends.{bad_late, collected_over, first_good, ok_of, read_over, rises_from, same_good, unchanged}
use Rattle.remote_sending.proofs.Faults.{kept_calls, outbox_ends, outbox_no_bad, outbox_rises}
use Rattle.remote_sending.proofs.sending.collected.Goals as goal

pub collect-requires : goal.collect-requires
collect-requires g c = c.in-Ok.ensures.stays.opened

pub returns-in-Err-clause-grown : goal.returns-in-Err-clause-grown
returns-in-Err-clause-grown g c = λ told is. unchanged told _ _ _ (g.met.O.Keeper.settled c.args.outbox.now c.requires) c.read_calls.ensures.crash

pub returns-in-Ok-collect-clause-grown : goal.returns-in-Ok-collect-clause-grown
returns-in-Ok-collect-clause-grown g c = λ told is.
    read_over told _ _ _ (collected_over told c.args.new.now _ _ _ c.in-Ok.ensures.stays.rows is c.collect.ensures.grown)
    c.read_calls-in-Ok-collect.ensures.crash

pub returns-in-Err-collect-clause-grown : goal.returns-in-Err-collect-clause-grown
returns-in-Err-collect-clause-grown g c = λ told is. collected_over told c.args.new.now _ _ _ c.in-Ok.ensures.stays.rows is c.collect.ensures.grown

pub returns-in-Ok-collect-clause-calls : goal.returns-in-Ok-collect-clause-calls
returns-in-Ok-collect-clause-calls g c =
    kept_calls c.read_calls-in-Ok-collect.result _ _ _ _ _ _ c.read_calls-in-Ok-collect.ensures.stays c.read_calls-in-Ok-collect.ensures.calls

pub returns-in-Err-collect-clause-bad : goal.returns-in-Err-collect-clause-bad
returns-in-Err-collect-clause-bad g c = outbox_no_bad c.in-Err-collect.fault c.of_outbox.result _ c.of_outbox.ensures

pub returns-in-Err-collect-clause-cause : goal.returns-in-Err-collect-clause-cause
returns-in-Err-collect-clause-cause g c =
    rises_from _ _ _ _ c.in-Ok.ensures.cause (outbox_rises c.in-Err-collect.fault c.of_outbox.result _ _ c.of_outbox.ensures c.in-Err-collect.ensures.cause)

pub returns-in-Err-collect-clause-end : goal.returns-in-Err-collect-clause-end
returns-in-Err-collect-clause-end g c = outbox_ends c.in-Err-collect.fault c.of_outbox.result c.of_outbox.ensures

pub returns-in-Ok-collect-clause-bad : goal.returns-in-Ok-collect-clause-bad
returns-in-Ok-collect-clause-bad g c =
    bad_late (ended_as c.read_calls-in-Ok-collect.result) _ _ (c.collect.ensures.told ∙ c.read_calls.ensures.told)
    (c.in-Ok-collect.ensures.good (same_good _ _ c.in-Ok.ensures.stays.rows (first_good _ c.in-Ok.found.items c.in-Ok.ensures.calls)))
    c.read_calls-in-Ok-collect.ensures.bad

pub returns-in-Ok-collect-clause-good : goal.returns-in-Ok-collect-clause-good
returns-in-Ok-collect-clause-good g c = ok_of (Vec OutboxCall) c.read_calls-in-Ok-collect.result _ (first_good _ c.in-Ok.found.items c.in-Ok.ensures.calls)
