use Rattle.std.proofs.Common.{◌∙◌}
use Rattle.remote_sending.specs.Sends.{ended_as}
use Rattle.remote_sending.proofs.Ends.{closed_by_outbox, closed_by_system, failed_not_done, keeper_sink_calm, keeper_system_calm, never_bad_words}
use Rattle.remote_sending.proofs.Ends.{not_bad_words, on_done, outbox_calm, rises_from, run_sent, sink_calm, stand_done, system_calm}
use Rattle.remote_sending.proofs.sending.send_all.Goals as goal

pub returns-in-Err-clause-ends : goal.returns-in-Err-clause-ends
returns-in-Err-clause-ends g c = closed_by_system c.in-Err.fault _ _ _ _ _ _ c.in-Err.ensures.end

pub returns-in-Err-open_outbox-clause-ends : goal.returns-in-Err-open_outbox-clause-ends
returns-in-Err-open_outbox-clause-ends g c = closed_by_outbox c.in-Err-open_outbox.fault _ _ _ _ _ _ _ c.in-Err-open_outbox.ensures.end
    c.open_outbox.ensures.crash

pub returns-clause-ends : goal.returns-clause-ends
returns-clause-ends g c =
    run_sent c.send_opened.result _ _ _ _ _ _ _ c.in-Ok.new.items c.as_slice.result.now _ _ c.open_outbox.ensures.told c.in-Ok-open_outbox.ensures.found
    c.as_slice.ensures.value c.in-Ok.ensures.calls
    c.send_opened.ensures.grown c.send_opened.ensures.written c.send_opened.ensures.bad c.send_opened.ensures.good

pub returns-clause-good : goal.returns-clause-good
returns-clause-good g c = on_done c.send_opened.result _ c.send_opened.ensures.good_now

pub returns-clause-stand : goal.returns-clause-stand
returns-clause-stand g c = stand_done c.send_opened.result _ _ c.in-Ok.new.items c.as_slice.result.now c.as_slice.ensures.value
    c.in-Ok.ensures.calls c.send_opened.ensures.stand

pub returns-clause-misses : goal.returns-clause-misses
returns-clause-misses g c = on_done c.send_opened.result _ c.send_opened.ensures.misses

pub returns-clause-told : goal.returns-clause-told
returns-clause-told g c = c.send_opened.ensures.told ∙ c.open_outbox.ensures.told

pub returns-in-Err-clause-good : goal.returns-in-Err-clause-good
returns-in-Err-clause-good g c = failed_not_done c.in-Err.fault _

pub returns-in-Err-clause-stand : goal.returns-in-Err-clause-stand
returns-in-Err-clause-stand g c = failed_not_done c.in-Err.fault _

pub returns-in-Err-clause-misses : goal.returns-in-Err-clause-misses
returns-in-Err-clause-misses g c = failed_not_done c.in-Err.fault _

pub returns-in-Err-clause-end : goal.returns-in-Err-clause-end
returns-in-Err-clause-end g c = never_bad_words c.in-Err.fault

pub returns-in-Err-open_outbox-clause-good : goal.returns-in-Err-open_outbox-clause-good
returns-in-Err-open_outbox-clause-good g c = failed_not_done c.in-Err-open_outbox.fault _

pub returns-in-Err-open_outbox-clause-stand : goal.returns-in-Err-open_outbox-clause-stand
returns-in-Err-open_outbox-clause-stand g c = failed_not_done c.in-Err-open_outbox.fault _

pub returns-in-Err-open_outbox-clause-misses : goal.returns-in-Err-open_outbox-clause-misses
returns-in-Err-open_outbox-clause-misses g c = failed_not_done c.in-Err-open_outbox.fault _

pub returns-in-Err-open_outbox-clause-end : goal.returns-in-Err-open_outbox-clause-end
returns-in-Err-open_outbox-clause-end g c = never_bad_words c.in-Err-open_outbox.fault

pub returns-in-Err-clause-sink : goal.returns-in-Err-clause-sink
returns-in-Err-clause-sink g c = sink_calm c.in-Err.fault _ c.in-Err.ensures.end

pub returns-in-Err-clause-outbox : goal.returns-in-Err-clause-outbox
returns-in-Err-clause-outbox g c = outbox_calm c.in-Err.fault _ c.in-Err.ensures.end

pub returns-in-Err-open_outbox-clause-sink : goal.returns-in-Err-open_outbox-clause-sink
returns-in-Err-open_outbox-clause-sink g c = keeper_sink_calm c.in-Err-open_outbox.fault _ c.in-Err-open_outbox.ensures.end

pub returns-in-Err-open_outbox-clause-system : goal.returns-in-Err-open_outbox-clause-system
returns-in-Err-open_outbox-clause-system g c = keeper_system_calm c.in-Err-open_outbox.fault _ _ c.in-Err-open_outbox.ensures.end c.in-Ok.ensures.cause

pub returns-clause-end : goal.returns-clause-end
returns-clause-end g c = not_bad_words (ended_as c.send_opened.result) c.send_opened.ensures.end

pub returns-clause-system : goal.returns-clause-system
returns-clause-system g c = system_calm (ended_as c.send_opened.result) _ _ c.send_opened.ensures.end c.in-Ok.ensures.cause

pub returns-clause-outbox : goal.returns-clause-outbox
returns-clause-outbox g c = rises_from _ _ _ _ c.in-Ok-open_outbox.ensures.cause c.send_opened.ensures.cause
