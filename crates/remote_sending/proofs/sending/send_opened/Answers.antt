use Rattle.std.proofs.Common.{None, ◌∙◌}
use Rattle.remote_sending.specs.Sends.{ended_as, why_behind}
use Rattle.remote_sending.proofs.Ends.{all_stand, calm_outbox_from, calm_sink, good_now, missed_now, no_bad_row, none_executed, nothing_written, on_ok}
use Rattle.remote_sending.proofs.Ends.{opened_grown, opened_stopped, opened_told, outbox_is_opened, rises_from, sliced}
use Rattle.remote_sending.proofs.Ends.{send_is_opened, sink_is_send, vec_few, vec_long}
use Rattle.remote_sending.proofs.Lines.{first_none}
use Rattle.remote_sending.proofs.sending.send_opened.Goals as goal

-- ---- nothing was sent

pub returns-in-Err-clause-grown : goal.returns-in-Err-clause-grown
returns-in-Err-clause-grown g c = λ told is. none_executed told (g.C.Carrier.executed c.args.carrier.now) _ _ (c.collected.ensures.grown told is)

pub returns-in-Err-clause-written : goal.returns-in-Err-clause-written
returns-in-Err-clause-written g c = nothing_written c.in-Err.fault _ _ (g.T.Sink.written c.args.sink.now) (first_none (g.T.Sink.written c.args.sink.now))

pub returns-in-Err-clause-sink : goal.returns-in-Err-clause-sink
returns-in-Err-clause-sink g c = calm_sink (why_behind c.in-Err.fault) _ c.in-Err.ensures.end

pub returns-in-Err-clause-end : goal.returns-in-Err-clause-end
returns-in-Err-clause-end g c = outbox_is_opened (why_behind c.in-Err.fault) c.in-Err.ensures.end

-- ---- sending stopped

pub send_open-requires-clause-opened : goal.send_open-requires-clause-opened
send_open-requires-clause-opened g c = c.in-Ok.ensures.opened

pub send_open-requires-clause-few : goal.send_open-requires-clause-few
send_open-requires-clause-few g c = vec_few c.in-Ok.calls c.as_slice.result.now c.as_slice.ensures.value

pub returns-in-Err-send_open-clause-grown : goal.returns-in-Err-send_open-clause-grown
returns-in-Err-send_open-clause-grown g c = λ told is.
    opened_grown told _ _ _ _ _ _ c.as_slice.result.now c.collected.ensures.told (c.collected.ensures.grown told is)
    (g.met.O.Keeper.held_left c.collected.new.outbox)
    (sliced _ _ _ c.as_slice.ensures.value c.in-Ok.ensures.calls) (c.send_open.ensures.left told)

pub returns-in-Err-send_open-clause-written : goal.returns-in-Err-send_open-clause-written
returns-in-Err-send_open-clause-written g c =
    opened_stopped c.in-Err-send_open.fault _ _ _ _ c.as_slice.result.now _ _ c.collected.ensures.told (c.collected.ensures.grown None tt)
    (g.met.O.Keeper.held_left c.collected.new.outbox)
    (sliced _ _ _ c.as_slice.ensures.value c.in-Ok.ensures.calls) c.in-Err-send_open.ensures.stopped

pub returns-in-Err-send_open-clause-bad : goal.returns-in-Err-send_open-clause-bad
returns-in-Err-send_open-clause-bad g c = no_bad_row (why_behind c.in-Err-send_open.fault) _ c.in-Err-send_open.ensures.end

pub returns-in-Err-send_open-clause-told : goal.returns-in-Err-send_open-clause-told
returns-in-Err-send_open-clause-told g c = c.send_open.ensures.told ∙ c.collected.ensures.told

pub returns-in-Err-send_open-clause-cause : goal.returns-in-Err-send_open-clause-cause
returns-in-Err-send_open-clause-cause g c = rises_from _ _ _ _ c.in-Ok.ensures.cause c.in-Err-send_open.ensures.cause

pub returns-in-Err-send_open-clause-end : goal.returns-in-Err-send_open-clause-end
returns-in-Err-send_open-clause-end g c = send_is_opened (why_behind c.in-Err-send_open.fault) c.in-Err-send_open.ensures.end

-- ---- all was sent

pub returns-clause-grown : goal.returns-clause-grown
returns-clause-grown g c = λ told is.
    opened_grown told _ _ _ _ _ _ c.as_slice.result.now c.collected.ensures.told (c.collected.ensures.grown told is)
    (g.met.O.Keeper.held_left c.collected.new.outbox)
    (sliced _ _ _ c.as_slice.ensures.value c.in-Ok.ensures.calls) (c.send_open.ensures.left told)

pub returns-clause-written : goal.returns-clause-written
returns-clause-written g c =
    opened_told c.say_counts.result _ _ _ _ c.as_slice.result.now _ _ _ _ _ c.collected.ensures.told (c.collected.ensures.grown None tt)
    (g.met.O.Keeper.held_left c.collected.new.outbox)
    (sliced _ _ _ c.as_slice.ensures.value c.in-Ok.ensures.calls) c.in-Ok-send_open.ensures.sent
    (c.len.ensures ∙ vec_long c.in-Ok.calls c.as_slice.result.now c.as_slice.ensures.value) c.say_counts.ensures.ok c.say_counts.ensures.first

pub returns-clause-bad : goal.returns-clause-bad
returns-clause-bad g c = no_bad_row (ended_as c.say_counts.result) _ (sink_is_send (ended_as c.say_counts.result) c.say_counts.ensures.end)

pub returns-clause-good : goal.returns-clause-good
returns-clause-good g c = on_ok c.say_counts.result _ c.in-Ok.ensures.good

pub returns-clause-good_now : goal.returns-clause-good_now
returns-clause-good_now g c =
    on_ok c.say_counts.result _
    (good_now _ _ _ _ c.as_slice.result.now _ _ _ c.collected.ensures.told c.send_open.ensures.told (c.collected.ensures.grown None tt)
    (g.met.O.Keeper.held_left c.collected.new.outbox)
    (sliced _ _ _ c.as_slice.ensures.value c.in-Ok.ensures.calls) c.in-Ok-send_open.ensures.sent)

pub returns-clause-stand : goal.returns-clause-stand
returns-clause-stand g c =
    on_ok c.say_counts.result _
    (all_stand _ _ _ _ _ c.as_slice.result.now c.args.new.now (sliced _ _ _ c.as_slice.ensures.value c.in-Ok.ensures.calls)
    (g.met.O.Keeper.held_left c.send_open.new.outbox)
    c.send_open.ensures.told (c.send_open.ensures.left None) c.in-Ok.ensures.stand)

pub returns-clause-misses : goal.returns-clause-misses
returns-clause-misses g c =
    on_ok c.say_counts.result _
    (missed_now _ _ _ _ c.as_slice.result.now _ _ _ _ _ c.collected.ensures.told c.send_open.ensures.told (c.collected.ensures.grown None tt)
    (g.met.O.Keeper.held_left c.collected.new.outbox)
    (sliced _ _ _ c.as_slice.ensures.value c.in-Ok.ensures.calls) c.in-Ok-send_open.ensures.sent c.in-Ok-send_open.ensures.misses)

pub returns-clause-told : goal.returns-clause-told
returns-clause-told g c = c.send_open.ensures.told ∙ c.collected.ensures.told

pub returns-clause-sink : goal.returns-clause-sink
returns-clause-sink g c = rises_from _ _ _ _ c.in-Ok-send_open.ensures.sink c.say_counts.ensures.cause

pub returns-clause-cause : goal.returns-clause-cause
returns-clause-cause g c = calm_outbox_from (ended_as c.say_counts.result) _ _ c.say_counts.ensures.end
    (c.in-Ok-send_open.ensures.cause ∙ c.in-Ok.ensures.cause)

pub returns-clause-end : goal.returns-clause-end
returns-clause-end g c = send_is_opened (ended_as c.say_counts.result) (sink_is_send (ended_as c.say_counts.result) c.say_counts.ensures.end)
