use Rattle.remote_sending.specs.Sends.{why_behind}
use Rattle.remote_sending.proofs.Asked.{stopped_before}
use Rattle.remote_sending.proofs.Ends.{calm_keeper, calm_outbox_from, keeper_is_send, sink_is_send}
use Rattle.remote_sending.proofs.sending.send_one.Goals as goal

pub returns-in-Err-clause-stopped : goal.returns-in-Err-clause-stopped
returns-in-Err-clause-stopped g c =
    stopped_before _ c.args.call.now _ _ _ _ c.settle.ensures.told c.settle.ensures.left (g.met.O.Keeper.held_left c.settle.new.outbox)

pub returns-in-Err-clause-sink : goal.returns-in-Err-clause-sink
returns-in-Err-clause-sink g c = calm_keeper (why_behind c.in-Err.fault) _ c.in-Err.ensures.end

pub returns-in-Err-clause-end : goal.returns-in-Err-clause-end
returns-in-Err-clause-end g c = keeper_is_send (why_behind c.in-Err.fault) c.in-Err.ensures.end

pub returns-in-Err-say_call-clause-stopped : goal.returns-in-Err-say_call-clause-stopped
returns-in-Err-say_call-clause-stopped g c = record { outcome = c.in-Ok.outcome; rows = c.in-Ok.ensures.rows; line = c.say_call.ensures.first }

pub returns-in-Err-say_call-clause-cause : goal.returns-in-Err-say_call-clause-cause
returns-in-Err-say_call-clause-cause g c = calm_outbox_from (why_behind c.in-Err-say_call.fault) _ _ c.in-Err-say_call.ensures.end c.in-Ok.ensures.cause

pub returns-in-Err-say_call-clause-end : goal.returns-in-Err-say_call-clause-end
returns-in-Err-say_call-clause-end g c = sink_is_send (why_behind c.in-Err-say_call.fault) c.in-Err-say_call.ensures.end
