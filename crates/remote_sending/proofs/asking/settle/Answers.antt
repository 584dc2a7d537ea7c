use Rattle.remote_sending.specs.Growing.{WasExecuted}
use Rattle.remote_sending.proofs.Asked.{asked_none, asked_nothing, asked_stored, at_some}
use Rattle.remote_sending.proofs.Faults.{keeper_ends, outbox_rises}
use Rattle.remote_sending.proofs.asking.settle.Goals as goal

pub returns-in-Ok-None-clause-rows : goal.returns-in-Ok-None-clause-rows
returns-in-Ok-None-clause-rows g c = asked_none c.args.call.now (g.O.Keeper.held c.args.outbox.now)

pub returns-in-Ok-None-clause-left : goal.returns-in-Ok-None-clause-left
returns-in-Ok-None-clause-left g c = asked_nothing _ c.args.call.now _ _ (g.met.O.Keeper.settled c.args.outbox.now c.requires)

pub returns-in-Err-clause-left : goal.returns-in-Err-clause-left
returns-in-Err-clause-left g c = asked_nothing _ c.args.call.now _ _ (g.met.O.Keeper.settled c.args.outbox.now c.requires)

pub returns-in-Ok-clause-left : goal.returns-in-Ok-clause-left
returns-in-Ok-clause-left g c =
    asked_stored _ c.args.call.now _ _ c.in-Ok-Some.outcome
    (at_some (WasExecuted (g.C.Carrier.executed c.ask.new.carrier) c.args.call.now.tid) _ c.in-Ok-Some.outcome c.in-Ok-Some.field-0-is
    c.in-Ok-Some.ensures.outcome) c.store.ensures.either

pub returns-in-Err-store-clause-left : goal.returns-in-Err-store-clause-left
returns-in-Err-store-clause-left g c =
    asked_stored _ c.args.call.now _ _ c.in-Ok-Some.outcome
    (at_some (WasExecuted (g.C.Carrier.executed c.ask.new.carrier) c.args.call.now.tid) _ c.in-Ok-Some.outcome c.in-Ok-Some.field-0-is
    c.in-Ok-Some.ensures.outcome) c.store.ensures.either

pub returns-in-Err-store-clause-cause : goal.returns-in-Err-store-clause-cause
returns-in-Err-store-clause-cause g c = outbox_rises c.in-Err-store.fault c.of_outbox.result _ _ c.of_outbox.ensures c.in-Err-store.ensures.cause

pub returns-in-Err-store-clause-end : goal.returns-in-Err-store-clause-end
returns-in-Err-store-clause-end g c = keeper_ends c.in-Err-store.fault c.of_outbox.result c.of_outbox.ensures
