use Rattle.std.proofs.Common.{◌∙◌}
use Rattle.remote_sending.proofs.Faults.{nothing_stored, stored_done, stored_either}
use Rattle.remote_sending.proofs.outbox.store.Goals as goal

pub returns-clause-done : goal.returns-clause-done
returns-clause-done g c = stored_done c.write.result _ _ c.as_slice.result.now c.args.tid.now c.args.text.now c.args.outcome
    (c.as_slice.ensures.value ∙ c.in_ok-batch.ensures.rows) c.write.ensures.done

pub returns-clause-either : goal.returns-clause-either
returns-clause-either g c =
    stored_either (g.O.Keeper.held c.args.outbox.now) _ c.as_slice.result.now c.args.tid.now c.args.text.now c.args.outcome
    (c.as_slice.ensures.value ∙ c.in_ok-batch.ensures.rows) c.write.ensures.either

pub returns-in_err-batch-clause-either : goal.returns-in_err-batch-clause-either
returns-in_err-batch-clause-either g c =
    nothing_stored (g.O.Keeper.held c.args.outbox.now) _ c.args.tid.now c.args.text.now c.args.outcome (g.met.O.Keeper.settled c.args.outbox.now c.requires)
