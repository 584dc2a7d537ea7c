use Rattle.remote_sending.proofs.Batches.{call_is_batch, made_batch}
use Rattle.remote_sending.proofs.outbox.call_batch.Goals as goal

pub returns-clause-batch : goal.returns-clause-batch
returns-clause-batch c = made_batch c.call_changes.result _
    (call_is_batch c.args.tid.now c.args.text.now c.args.outcome c.bytes-key.ensures.grammar) c.call_changes.ensures
