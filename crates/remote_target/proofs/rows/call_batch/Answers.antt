use Rattle.remote_target.proofs.Batches.{call_is_batch, made_batch}
use Rattle.remote_target.proofs.rows.call_batch.Goals as goal

pub returns-clause-batch : goal.returns-clause-batch
returns-clause-batch c = made_batch c.rows_of.result _ (call_is_batch c.args.place _ c.args.row.now c.bytes-key.ensures.grammar) c.rows_of.ensures
