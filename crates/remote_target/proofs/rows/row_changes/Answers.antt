use Rattle.remote_target.proofs.Batches.{made_batch, row_is_batch}
use Rattle.remote_target.proofs.rows.row_changes.Goals as goal

pub returns-clause-batch : goal.returns-clause-batch
returns-clause-batch c = made_batch c.row_list.result _ (row_is_batch c.args.row.now) c.row_list.ensures
