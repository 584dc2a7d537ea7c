use Rattle.std.proofs.Common.{◌∙◌}
use Rattle.sending_tests.proofs.Batches.{one_put}
use Rattle.sending_tests.proofs.rows.put_at.Goals as goal

pub commit-requires-clause-batch : goal.commit-requires-clause-batch
commit-requires-clause-batch c =
    one_put c.as_slice.result.now _ _ c.args.key.now _ _ (c.as_slice.ensures.value ∙ c.in_ok-batch.ensures.items)
    (c.from_vec.ensures ∙ c.in_ok-from_slice.ensures.items) c.is_empty.ensures c.if-is_empty.false
