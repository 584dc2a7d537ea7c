use Rattle.std.proofs.Common.{◌∙◌}
use Rattle.record_laws.proofs.Batches.{one_put}
use Rattle.books_tests.proofs.lines.put_line.Goals as goal

pub put-requires-clause-batch : goal.put-requires-clause-batch
put-requires-clause-batch c =
    one_put c.as_slice.result.now _ _ c.args.line.now.1.now _ _ (c.as_slice.ensures.value ∙ c.in_ok-batch.ensures.items)
    (c.from_vec.ensures ∙ c.in_ok-from_slice.ensures.items) c.is_empty.ensures c.if-is_empty.false
