use Rattle.std.proofs.Common.{◌∙◌, sym}
use Rattle.record_laws.proofs.Batches.{one_put}
use Rattle.script_rows.proofs.keepers.put_row.Goals as goal

pub room-requires-clause-batch : goal.room-requires-clause-batch
room-requires-clause-batch c =
    one_put c.as_slice-2.result.now _ _ c.as_slice.result.now _ _ (c.as_slice-2.ensures.value ∙ c.in_ok-batch.ensures.items)
    (c.from_vec.ensures ∙ sym c.as_slice.ensures.value) c.is_empty.ensures c.if-is_empty.false
