use Rattle.std.proofs.Common.{◌≡◌, take}
use Rattle.sorted_rows.proofs.copies.copy_batch.Given as goal

abbrev pub invariant-loop-change : goal.invariant-loop-change
invariant-loop-change l = l.copy.items ≡ take l.change-index l.batch
