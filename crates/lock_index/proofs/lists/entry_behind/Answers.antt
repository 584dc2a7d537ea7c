use Rattle.std.proofs.Common.{◌∙◌}
use Rattle.lock_index.proofs.Live.{dense-at}
use Rattle.lock_index.proofs.lists.entry_behind.Goals as goal

pub returns-then-is_dense : goal.returns-then-is_dense
returns-then-is_dense c = c.entry.ensures ∙ dense-at c.args.shelf.now (c.is_dense.ensures c.if-is_dense.true) c.args.count
