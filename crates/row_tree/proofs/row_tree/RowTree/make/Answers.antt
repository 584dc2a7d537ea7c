use Rattle.row_tree.proofs.Waiting.{none_placed, none_apart}
use Rattle.row_tree.proofs.row_tree.RowTree.make.Goals as goal

pub invariant_of-self : goal.invariant_of-self
invariant_of-self c = (c.make_all.ensures.order, none_placed _ _ c.make_all.ensures.none, none_apart _ c.make_all.ensures.none)
