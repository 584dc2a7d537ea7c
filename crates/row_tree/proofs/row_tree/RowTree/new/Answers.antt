use Rattle.row_tree.proofs.Waiting.{none_placed, none_apart, nothing_shown}
use Rattle.row_tree.proofs.row_tree.RowTree.new.Goals as goal

pub invariant_of-result : goal.invariant_of-result
invariant_of-result c = (c.new.ensures.ordered, none_placed _ _ c.new-2.ensures.items, none_apart _ c.new-2.ensures.items)

pub returns : goal.returns
returns c = nothing_shown c.new.result.entries c.new-2.result.items c.new.ensures.empty c.new-2.ensures.items
