use Rattle.row_tree.proofs.Waiting.{none_placed, none_apart, apart_of}
use Rattle.row_tree.proofs.row_tree.RowTree.room.Goals as goal

pub invariant_of-self : goal.invariant_of-self
invariant_of-self c =
    (c.wait_for.ensures.order, c.in-Ok.ensures.placed, apart_of c.args.batch.now c.wait_for.new.waiting.items c.in-Ok.ensures.waits c.requires.distinct)

pub invariant_of-self-in-Err : goal.invariant_of-self-in-Err
invariant_of-self-in-Err c = (c.drop_all-in-Err.ensures.order, none_placed _ _ c.drop_all-in-Err.ensures.none, none_apart _ c.drop_all-in-Err.ensures.none)
