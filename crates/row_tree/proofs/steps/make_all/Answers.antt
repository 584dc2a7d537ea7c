use Rattle.row_tree.specs.Places.{rows_of}
use Rattle.row_tree.proofs.Waiting.{after_step, made_more}
use Rattle.row_tree.proofs.steps.make_all.Goals as goal

pub loop-step-preserved : goal.loop-step-preserved
loop-step-preserved c =
    let steps = c.loop-step.waiting.items in
    let rest = c.pop_front.new.self.items in
    let old = c.loop-step.places.entries in
    let new = c.make_step.new.places.entries in
    let after = after_step old new steps rest c.in-Some.step c.in-Some.ensures.items c.make_step.ensures.others c.loop-step.invariant.placed
    c.loop-step.invariant.apart in
    record {
      order = c.make_step.ensures.order;
      placed = after.0;
      apart = after.1;
      rows = made_more steps rest c.in-Some.step (rows_of old) (rows_of new) _ c.in-Some.ensures.items c.make_step.ensures.rows c.loop-step.invariant.rows;
    }
