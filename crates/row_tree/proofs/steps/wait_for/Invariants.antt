use Rattle.std.proofs.Common.{◌≡◌, ◌++◌, map, length}
use Rattle.row_tree.specs.Places.{AreInOrder, rows_of}
use Rattle.row_tree.specs.Steps.{change_of, ArePlaced}
use Rattle.row_tree.proofs.steps.wait_for.Given as goal

abbrev pub invariant-loop-rest : goal.invariant-loop-rest
invariant-loop-rest l = record {
  order : AreInOrder l.places.entries;
  rows : rows_of l.places.entries ≡ rows_of l.initial.places.entries;
  waits : map change_of l.waiting.items ++ l.rest ≡ l.batch;
  placed : ArePlaced l.places.entries l.waiting.items;
}

abbrev pub decreases-loop-rest : goal.decreases-loop-rest
decreases-loop-rest l = length l.rest
