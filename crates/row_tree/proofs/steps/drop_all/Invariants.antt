use Rattle.std.proofs.Common.{◌≡◌, length}
use Rattle.row_tree.specs.Places.{AreInOrder, rows_of}
use Rattle.row_tree.proofs.steps.drop_all.Given as goal

abbrev pub invariant-loop-step : goal.invariant-loop-step
invariant-loop-step l = record {
  order : AreInOrder l.places.entries;
  rows : rows_of l.places.entries ≡ rows_of l.initial.places.entries;
}

abbrev pub decreases-loop-step : goal.decreases-loop-step
decreases-loop-step l = length l.waiting.items
