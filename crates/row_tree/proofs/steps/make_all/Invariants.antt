use Rattle.std.proofs.Common.{◌≡◌, map, length}
use Rattle.keeper_api.specs.Batch.{changed}
use Rattle.row_tree.specs.Places.{AreInOrder, rows_of}
use Rattle.row_tree.specs.Steps.{change_of, ArePlaced, AreApart}
use Rattle.row_tree.proofs.steps.make_all.Given as goal

abbrev pub invariant-loop-step : goal.invariant-loop-step
invariant-loop-step l = record {
  order : AreInOrder l.places.entries;
  placed : ArePlaced l.places.entries l.waiting.items;
  apart : AreApart l.waiting.items;
  rows : changed (map change_of l.waiting.items) (rows_of l.places.entries) ≡ changed (map change_of l.initial.waiting.items)
      (rows_of l.initial.places.entries);
}

abbrev pub decreases-loop-step : goal.decreases-loop-step
decreases-loop-step l = length l.waiting.items
