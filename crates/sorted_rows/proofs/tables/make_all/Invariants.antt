use Rattle.std.proofs.Common.{◌≡◌, length}
use Rattle.keeper_api.specs.Batch.{changed}
use Rattle.sorted_rows.specs.Places.{AreSorted}
use Rattle.sorted_rows.specs.Tables.{entries_from, rows_of, HasRoom}
use Rattle.sorted_rows.proofs.tables.make_all.Given as goal

abbrev pub invariant-loop-change : goal.invariant-loop-change
invariant-loop-change l = record {
  sorted : AreSorted (entries_from 0 l.tables.items);
  room : HasRoom (length l.waiting.items) l.waiting.items l.tables.items;
  made : changed l.waiting.items (rows_of l.tables.items) ≡ changed l.initial.waiting.items (rows_of l.initial.tables.items);
}

abbrev pub decreases-loop-change : goal.decreases-loop-change
decreases-loop-change l = length l.waiting.items
