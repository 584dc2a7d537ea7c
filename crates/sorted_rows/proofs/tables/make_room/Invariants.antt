use Rattle.std.proofs.Common.{◌≡◌, ℕ, length, take}
use Rattle.sorted_rows.specs.Tables.{entries_from, HasPlace, HasRoom}
use Rattle.sorted_rows.proofs.tables.make_room.Given as goal

abbrev pub invariant-loop-change : goal.invariant-loop-change
invariant-loop-change l = record {
  taken : HasRoom (length l.batch) (take l.change-index l.batch) l.tables.items;
  same : entries_from 0 l.tables.items ≡ entries_from 0 l.initial.tables.items;
  room : (n other : ℕ) → HasPlace n other l.initial.tables.items → HasPlace n other l.tables.items;
}
