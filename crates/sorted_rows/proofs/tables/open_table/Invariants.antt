use Rattle.std.proofs.Common.{◌≡◌, ℕ, ◌-◌, suc, length}
use Rattle.sorted_rows.specs.Tables.{entries_from, HasPlace}
use Rattle.sorted_rows.proofs.tables.open_table.Given as goal

abbrev pub invariant-loop-alloc : goal.invariant-loop-alloc
invariant-loop-alloc l = record {
  same : entries_from 0 l.tables.items ≡ entries_from 0 l.initial.tables.items;
  room : (n other : ℕ) → HasPlace n other l.initial.tables.items → HasPlace n other l.tables.items;
}

abbrev pub decreases-loop-alloc : goal.decreases-loop-alloc
decreases-loop-alloc l = suc l.table - length l.tables.items
