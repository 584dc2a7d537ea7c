use Rattle.std.proofs.Common.{◌≡◌, take, vec_len}
use Rattle.store_reading.specs.Told.{SpellEach}
use Rattle.store_reading.proofs.reading.decode_rows.Given as goal

abbrev pub invariant-loop-row : goal.invariant-loop-row
invariant-loop-row l = record {
  count : vec_len l.records ≡ l.row-index;
  spelled : SpellEach l.table (take l.row-index l.rows) l.records.items;
}
