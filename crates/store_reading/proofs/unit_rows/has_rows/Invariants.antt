use Rattle.std.proofs.Common.{◌≡◌, ◌+◌, ◌-◌}
use Rattle.std.specs.List.{list_all, range_with_len}
use Rattle.store_reading.specs.Standings.{lists_row, lists_rows}
use Rattle.store_reading.proofs.unit_rows.has_rows.Given as goal

abbrev pub invariant-loop-number : goal.invariant-loop-number
invariant-loop-number l = list_all (lists_row l.rows l.key l.part) (range_with_len (l.number + 1) (l.count - l.number)) ≡ lists_rows l.rows l.key l.part l.count
