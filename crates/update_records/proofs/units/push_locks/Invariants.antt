use Rattle.std.proofs.Common.{◌≡◌, ◌+◌, ◌++◌, drop, take}
use Rattle.std.specs.List.{All}
use Rattle.update_records.specs.Grammar.{HasNames}
use Rattle.update_records.specs.RecordRows.{lock_rows}
use Rattle.update_records.proofs.units.push_locks.Given as goal

abbrev pub invariant-loop-i : goal.invariant-loop-i
invariant-loop-i l = record {
  whole : l.batch.items ++ lock_rows l.key (l.i + 1) (drop l.i l.entries) ≡ l.fn.batch.items ++ lock_rows l.key 1 l.entries;
  spelt : All HasNames (take l.i l.entries);
}
