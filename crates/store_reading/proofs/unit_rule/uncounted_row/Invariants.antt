use Rattle.std.proofs.Common.{◌≡◌, ◌+◌, [], List, take, drop}
use Rattle.update_records.specs.declared.stored.Record.{Record}
use Rattle.store_reading.specs.First.{first_wrong}
use Rattle.store_reading.specs.Standings.{AreCounts}
use Rattle.store_reading.specs.Units.{is_counted}
use Rattle.store_reading.proofs.unit_rule.uncounted_row.Given as goal

abbrev pub invariant-loop-stored : goal.invariant-loop-stored
invariant-loop-stored l = record {
  place : l.row ≡ l.stored-index + 1;
  rest : (headers : List Record) → AreCounts l.counts headers
      → first_wrong (λ before. is_counted headers) l.table (take l.stored-index l.records) (drop l.stored-index l.records)
      ≡ first_wrong (λ before. is_counted headers) l.table [] l.records;
}
