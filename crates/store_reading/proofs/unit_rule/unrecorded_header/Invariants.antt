use Rattle.std.proofs.Common.{◌≡◌, ◌+◌, [], List, take, drop}
use Rattle.update_records.specs.declared.stored.Record.{Record}
use Rattle.store_reading.specs.First.{first_wrong}
use Rattle.store_reading.specs.Standings.{AreRecorded}
use Rattle.store_reading.specs.Units.{is_recorded_header}
use Rattle.store_reading.proofs.unit_rule.unrecorded_header.Given as goal

abbrev pub invariant-loop-stored : goal.invariant-loop-stored
invariant-loop-stored l = record {
  place : l.row ≡ l.stored-index + 1;
  rest : (marks : List Record) → AreRecorded l.recorded marks
      → first_wrong (λ before. is_recorded_header marks) 1 (take l.stored-index l.headers) (drop l.stored-index l.headers)
      ≡ first_wrong (λ before. is_recorded_header marks) 1 [] l.headers;
}
