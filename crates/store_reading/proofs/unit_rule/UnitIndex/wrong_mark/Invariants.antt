use Rattle.std.proofs.Common.{◌≡◌, ◌+◌, [], List, take, drop}
use Rattle.update_records.specs.declared.stored.Record.{Record}
use Rattle.store_reading.specs.First.{first_wrong}
use Rattle.store_reading.specs.Standings.{IsIndex}
use Rattle.store_reading.specs.Units.{is_right_unit}
use Rattle.store_reading.proofs.unit_rule.UnitIndex.wrong_mark.Given as goal

abbrev pub invariant-loop-stored : goal.invariant-loop-stored
invariant-loop-stored l = record {
  place : l.row ≡ l.stored-index + 1;
  rest : (headers modules steps locks : List Record) → IsIndex l.self.counts l.self.modules l.self.steps l.self.locks l.self.twins headers modules steps locks
      → first_wrong (λ before. is_right_unit headers modules steps locks) 4 (take l.stored-index l.marks) (drop l.stored-index l.marks)
      ≡ first_wrong (λ before. is_right_unit headers modules steps locks) 4 [] l.marks;
}
