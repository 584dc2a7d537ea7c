use Rattle.std.proofs.Common.{◌≡◌, ◌+◌, [], List, take, drop}
use Rattle.enq_base.specs.declared.unit.Num.{Num as Number}
use Rattle.store_reading.specs.First.{first_wrong}
use Rattle.store_reading.specs.Intervals.{is_right_level}
use Rattle.store_reading.specs.Standings.{AreNumbers}
use Rattle.store_reading.proofs.level_rule.wrong_level.Given as goal

abbrev pub invariant-loop-stored : goal.invariant-loop-stored
invariant-loop-stored l = record {
  place : l.row ≡ l.stored-index + 1;
  rest : (numbers : List Number) → AreNumbers l.lists numbers
      → first_wrong (λ before. is_right_level numbers) 5 (take l.stored-index l.levels) (drop l.stored-index l.levels)
      ≡ first_wrong (λ before. is_right_level numbers) 5 [] l.levels;
}
