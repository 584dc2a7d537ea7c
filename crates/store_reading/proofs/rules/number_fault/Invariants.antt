use Rattle.std.proofs.Common.{◌≡◌, ◌+◌, length, take, drop}
use Rattle.store_reading.specs.First.{first_wrong}
use Rattle.store_reading.specs.Rules.{has_number, number_fault}
use Rattle.store_reading.proofs.rules.number_fault.Given as goal

abbrev pub invariant-loop-stored : goal.invariant-loop-stored
invariant-loop-stored l = record {
  place : l.row ≡ l.stored-index + 1;
  rest : first_wrong (λ before. has_number (length before + 1)) 4 (take l.stored-index l.marks) (drop l.stored-index l.marks) ≡ number_fault l.marks;
}
