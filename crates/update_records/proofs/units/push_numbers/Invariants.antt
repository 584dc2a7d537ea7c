use Rattle.std.proofs.Common.{◌≡◌, ◌++◌, drop, take}
use Rattle.std.specs.List.{All, flat_map}
use Rattle.update_records.specs.Grammar.{IsNumber}
use Rattle.update_records.specs.RecordRows.{number_bytes, numbers_bytes}
use Rattle.update_records.proofs.units.push_numbers.Given as goal

abbrev pub invariant-loop-number : goal.invariant-loop-number
invariant-loop-number l = record {
  whole : l.out.items ++ flat_map number_bytes (drop l.number-index l.numbers) ≡ l.fn.out.items ++ numbers_bytes l.numbers;
  spelt : All IsNumber (take l.number-index l.numbers);
}
