use Rattle.std.proofs.Common.{◌≡◌, ◌≤◌, nat_eq}
use Rattle.std.specs.Cmp.Lexicographic.{pointwise}
use Rattle.std.specs.List.{range_with_len}
use Rattle.store_reading.proofs.Draws.{rest_runs}
use Rattle.store_reading.proofs.level_rule.run_from.Given as goal

abbrev pub invariant-loop-number : goal.invariant-loop-number
invariant-loop-number l = record {
  place : l.done ≡ l.number-index;
  few : l.done ≤ l.count;
  rest : rest_runs l.numbers l.from l.count l.done ≡ pointwise nat_eq l.numbers (range_with_len l.from l.count);
}
