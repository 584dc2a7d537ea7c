use Rattle.std.proofs.Common.{◌≡◌, ℕ, nat_eq, take}
use Rattle.std.specs.HashSet.{contains}
use Rattle.std.specs.List.{list_any}
use Rattle.store_reading.specs.Intervals.{are_apart}
use Rattle.store_reading.proofs.level_rule.are_apart.Given as goal

abbrev pub invariant-loop-number : goal.invariant-loop-number
invariant-loop-number l = record {
  seen : (n : ℕ) → contains nat_eq l.seen n ≡ list_any (λ m. nat_eq m n) (take l.number-index l.numbers);
  apart : l.apart ≡ are_apart (take l.number-index l.numbers);
}
