use Rattle.std.proofs.Common.{◌≡◌, ℕ, ◌≤◌, ◌<◌, take, length, Some}
use Rattle.std.specs.List.{slice_get}
use Rattle.ledger_steps.specs.Drawn.{drawn_of}
use Rattle.ledger_steps.specs.declared.range.NumberRange.{NumberRange}
use Rattle.range_list.proofs.range_places.next_place.Given as goal

abbrev pub invariant-loop-num : goal.invariant-loop-num
invariant-loop-num l = record {
  low : l.from ≤ l.next;
  high : l.next ≤ length l.ranges;
  none : (k : ℕ) (r : NumberRange) → l.from ≤ k → k < l.next → slice_get l.ranges k ≡ Some r → drawn_of r.interval (take l.num-index l.numbers) ≡ 0;
  some : (r : NumberRange) → slice_get l.ranges l.next ≡ Some r → 1 ≤ drawn_of r.interval (take l.num-index l.numbers);
}
