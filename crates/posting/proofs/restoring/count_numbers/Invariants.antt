use Rattle.std.proofs.Common.{◌≡◌, ◌*◌, ◌≤◌, length, take}
use Rattle.update_records.specs.Business.{numbers_of}
use Rattle.posting.proofs.restoring.count_numbers.Given as goal

abbrev pub invariant-loop-mark : goal.invariant-loop-mark
invariant-loop-mark l = record {
  bound : l.mark-index ≤ length l.marks;
  few : l.count ≤ 64 * l.mark-index;
  count : l.count ≡ length (numbers_of l.units (take l.mark-index l.marks));
}
