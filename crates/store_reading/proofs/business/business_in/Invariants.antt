use Rattle.std.proofs.Common.{◌≡◌, ◌≤◌, length, drop}
use Rattle.store_reading.specs.Business.{business_in}
use Rattle.store_reading.proofs.business.business_in.Given as goal

abbrev pub invariant-loop-left : goal.invariant-loop-left
invariant-loop-left l = record {
  bound : l.left ≤ length l.records;
  rows : l.rows.tables ≡ business_in (drop l.left l.records);
}

abbrev pub decreases-loop-left : goal.decreases-loop-left
decreases-loop-left l = l.left
