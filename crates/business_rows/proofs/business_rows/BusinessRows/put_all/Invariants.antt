use Rattle.std.proofs.Common.{◌≡◌, ◌≤◌, length}
use Rattle.module_effects.specs.Spots.{with_spots}
use Rattle.business_rows.proofs.business_rows.BusinessRows.put_all.Given as goal

abbrev pub invariant-loop-spot : goal.invariant-loop-spot
invariant-loop-spot l = record {
  room : length l.rest.items ≤ l.self.room;
  put : with_spots l.rest.items l.self.tables ≡ with_spots l.fn.spots.items l.fn.self.tables;
}

abbrev pub decreases-loop-spot : goal.decreases-loop-spot
decreases-loop-spot l = length l.rest.items
