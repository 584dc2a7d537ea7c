use Rattle.std.proofs.Common.{◌≡◌, ◌++◌, ◌≤◌, length}
use Rattle.row_tree.specs.Places.{behind, held}
use Rattle.row_tree.proofs.places.page_behind.Given as goal

abbrev pub invariant-loop-rest : goal.invariant-loop-rest
invariant-loop-rest l = record {
  rows : l.page.items ++ behind l.table l.after (held l.rest) ≡ behind l.table l.after (held l.places.entries);
  few : length l.page.items ≤ l.n;
}

abbrev pub decreases-loop-rest : goal.decreases-loop-rest
decreases-loop-rest l = length l.rest
