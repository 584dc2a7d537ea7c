use Rattle.std.proofs.Common.{◌≡◌, ◌↔◌, false, map, length}
use Rattle.std.specs.List.{AllByRecursion, IsDistinct}
use Rattle.std.specs.BTreeSet.{contains}
use Rattle.keeper_api.specs.Batch.{spot_of, is_same_spot}
use Rattle.row_tree.specs.Keys.{key_at, key_cmp}
use Rattle.row_tree.proofs.batches.are_distinct.Given as goal

abbrev pub invariant-loop-first : goal.invariant-loop-first
invariant-loop-first l = (IsDistinct is_same_spot (map spot_of l.rest) × AllByRecursion (λ s. contains key_cmp l.seen (key_at s) ≡ false) (map spot_of l.rest))
    ↔ IsDistinct is_same_spot (map spot_of l.batch)

abbrev pub decreases-loop-first : goal.decreases-loop-first
decreases-loop-first l = length l.rest
