use Rattle.std.proofs.Common.{◌≡◌, ◌≤◌, true, drop, length}
use Rattle.std.specs.List.{list_any}
use Rattle.lock_entry.specs.Names.{has_distinct_names}
use Rattle.backup_file.specs.Ids.{same_lock}
use Rattle.backup_file.specs.declared.ids.LockId.{LockId}
use Rattle.backup_file.proofs.Names.{has_lock}
use Rattle.backup_file.proofs.lists.are_distinct.Given as goal

abbrev pub invariant-loop-left : goal.invariant-loop-left
invariant-loop-left l = record {
  within : l.left ≤ length l.entries;
  seen : (name : LockId) → list_any (same_lock name) l.seen.keys ≡ has_lock (drop l.left l.entries) name;
  distinct : has_distinct_names (drop l.left l.entries) ≡ true;
}

abbrev pub decreases-loop-left : goal.decreases-loop-left
decreases-loop-left l = l.left
