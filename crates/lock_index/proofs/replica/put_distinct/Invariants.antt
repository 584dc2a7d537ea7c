use Rattle.std.proofs.Common.{◌≡◌, take, true}
use Rattle.lock_entry.specs.Names.{has_distinct_names}
use Rattle.lock_index.specs.Slots.{live}
use Rattle.lock_index.proofs.replica.put_distinct.Given as goal

abbrev pub invariant-loop-entry : goal.invariant-loop-entry
invariant-loop-entry l = (live l.shelf ≡ take l.entry-index l.entries) × (has_distinct_names (take l.entry-index l.entries) ≡ true)
