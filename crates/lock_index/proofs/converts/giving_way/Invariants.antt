use Rattle.std.proofs.Common.{◌≡◌, ℕ, nat_eq, take}
use Rattle.indexmap.specs.IndexSet.{contains}
use Rattle.lock_entry.specs.Converting.{gives_way}
use Rattle.lock_index.specs.Slots.{on_some, slot_at}
use Rattle.lock_index.proofs.converts.giving_way.Given as goal

abbrev pub invariant-loop-a : goal.invariant-loop-a
invariant-loop-a l = (i : ℕ) → contains nat_eq l.places i ≡ on_some (gives_way l.asker (take l.a-index l.asked)) (slot_at l.shelf i)
