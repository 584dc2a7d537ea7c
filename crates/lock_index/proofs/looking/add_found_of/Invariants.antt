use Rattle.std.proofs.Common.{◌≡◌, ◌||◌, ◌&&◌, ℕ, nat_eq, take}
use Rattle.std.specs.List.{list_any}
use Rattle.indexmap.specs.IndexSet.{contains}
use Rattle.lock_index.specs.Searches as searches
use Rattle.lock_index.specs.Slots.{on_some, slot_at}
use Rattle.lock_index.proofs.looking.add_found_of.Given as goal

abbrev pub invariant-loop-place : goal.invariant-loop-place
invariant-loop-place l =
    (i : ℕ) → contains nat_eq l.found
    i ≡ (contains nat_eq l.fn.found i || (list_any (nat_eq i) (take l.place-index l.places) && on_some (searches.finds l.search) (slot_at l.slots i)))
