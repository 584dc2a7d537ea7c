use Rattle.std.proofs.Common.{◌≡◌, ◌||◌, ◌&&◌, ℕ, nat_eq, take}
use Rattle.std.specs.List.{list_any}
use Rattle.indexmap.specs.IndexSet.{contains}
use Rattle.lock_index.specs.Members.{is_under}
use Rattle.lock_index.specs.Searches as searches
use Rattle.lock_index.specs.Slots.{on_some, slot_at}
use Rattle.lock_index.proofs.looking.add_found_over.Given as goal

abbrev pub invariant-loop-length : goal.invariant-loop-length
invariant-loop-length l =
    (i : ℕ) → contains nat_eq l.found
    i ≡ (contains nat_eq l.fn.found i
    || (list_any (λ n. is_under l.map (searches.candidates (searches.place_of l.search) n) i) (take l.length-index l.lengths)
    && on_some (searches.finds l.search) (slot_at l.slots i)))
