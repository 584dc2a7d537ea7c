use Rattle.std.proofs.Common.{◌≡◌, ℕ, None, cond, length, nat_eq, take}
use Rattle.std.specs.List.{list_any}
use Rattle.lock_index.specs.Slots.{slot_at}
use Rattle.lock_index.proofs.changes.clear_places.Given as goal

abbrev pub invariant-loop-place : goal.invariant-loop-place
invariant-loop-place l = record {
  long : length l.shelf ≡ length l.fn.shelf;
  cleared : (i : ℕ) → slot_at l.shelf i ≡ cond (list_any (nat_eq i) (take l.place-index l.places)) None (slot_at l.fn.shelf i);
}
