use Rattle.std.proofs.Common.{◌≡◌, take}
use Rattle.lock_index.specs.Slots.{live}
use Rattle.lock_index.proofs.lists.live_entries.Given as goal

abbrev pub invariant-loop-slot : goal.invariant-loop-slot
invariant-loop-slot l = l.list.items ≡ live (take l.slot-index l.slots)
