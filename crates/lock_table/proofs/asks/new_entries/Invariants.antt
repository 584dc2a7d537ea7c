use Rattle.std.proofs.Common.{◌≡◌, map, take}
use Rattle.lock_table.specs.Halves.{capped_entry, fresh_names, names_of}
use Rattle.lock_table.proofs.asks.new_entries.Given as goal

abbrev pub invariant-loop-half : goal.invariant-loop-half
invariant-loop-half l = l.added.items ≡ map (capped_entry l.user (names_of l.all)) (fresh_names (take l.half-index l.all))
