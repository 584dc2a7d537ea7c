use Rattle.std.proofs.Common.{◌≡◌, ◌++◌, map, take}
use Rattle.lock_entry.specs.Granting.{raised}
use Rattle.lock_table.specs.Halves.{names_of}
use Rattle.lock_table.proofs.asks.grant.Given as goal

abbrev pub invariant-loop-half : goal.invariant-loop-half
invariant-loop-half l = l.entries.items ≡ map (raised (names_of (take l.half-index l.all))) l.fn.entries.items ++ l.added
