use Rattle.std.proofs.Common.{◌≡◌, take}
use Rattle.lock_entry.specs.Turning.{turned}
use Rattle.lock_entry.specs.Converting.{turns}
use Rattle.lock_table.proofs.converts.turn_all.Given as goal

abbrev pub invariant-loop-a : goal.invariant-loop-a
invariant-loop-a l = l.entries.items ≡ turned l.initial.entries.items (turns l.asker (take l.a-index l.asked))
