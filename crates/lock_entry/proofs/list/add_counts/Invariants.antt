use Rattle.std.proofs.Common.{◌≡◌, ◌++◌, map, take, drop}
use Rattle.lock_entry.specs.Turning.{joined}
use Rattle.lock_entry.proofs.list.add_counts.Given as goal

abbrev pub invariant-loop-e : goal.invariant-loop-e
invariant-loop-e l = l.entries ≡ map (joined l.name l.other) (take l.e-index l.initial.entries) ++ drop l.e-index l.initial.entries
