use Rattle.std.proofs.Common.{◌≡◌, ◌++◌, map, take, drop}
use Rattle.lock_entry.specs.Turning.{made_exclusive}
use Rattle.lock_entry.proofs.list.set_exclusive.Given as goal

abbrev pub invariant-loop-e : goal.invariant-loop-e
invariant-loop-e l = l.entries ≡ map (made_exclusive l.name) (take l.e-index l.initial.entries) ++ drop l.e-index l.initial.entries
