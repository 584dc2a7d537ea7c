use Rattle.std.proofs.Common.{◌≡◌, ◌++◌, map, take, drop}
use Rattle.lock_entry.specs.Freeing.{flagged}
use Rattle.lock_entry.proofs.list.flag_all.Given as goal

abbrev pub invariant-loop-e : goal.invariant-loop-e
invariant-loop-e l = l.entries ≡ map (flagged l.owner) (take l.e-index l.initial.entries) ++ drop l.e-index l.initial.entries
