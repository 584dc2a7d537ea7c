use Rattle.std.proofs.Common.{◌≡◌, ◌++◌, map, take, drop}
use Rattle.replica_link.specs.Operations.{instead_of}
use Rattle.replica_link.proofs.operation.replace.Given as goal

abbrev pub invariant-loop-other : goal.invariant-loop-other
invariant-loop-other l = l.entries ≡ map (instead_of l.entry) (take l.other-index l.initial.entries) ++ drop l.other-index l.initial.entries
