use Rattle.std.proofs.Common.{take}
use Rattle.std.specs.List.{All}
use Rattle.enq_server.specs.Recovery.{Agrees}
use Rattle.enq_server.proofs.recovery.first_missing.Given as goal

abbrev pub invariant-loop-known : goal.invariant-loop-known
invariant-loop-known l = All (Agrees l.lists) (take l.known-index l.units)
