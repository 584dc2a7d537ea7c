use Rattle.std.proofs.Common.{◌≡◌, take}
use Rattle.enq_server.specs.Recovery.{joined}
use Rattle.enq_server.proofs.recovery.joined.Given as goal

abbrev pub invariant-loop-known : goal.invariant-loop-known
invariant-loop-known l = l.entries.items ≡ joined (take l.known-index l.units)
