use Rattle.std.proofs.Common.{take}
use Rattle.enq_server.specs.Recovery.{AreKnown}
use Rattle.enq_server.proofs.places.known_units.Given as goal

abbrev pub invariant-loop-one : goal.invariant-loop-one
invariant-loop-one l = AreKnown l.known.keys (take l.one-index l.units)
