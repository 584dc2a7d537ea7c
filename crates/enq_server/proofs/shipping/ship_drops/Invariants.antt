use Rattle.std.proofs.Common.{List, take, map}
use Rattle.replica_link.specs.Shipping.{drop_of}
use Rattle.lock_entry.specs.declared.entry.Entry.{Entry}
use Rattle.replica_link.specs.Operations.{after_ops}
use Rattle.enq_server.specs.Replica.{IsAt, IsLostBy, KeepsOn}
use Rattle.enq_server.proofs.shipping.ship_drops.Given as goal

abbrev pub invariant-loop-entry : goal.invariant-loop-entry
invariant-loop-entry g l = record {
  at : (list : List Entry) → IsAt g.L.Link.applied l.fn.replica list → IsAt g.L.Link.applied l.replica
      (after_ops list (map drop_of (take l.entry-index l.entries)));
  keeps : KeepsOn g.L.Link.applied g.L.Link.faults g.L.Link.refusals l.fn.replica l.replica;
  lost : IsLostBy l.fn.replica l.replica (map drop_of (take l.entry-index l.entries));
}
