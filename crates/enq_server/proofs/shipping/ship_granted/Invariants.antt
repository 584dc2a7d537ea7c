use Rattle.std.proofs.Common.{List, take}
use Rattle.lock_entry.specs.Names.{halves}
use Rattle.replica_link.specs.Shipping.{granted_ops}
use Rattle.lock_entry.specs.declared.entry.Entry.{Entry}
use Rattle.replica_link.specs.Operations.{after_ops}
use Rattle.enq_server.specs.Replica.{IsAt, IsLostBy, KeepsOn}
use Rattle.enq_server.proofs.shipping.ship_granted.Given as goal

abbrev pub invariant-loop-request : goal.invariant-loop-request
invariant-loop-request g l = record {
  at : (list : List Entry) → IsAt g.L.Link.applied l.fn.replica list → IsAt g.L.Link.applied l.replica
      (after_ops list (granted_ops (g.T.LockStore.table l.table).entries (halves l.asker (take l.request-index l.requests))));
  keeps : KeepsOn g.L.Link.applied g.L.Link.faults g.L.Link.refusals l.fn.replica l.replica;
  lost : IsLostBy l.fn.replica l.replica (granted_ops (g.T.LockStore.table l.table).entries (halves l.asker (take l.request-index l.requests)));
}
