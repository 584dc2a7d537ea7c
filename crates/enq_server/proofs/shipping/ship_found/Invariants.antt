use Rattle.std.proofs.Common.{List, take}
use Rattle.replica_link.specs.Shipping.{owner_ops}
use Rattle.lock_entry.specs.declared.entry.Entry.{Entry}
use Rattle.replica_link.specs.Operations.{after_ops}
use Rattle.enq_server.specs.Replica.{IsAt, IsLostBy, KeepsOn}
use Rattle.enq_server.proofs.shipping.ship_found.Given as goal

abbrev pub invariant-loop-place : goal.invariant-loop-place
invariant-loop-place g l = record {
  at : (list : List Entry) → IsAt g.L.Link.applied l.fn.replica list → IsAt g.L.Link.applied l.replica
      (after_ops list (owner_ops (take l.place (g.T.LockStore.table l.table).entries) l.owner));
  keeps : KeepsOn g.L.Link.applied g.L.Link.faults g.L.Link.refusals l.fn.replica l.replica;
  lost : IsLostBy l.fn.replica l.replica (owner_ops (take l.place (g.T.LockStore.table l.table).entries) l.owner);
}
