use Rattle.std.proofs.Common.{List, take}
use Rattle.std.specs.List.{flat_map}
use Rattle.replica_link.specs.Shipping.{turn_ops}
use Rattle.lock_entry.specs.declared.entry.Entry.{Entry}
use Rattle.replica_link.specs.Operations.{after_ops}
use Rattle.enq_server.specs.Replica.{IsAt, IsLostBy, KeepsOn}
use Rattle.enq_server.proofs.shipping.ship_turns.Given as goal

abbrev pub invariant-loop-one : goal.invariant-loop-one
invariant-loop-one g l = record {
  at : (list : List Entry) → IsAt g.L.Link.applied l.fn.replica list → IsAt g.L.Link.applied l.replica
      (after_ops list (flat_map (turn_ops l.asker) (take l.one-index l.asked)));
  keeps : KeepsOn g.L.Link.applied g.L.Link.faults g.L.Link.refusals l.fn.replica l.replica;
  lost : IsLostBy l.fn.replica l.replica (flat_map (turn_ops l.asker) (take l.one-index l.asked));
}
