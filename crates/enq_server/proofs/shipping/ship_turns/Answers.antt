use Rattle.std.proofs.Common.{◌+◌, take}
use Rattle.std.specs.List.{flat_map}
use Rattle.replica_link.specs.Operations.{after_ops}
use Rattle.replica_link.specs.Shipping.{turn_ops}
use Rattle.enq_server.proofs.lemmas.Replicas.{at_more, joined_more, keeps_both, lost_more}
use Rattle.enq_server.proofs.shipping.ship_turns.Goals as goal

pub loop-one-preserved : goal.loop-one-preserved
loop-one-preserved g c =
    let xs = c.args.asked.now in
    let i = c.loop-one.one-index in
    let x = c.one-item.result in
    let f = turn_ops c.args.asker.now in
    record {
      at = λ list before.
          at_more g.L.Link.applied c.ship_turn.new.replica list (flat_map f (take i xs)) (f x) (flat_map f (take (i + 1) xs))
          (joined_more f xs i x c.loop-one-test.true c.one-item.is)
          (c.ship_turn.ensures.at (after_ops list (flat_map f (take i xs))) (c.loop-one.invariant.at list before));
      keeps = keeps_both g.L.Link.applied g.L.Link.faults g.L.Link.refusals c.args.replica.now c.loop-one.replica c.ship_turn.new.replica
          c.loop-one.invariant.keeps c.ship_turn.ensures.keeps;
      lost = lost_more c.args.replica.now c.loop-one.replica c.ship_turn.new.replica (flat_map f (take i xs)) (f x) (flat_map f (take (i + 1) xs))
          (joined_more f xs i x c.loop-one-test.true c.one-item.is) c.loop-one.invariant.lost c.ship_turn.ensures.lost;
    }
