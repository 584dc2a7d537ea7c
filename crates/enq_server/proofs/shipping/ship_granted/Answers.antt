use Rattle.std.proofs.Common.{◌+◌, take, ap, ◌∙◌}
use Rattle.std.proofs.lemmas.List.Concat.{flat_map-append}
use Rattle.lock_entry.specs.Names.{halves, halves_of}
use Rattle.replica_link.specs.Operations.{after_ops}
use Rattle.replica_link.specs.Shipping.{granted_ops, put_ops}
use Rattle.enq_server.proofs.lemmas.Replicas.{at_more, joined_more, keeps_both, lost_more}
use Rattle.enq_server.proofs.shipping.ship_granted.Goals as goal

pub loop-request-preserved : goal.loop-request-preserved
loop-request-preserved g c =
    let xs = c.args.requests.now in
    let i = c.loop-request.request-index in
    let x = c.request-item.result in
    let asker = c.args.asker.now in
    let table = (g.T.LockStore.table c.args.table.now).entries in
    record {
      at = λ list before.
          at_more g.L.Link.applied c.ship_halves.new.replica list (granted_ops table (halves asker (take i xs))) (granted_ops table (halves_of asker x))
          (granted_ops table (halves asker (take (i + 1) xs)))
          (ap (granted_ops table) (joined_more (halves_of asker) xs i x c.loop-request-test.true c.request-item.is)
          ∙ flat_map-append (put_ops table) (halves asker (take i xs)) (halves_of asker x))
          (c.ship_halves.ensures.at (after_ops list (granted_ops table (halves asker (take i xs)))) (c.loop-request.invariant.at list before));
      keeps = keeps_both g.L.Link.applied g.L.Link.faults g.L.Link.refusals c.args.replica.now c.loop-request.replica c.ship_halves.new.replica
          c.loop-request.invariant.keeps c.ship_halves.ensures.keeps;
      lost = lost_more c.args.replica.now c.loop-request.replica c.ship_halves.new.replica (granted_ops table (halves asker (take i xs)))
          (granted_ops table (halves_of asker x)) (granted_ops table (halves asker (take (i + 1) xs)))
          (ap (granted_ops table) (joined_more (halves_of asker) xs i x c.loop-request-test.true c.request-item.is)
          ∙ flat_map-append (put_ops table) (halves asker (take i xs)) (halves_of asker x))
          c.loop-request.invariant.lost c.ship_halves.ensures.lost;
    }
