use Rattle.std.proofs.Common.{[], ◌∷◌, ◌+◌, map, take, subst, arith}
use Rattle.replica_link.specs.Operations.{after_op, after_ops}
use Rattle.replica_link.specs.Shipping.{drop_of}
use Rattle.enq_server.specs.Replica.{IsAt}
use Rattle.enq_server.proofs.lemmas.Replicas.{at_more, keeps_both, lost_more, mapped_more}
use Rattle.enq_server.proofs.shipping.ship_drops.Goals as goal

pub loop-entry-preserved : goal.loop-entry-preserved
loop-entry-preserved g c =
    let es = c.args.entries.now in
    let i = c.loop-entry.entry-index in
    let e = c.entry-item.result in
    record {
      at = λ list before.
          at_more g.L.Link.applied c.ship.new.self list (map drop_of (take i es)) (drop_of e ∷ []) (map drop_of (take (i + 1) es))
          (mapped_more drop_of es i e c.loop-entry-test.true c.entry-item.is)
          (subst (λ op. IsAt g.L.Link.applied c.ship.new.self (after_op (after_ops list (map drop_of (take i es))) op)) c.drop_of.ensures
          (c.ship.ensures.at (after_ops list (map drop_of (take i es))) (c.loop-entry.invariant.at list before)));
      keeps = keeps_both g.L.Link.applied g.L.Link.faults g.L.Link.refusals c.args.replica.now c.loop-entry.replica c.ship.new.self
          c.loop-entry.invariant.keeps c.ship.ensures.keeps;
      lost = lost_more c.args.replica.now c.loop-entry.replica c.ship.new.self (map drop_of (take i es)) (drop_of e ∷ []) (map drop_of (take (i + 1) es))
          (mapped_more drop_of es i e c.loop-entry-test.true c.entry-item.is) c.loop-entry.invariant.lost (λ on off. omega arith);
    }
