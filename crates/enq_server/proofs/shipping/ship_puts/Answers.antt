use Rattle.std.proofs.Common.{[], ◌∷◌, ◌+◌, map, take, arith}
use Rattle.replica_link.specs.Operations.{after_ops}
use Rattle.replica_link.specs.declared.operation.TableOp.TheVariants.{Put}
use Rattle.enq_server.proofs.lemmas.Replicas.{at_more, keeps_both, lost_more, mapped_more}
use Rattle.enq_server.proofs.shipping.ship_puts.Goals as goal

pub loop-entry-preserved : goal.loop-entry-preserved
loop-entry-preserved g c =
    let es = c.args.entries.now in
    let i = c.loop-entry.entry-index in
    let e = c.entry-item.result in
    record {
      at = λ list before.
          at_more g.L.Link.applied c.ship.new.self list (map Put (take i es)) (Put e ∷ []) (map Put (take (i + 1) es))
          (mapped_more Put es i e c.loop-entry-test.true c.entry-item.is)
          (c.ship.ensures.at (after_ops list (map Put (take i es))) (c.loop-entry.invariant.at list before));
      keeps = keeps_both g.L.Link.applied g.L.Link.faults g.L.Link.refusals c.args.replica.now c.loop-entry.replica c.ship.new.self
          c.loop-entry.invariant.keeps c.ship.ensures.keeps;
      lost = lost_more c.args.replica.now c.loop-entry.replica c.ship.new.self (map Put (take i es)) (Put e ∷ []) (map Put (take (i + 1) es))
          (mapped_more Put es i e c.loop-entry-test.true c.entry-item.is) c.loop-entry.invariant.lost (λ on off. omega arith);
    }
