use Rattle.std.proofs.Common.{[], ◌∷◌, ◌+◌, take, sym, subst, ◌∙◌}
use Rattle.replica_link.specs.Operations.{after_ops}
use Rattle.replica_link.specs.Shipping.{owner_ops}
use Rattle.enq_server.specs.Replica.{IsAt, IsLostBy}
use Rattle.enq_server.proofs.lemmas.Replicas.{at_more, keeps_both, lost_more, owner_end, owner_more}
use Rattle.enq_server.proofs.shipping.ship_found.Goals as goal
use Rattle.enq_server.proofs.shipping.ship_found.Goals.{in-Some, in_default}

pub loop-place-preserved : goal.loop-place-preserved
loop-place-preserved g c =
    let es = (g.T.LockStore.table c.args.table.now).entries in
    let i = c.loop-place.place in
    let owner = c.args.owner.now in
    elim c.match-at.branch [
      | in-Some w ↦ rw w.replica-is (record {
        at = λ list before.
            at_more g.L.Link.applied w.ship_own.new.replica list (owner_ops (take i es) owner) (owner_ops (w.in-Some.entry ∷ []) owner)
            (owner_ops (take (i + 1) es) owner)
            (owner_more es i w.in-Some.entry owner (sym c.at.ensures.entry ∙ w.in-Some.is))
            (w.ship_own.ensures.at (after_ops list (owner_ops (take i es) owner)) (c.loop-place.invariant.at list before));
        keeps = keeps_both g.L.Link.applied g.L.Link.faults g.L.Link.refusals c.args.replica.now c.loop-place.replica w.ship_own.new.replica
            c.loop-place.invariant.keeps w.ship_own.ensures.keeps;
        lost = lost_more c.args.replica.now c.loop-place.replica w.ship_own.new.replica (owner_ops (take i es) owner)
            (owner_ops (w.in-Some.entry ∷ []) owner) (owner_ops (take (i + 1) es) owner)
            (owner_more es i w.in-Some.entry owner (sym c.at.ensures.entry ∙ w.in-Some.is)) c.loop-place.invariant.lost w.ship_own.ensures.lost;
      })
      | in_default w ↦ rw w.replica-is (record {
        at = λ list before.
            subst (λ ops. IsAt g.L.Link.applied c.loop-place.replica (after_ops list ops))
            (sym (owner_end es i owner (sym c.at.ensures.entry ∙ w.in_default.is))) (c.loop-place.invariant.at list before);
        keeps = c.loop-place.invariant.keeps;
        lost = subst (IsLostBy c.args.replica.now c.loop-place.replica) (sym (owner_end es i owner (sym c.at.ensures.entry ∙ w.in_default.is)))
            c.loop-place.invariant.lost;
      })
    ]
