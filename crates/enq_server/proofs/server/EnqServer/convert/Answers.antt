use Rattle.std.proofs.Common.{◌≡◌, ◌++◌, true, ap, refl, map, sym, subst, ◌∙◌}
use Rattle.std.specs.List.{flat_map}
use Rattle.std.specs.Prelude.{is_some}
use Rattle.enq_server.specs.Replica.{IsAt, IsLostBy}
use Rattle.enq_server.specs.Server.{table_of}
use Rattle.enq_server.proofs.Stores.{at_store, lost_store}
use Rattle.replica_link.specs.Operations.{after_ops}
use Rattle.replica_link.specs.Shipping.{drop_of, turn_ops}
use Rattle.enq_server.proofs.Changed.{converted_other}
use Rattle.enq_server.proofs.Shipped.{converted_at}
use Rattle.enq_server.proofs.lemmas.Replicas.{lost_more}
use Rattle.enq_server.proofs.server.EnqServer.convert.Goals as goal

pub invariant_of-self-2 : goal.invariant_of-self-2
invariant_of-self-2 g c =
    let table = g.T.LockStore.table c.in-Some.table in
    let at = at_store g.T.LockStore.table g.L.Link.applied c.self-inside.inside.0.1.0.replica c.self-inside.inside.0.0 c.in-Some.table c.in-Some.is
    (subst (λ s. is_some s.table ≡ true → IsAt g.L.Link.applied s.rest.replica (table_of g.T.LockStore.table s.table).entries) (sym c.self-inside.view_is)
    c.self.invariant.1) in
    let turned = after_ops table.entries (flat_map (turn_ops c.args.asker.now) c.args.asked.now) in (
      c.in_ok-removed.ensures.good,
      λ _. subst (IsAt g.L.Link.applied c.ship_drops.new.replica)
          (ap (λ xs. after_ops turned (map drop_of xs)) c.as_slice.ensures.value
          ∙ converted_at table.entries c.args.asker.now c.args.asked.now
          (record { entries = (g.T.LockStore.table c.convert.new.self).entries; removed = c.in_ok-removed.removed.items })
          c.in_ok-removed.ensures.converted)
          (c.ship_drops.ensures.at turned (c.ship_turns.ensures.at table.entries at)),
    )

pub returns-clause-lost : goal.returns-clause-lost
returns-clause-lost g c =
    let table = g.T.LockStore.table c.in-Some.table in
    let turns = flat_map (turn_ops c.args.asker.now) c.args.asked.now in
    lost_store g.T.LockStore.table c.self-inside.inside.0.1.0.replica c.ship_drops.new.replica c.args.self.now.replica c.self-inside.inside.0.0 c.in-Some.table
    c.args.self.now.table (g.T.LockStore.table c.convert.new.self) (turns ++ map drop_of c.in_ok-removed.removed.items) c.in-Some.is
    (ap (λ s. s.rest.replica) c.self-inside.view_is ∙ ap (λ s. s.replica) c.self.view_is)
    (ap (λ s. table_of g.T.LockStore.table s.table) c.self-inside.view_is ∙ ap (λ s. s.table) c.self.view_is)
    (subst (λ xs. IsLostBy c.self-inside.inside.0.1.0.replica c.ship_drops.new.replica (turns ++ map drop_of xs)) c.as_slice.ensures.value
    (lost_more c.self-inside.inside.0.1.0.replica c.ship_turns.new.replica c.ship_drops.new.replica turns (map drop_of c.as_slice.result.now) _ refl
    c.ship_turns.ensures.lost c.ship_drops.ensures.lost))
    (converted_other table.entries c.args.asker.now c.args.asked.now
    (record { entries = (g.T.LockStore.table c.convert.new.self).entries; removed = c.in_ok-removed.removed.items }) c.in_ok-removed.ensures.converted)
