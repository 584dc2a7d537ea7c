use Rattle.std.proofs.Common.{◌≡◌, true, ap, sym, subst, ◌∙◌}
use Rattle.std.specs.Prelude.{is_some}
use Rattle.enq_server.specs.Replica.{IsAt}
use Rattle.enq_server.specs.Server.{table_of}
use Rattle.enq_server.proofs.Stores.{at_store, lost_store}
use Rattle.replica_link.specs.Shipping.{owner_ops}
use Rattle.enq_server.proofs.Changed.{owner_other}
use Rattle.replica_link.proofs.lemmas.Drops.{owner_ops-freed_owner}
use Rattle.enq_server.proofs.server.EnqServer.free_owner.Goals as goal

pub invariant_of-self : goal.invariant_of-self
invariant_of-self g c =
    let table = g.T.LockStore.table c.in-Some.table in
    let at = at_store g.T.LockStore.table g.L.Link.applied c.self-inside.inside.0.1.0.replica c.self-inside.inside.0.0 c.in-Some.table c.in-Some.is
    (subst (λ s. is_some s.table ≡ true → IsAt g.L.Link.applied s.rest.replica (table_of g.T.LockStore.table s.table).entries) (sym c.self-inside.view_is)
    c.self.invariant.1) in (
      c.free_owner.ensures.good,
      λ _. subst (IsAt g.L.Link.applied c.ship_owner.new.replica)
          (owner_ops-freed_owner table.entries c.args.owner.now ∙ sym (ap (λ t. t.entries) c.free_owner.ensures.after))
          (c.ship_owner.ensures.at table.entries at),
    )

pub returns-in-Some-clause-lost : goal.returns-in-Some-clause-lost
returns-in-Some-clause-lost g c =
    let table = g.T.LockStore.table c.in-Some.table in
    lost_store g.T.LockStore.table c.self-inside.inside.0.1.0.replica c.ship_owner.new.replica c.args.self.now.replica c.self-inside.inside.0.0 c.in-Some.table
    c.args.self.now.table (g.T.LockStore.table c.free_owner.new.self) (owner_ops table.entries c.args.owner.now) c.in-Some.is
    (ap (λ s. s.rest.replica) c.self-inside.view_is ∙ ap (λ s. s.replica) c.self.view_is)
    (ap (λ s. table_of g.T.LockStore.table s.table) c.self-inside.view_is ∙ ap (λ s. s.table) c.self.view_is)
    c.ship_owner.ensures.lost
    (λ some same. owner_other c.args.owner.now table.entries some (sym (ap (λ t. t.entries) c.free_owner.ensures.after) ∙ same))
