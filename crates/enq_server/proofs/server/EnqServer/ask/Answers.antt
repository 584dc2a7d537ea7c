use Rattle.std.proofs.Common.{◌≡◌, true, ap, subst, sym, ◌∙◌}
use Rattle.std.specs.Prelude.{is_some}
use Rattle.lock_entry.specs.Table.{IsTable}
use Rattle.lock_entry.specs.Names.{halves}
use Rattle.replica_link.specs.Shipping.{granted_ops}
use Rattle.enq_server.specs.Replica.{IsAt}
use Rattle.enq_server.specs.Server.{table_of}
use Rattle.enq_server.proofs.Stores.{at_store, good_store, lost_store}
use Rattle.enq_server.proofs.Changed.{asked_other}
use Rattle.enq_server.proofs.Shipped.{granted_at}
use Rattle.enq_server.proofs.server.EnqServer.ask.Goals as goal

pub invariant_of-self-2 : goal.invariant_of-self-2
invariant_of-self-2 g c =
    let table = g.T.LockStore.table c.in-Some.table in
    let good = good_store g.T.LockStore.table c.self-inside.inside.0.0 c.in-Some.table c.in-Some.is
    (subst (λ s. IsTable (table_of g.T.LockStore.table s.table)) (sym c.self-inside.view_is) c.self.invariant.0) in
    let at = at_store g.T.LockStore.table g.L.Link.applied c.self-inside.inside.0.1.0.replica c.self-inside.inside.0.0 c.in-Some.table c.in-Some.is
    (subst (λ s. is_some s.table ≡ true → IsAt g.L.Link.applied s.rest.replica (table_of g.T.LockStore.table s.table).entries) (sym c.self-inside.view_is)
    c.self.invariant.1) in (
      c.in_ok-ask.ensures.good,
      λ _. subst (IsAt g.L.Link.applied c.ship_granted.new.replica)
          (granted_at table c.args.asker.now c.args.user.now c.args.requests.now
          (g.T.LockStore.table c.ask.new.self).entries good c.in_ok-ask.ensures.granted)
          (c.ship_granted.ensures.at table.entries at),
    )

pub returns-clause-lost : goal.returns-clause-lost
returns-clause-lost g c =
    let table = g.T.LockStore.table c.in-Some.table in
    lost_store g.T.LockStore.table c.self-inside.inside.0.1.0.replica c.ship_granted.new.replica c.args.self.now.replica c.self-inside.inside.0.0
    c.in-Some.table
    c.args.self.now.table (g.T.LockStore.table c.ask.new.self) (granted_ops (g.T.LockStore.table c.ask.new.self).entries (halves c.args.asker.now c.args.requests.now)) c.in-Some.is
    (ap (λ s. s.rest.replica) c.self-inside.view_is ∙ ap (λ s. s.replica) c.self.view_is)
    (ap (λ s. table_of g.T.LockStore.table s.table) c.self-inside.view_is ∙ ap (λ s. s.table) c.self.view_is)
    c.ship_granted.ensures.lost
    (asked_other table c.args.asker.now c.args.user.now c.args.requests.now (g.T.LockStore.table c.ask.new.self).entries c.in_ok-ask.ensures.granted)
