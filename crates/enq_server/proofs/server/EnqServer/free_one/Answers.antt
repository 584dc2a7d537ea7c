use Rattle.std.proofs.Common.{◌≡◌, true, ap, sym, subst, ◌∙◌}
use Rattle.std.specs.Prelude.{is_some}
use Rattle.lock_entry.specs.Table.{IsTable}
use Rattle.enq_server.specs.Replica.{IsAt}
use Rattle.enq_server.specs.Server.{table_of}
use Rattle.enq_server.proofs.Stores.{at_store, good_store, lost_store}
use Rattle.replica_link.specs.Shipping.{freed_ops}
use Rattle.enq_server.proofs.Changed.{freed_other}
use Rattle.replica_link.proofs.lemmas.Frees.{freed_ops-freed}
use Rattle.lock_entry.specs.Names.{named}
use Rattle.enq_server.proofs.server.EnqServer.free_one.Goals as goal

pub invariant_of-self : goal.invariant_of-self
invariant_of-self g c =
    let table = g.T.LockStore.table c.in-Some.table in
    let good = good_store g.T.LockStore.table c.self-inside.inside.0.0 c.in-Some.table c.in-Some.is
    (subst (λ s. IsTable (table_of g.T.LockStore.table s.table)) (sym c.self-inside.view_is) c.self.invariant.0) in
    let at = at_store g.T.LockStore.table g.L.Link.applied c.self-inside.inside.0.1.0.replica c.self-inside.inside.0.0 c.in-Some.table c.in-Some.is
    (subst (λ s. is_some s.table ≡ true → IsAt g.L.Link.applied s.rest.replica (table_of g.T.LockStore.table s.table).entries) (sym c.self-inside.view_is)
    c.self.invariant.1) in (
      c.free_one.ensures.good,
      λ _. subst (IsAt g.L.Link.applied c.ship_freed.new.replica)
          (freed_ops-freed table.entries (named c.args.owner.now c.args.asked.now) good.sound.names
          ∙ sym (ap (λ t. t.entries) c.free_one.ensures.after))
          (c.ship_freed.ensures.at table.entries at),
    )

pub returns-in-Some-clause-lost : goal.returns-in-Some-clause-lost
returns-in-Some-clause-lost g c =
    let table = g.T.LockStore.table c.in-Some.table in
    lost_store g.T.LockStore.table c.self-inside.inside.0.1.0.replica c.ship_freed.new.replica c.args.self.now.replica c.self-inside.inside.0.0 c.in-Some.table
    c.args.self.now.table (g.T.LockStore.table c.free_one.new.self) (freed_ops table.entries (named c.args.owner.now c.args.asked.now)) c.in-Some.is
    (ap (λ s. s.rest.replica) c.self-inside.view_is ∙ ap (λ s. s.replica) c.self.view_is)
    (ap (λ s. table_of g.T.LockStore.table s.table) c.self-inside.view_is ∙ ap (λ s. s.table) c.self.view_is)
    c.ship_freed.ensures.lost
    (λ some same. freed_other (named c.args.owner.now c.args.asked.now) table.entries some (sym (ap (λ t. t.entries) c.free_one.ensures.after) ∙ same))
