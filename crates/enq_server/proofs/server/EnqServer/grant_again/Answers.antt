use Rattle.std.proofs.Common.{◌≡◌, ◌++◌, [], true, if◌then◌else◌, map, ap, sym, subst, ◌∙◌}
use Rattle.std.specs.List.{filter}
use Rattle.std.specs.Prelude.{is_some}
use Rattle.lock_entry.specs.Table.{IsTable}
use Rattle.enq_server.specs.Replica.{IsAt}
use Rattle.enq_server.specs.Server.{table_of}
use Rattle.enq_server.proofs.Changed.{readmits_at, readmits_other}
use Rattle.enq_server.proofs.Stores.{at_store, good_store, lost_store}
use Rattle.lock_entry.specs.Names.{is_of}
use Rattle.replica_link.specs.Shipping.{drop_of}
use Rattle.replica_link.specs.declared.operation.TableOp.TheVariants.{Put}
use Rattle.enq_server.proofs.server.EnqServer.grant_again.Goals as goal

pub stays_so-requires-clause-own : goal.stays_so-requires-clause-own
stays_so-requires-clause-own g c =
    let own = filter (is_of c.args.asker.now.update) in
    c.requires.own
    ∙ ap (λ s. own s.table.entries) (sym c.self.view_is)
    ∙ ap (λ s. own (table_of g.T.LockStore.table s.table).entries) (sym c.self-inside.view_is)
    ∙ ap (λ t. own (table_of g.T.LockStore.table t).entries) c.in-Some.is

pub invariant_of-self-2 : goal.invariant_of-self-2
invariant_of-self-2 g c =
    let table = g.T.LockStore.table c.in-Some.table in
    let good = good_store g.T.LockStore.table c.self-inside.inside.0.0 c.in-Some.table c.in-Some.is
    (subst (λ s. IsTable (table_of g.T.LockStore.table s.table)) (sym c.self-inside.view_is) c.self.invariant.0) in
    let at = at_store g.T.LockStore.table g.L.Link.applied c.self-inside.inside.0.1.0.replica c.self-inside.inside.0.0 c.in-Some.table c.in-Some.is
    (subst (λ s. is_some s.table ≡ true → IsAt g.L.Link.applied s.rest.replica (table_of g.T.LockStore.table s.table).entries) (sym c.self-inside.view_is)
    c.self.invariant.1) in
    let own = filter (is_of c.args.asker.now.update) in (
      c.in_ok-readmit.ensures.good,
      λ _. subst (IsAt g.L.Link.applied c.ship_readmitted.new.replica)
          (readmits_at table c.args.asker.now c.args.own.now c.args.entries.now
          (g.T.LockStore.table c.readmit.new.self).entries c.in_ok-stays.stays good c.requires.entries
          (c.requires.own
          ∙ ap (λ s. own s.table.entries) (sym c.self.view_is)
          ∙ ap (λ s. own (table_of g.T.LockStore.table s.table).entries) (sym c.self-inside.view_is)
          ∙ ap (λ t. own (table_of g.T.LockStore.table t).entries) c.in-Some.is)
          c.in_ok-stays.ensures.same c.in_ok-readmit.ensures.granted)
          (c.ship_readmitted.ensures.at table.entries at),
    )

pub returns-clause-lost : goal.returns-clause-lost
returns-clause-lost g c =
    let table = g.T.LockStore.table c.in-Some.table in
    lost_store g.T.LockStore.table c.self-inside.inside.0.1.0.replica c.ship_readmitted.new.replica c.args.self.now.replica c.self-inside.inside.0.0
    c.in-Some.table
    c.args.self.now.table (g.T.LockStore.table c.readmit.new.self) (if c.in_ok-stays.stays then [] else map drop_of c.args.own.now ++ map Put c.args.entries.now) c.in-Some.is
    (ap (λ s. s.rest.replica) c.self-inside.view_is ∙ ap (λ s. s.replica) c.self.view_is)
    (ap (λ s. table_of g.T.LockStore.table s.table) c.self-inside.view_is ∙ ap (λ s. s.table) c.self.view_is)
    c.ship_readmitted.ensures.lost
    (readmits_other table c.args.asker.now c.args.own.now c.args.entries.now (g.T.LockStore.table c.readmit.new.self).entries c.in_ok-stays.stays
    c.in_ok-readmit.ensures.granted c.in_ok-stays.ensures.other)
