use Rattle.std.proofs.Common.{sym, subst}
use Rattle.enq_server.specs.Replica.{IsAt}
use Rattle.enq_server.proofs.Changed.{handed_other, handed_same}
use Rattle.enq_server.proofs.shipping.hand.Goals as goal

pub returns-then-changes-clause-lost : goal.returns-then-changes-clause-lost
returns-then-changes-clause-lost g c = λ on off.
    handed_other c.args.unit.now (g.T.LockStore.table c.args.table.now) (g.T.LockStore.table c.hand.new.self) c.has_unhanded-unhanded.result
    c.changes.result c.len-before.result c.len.result c.hand.ensures.after c.has_unhanded-unhanded.ensures.answer c.len-before.ensures.length
    c.len.ensures.length c.changes.ensures c.if-changes.true

pub returns-else-changes-clause-at : goal.returns-else-changes-clause-at
returns-else-changes-clause-at g c = λ at.
    subst (IsAt g.L.Link.applied c.args.replica.now)
    (sym (handed_same c.args.unit.now (g.T.LockStore.table c.args.table.now) (g.T.LockStore.table c.hand.new.self) c.has_unhanded-unhanded.result
    c.changes.result c.len-before.result c.len.result c.hand.ensures.after c.has_unhanded-unhanded.ensures.answer c.len-before.ensures.length
    c.len.ensures.length c.changes.ensures c.if-changes.false)) at
