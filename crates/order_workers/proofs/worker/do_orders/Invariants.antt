use Rattle.order_workers.proofs.Orders.{HasGone}
use Rattle.order_workers.proofs.worker.do_orders.Given as goal

abbrev pub invariant-loop : goal.invariant-loop
invariant-loop g l =
    (goal.iterator-loop g).can_next l.iterator' × (goal.iterator-loop g).is_finite l.iterator'
    × HasGone g.K.OrderDesk.leads l.worker l.part l.initial.desk l.desk
