use Rattle.std.proofs.Common.{ap}
use Rattle.order_workers.specs.Orders.{other}
use Rattle.ledger_steps.specs.declared.part.Part.TheVariants.{V1, V2}
use Rattle.order_workers.proofs.Orders.{gone_done, gone_idle, works_rested, works_stopped}
use Rattle.order_workers.proofs.worker.do_orders.Goals as goal

pub loop-preserved-in-Done : goal.loop-preserved-in-Done
loop-preserved-in-Done g c =
    (tt, tt, gone_done g.K.OrderDesk.leads c.args.worker c.loop.part c.args.desk.now c.loop.desk c.do_order.new.desk c.loop.invariant.2 c.in-Done.ensures)

pub loop-preserved-in-V1 : goal.loop-preserved-in-V1
loop-preserved-in-V1 g c = (
  tt,
  tt,
  gone_idle g.K.OrderDesk.leads c.args.worker c.loop.part V2 c.in-Idle.past c.args.desk.now c.loop.desk c.do_order.new.desk
      (ap other c.in-V1.is) c.loop.invariant.2 c.in-Idle.ensures,
)

pub loop-preserved : goal.loop-preserved
loop-preserved g c = (
  tt,
  tt,
  gone_idle g.K.OrderDesk.leads c.args.worker c.loop.part V1 c.in-Idle.past c.args.desk.now c.loop.desk c.do_order.new.desk
      (ap other c.in-V2.is) c.loop.invariant.2 c.in-Idle.ensures,
)

pub returns-in-Refused : goal.returns-in-Refused
returns-in-Refused g c = record {
  works = works_stopped g.K.OrderDesk.leads c.args.worker c.loop.part c.args.desk.now c.loop.desk c.do_order.new.desk c.loop.invariant.2 c.in-Refused.ensures;
}

pub returns-then-is_last : goal.returns-then-is_last
returns-then-is_last g c = record {
  works = works_rested g.K.OrderDesk.leads c.args.worker c.loop.part c.in-Idle.past c.args.desk.now c.loop.desk c.do_order.new.desk
      c.in-V2.is c.loop.invariant.2 c.in-Idle.ensures;
}
