use Rattle.std.proofs.Common.{sym, ◌∙◌}
use Rattle.order_workers.proofs.Orders.{apart, take_idle, take_refused}
use Rattle.order_workers.proofs.worker.do_order.Goals as goal
use Rattle.order_workers.proofs.worker.do_order.Goals.{else-is_idle-via-then-is_idle+else-look, else-is_idle-via-else-is_idle}

pub returns-then-look : goal.returns-then-look
returns-then-look g c =
    take_idle g.K.OrderDesk.leads c.args.worker c.args.part _ _ c.take_command.result c.order-look.result
    c.take_command.ensures.command c.order-look.ensures.leads (sym c.is_idle.ensures ∙ c.if-is_idle.true) c.if-look.true

pub returns : goal.returns
returns g c = elim c.else-is_idle.branch [
  | else-is_idle-via-then-is_idle+else-look w ↦
      take_refused g.K.OrderDesk.leads c.args.worker c.args.part _ _ c.take_command.result c.order-look.result
      c.take_command.ensures.command c.order-look.ensures.leads (sym c.is_order.ensures ∙ c.if-is_order.false) (λ idle up. apart _ up w.if-look.false)
  | else-is_idle-via-else-is_idle w ↦
      take_refused g.K.OrderDesk.leads c.args.worker c.args.part _ _ c.take_command.result c.order-look.result
      c.take_command.ensures.command c.order-look.ensures.leads (sym c.is_order.ensures ∙ c.if-is_order.false)
      (λ idle up. apart _ idle (sym c.is_idle.ensures ∙ w.if-is_idle.false))
]
