use Rattle.std.proofs.Common.{sym, ◌∙◌}
use Rattle.order_workers.proofs.Orders.{post_done, post_last, post_refused}
use Rattle.order_workers.proofs.worker.do_taken.Goals as goal

pub returns-then-is_refused : goal.returns-then-is_refused
returns-then-is_refused g c =
    post_refused g.K.OrderDesk.leads c.args.worker c.args.part _ _ _ c.post_command.result c.order-look.result c.order.result
    c.post_command.ensures.command c.order-look.ensures.leads c.order.ensures.leads (sym c.is_refused.ensures ∙ c.if-is_refused.true)

pub returns-then-look : goal.returns-then-look
returns-then-look g c =
    post_done g.K.OrderDesk.leads c.args.worker c.args.part _ _ c.post_command.result c.order-look.result
    c.post_command.ensures.command c.order-look.ensures.leads (sym c.is_refused.ensures ∙ c.if-is_refused.false) c.if-look.true

pub returns : goal.returns
returns g c =
    post_last g.K.OrderDesk.leads c.args.worker c.args.part _ _ c.post_command.result c.order-look.result
    c.post_command.ensures.command c.order-look.ensures.leads (sym c.is_refused.ensures ∙ c.if-is_refused.false) c.if-look.false
