use Rattle.std.proofs.Common.{sym, ◌∙◌}
use Rattle.hall_model.specs.Orders.{order_of}
use Rattle.ledger_steps.specs.declared.part.Part.TheVariants.{V1}
use Rattle.model_laws.proofs.PartOrders.{held_for}
use Rattle.hall_calls.proofs.drafting.draft_for.Goals as goal

pub draft-requires : goal.draft-requires
draft-requires g c =
    (held_for V1 c.args.books.now.ledger (order_of c.args.orders.now c.args.worker) c.in-Some.unit (sym c.order_for.ensures ∙ c.in-Some.is)).1

pub returns : goal.returns
returns g c = (c.in-Some.unit, sym c.order_for.ensures ∙ c.in-Some.is, c.in_ok-draft.ensures)
