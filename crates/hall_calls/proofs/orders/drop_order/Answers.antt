use Rattle.std.proofs.Common.{sym, refl, ap, ◌∙◌}
use Rattle.hall_calls.proofs.verdicts.UnitCalls.{drops, drops_none}
use Rattle.hall_model.specs.Orders.{order_of}
use Rattle.hall_calls.proofs.orders.drop_order.Goals as goal

pub returns-in_default : goal.returns-in_default
returns-in_default c = record {
  act = λ s e room.
      drops_none s c.args.orders.now.items c.args.worker e room
      (ap (λ xs. order_of xs c.args.worker) (sym c.as_slice.ensures.value) ∙ sym c.order_of.ensures ∙ c.in_default.is);
}

pub returns : goal.returns
returns c = record {
  act = λ s e room.
      drops s c.args.orders.now.items _ c.args.worker c.in-Some.unit e room
      (ap (λ xs. order_of xs c.args.worker) (sym c.as_slice.ensures.value) ∙ sym c.order_of.ensures ∙ c.in-Some.is) refl;
}
