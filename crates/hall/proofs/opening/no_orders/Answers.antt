use Rattle.std.proofs.Common.{arith}
use Rattle.std.proofs.lemmas.Grind.{common_steps}
use Rattle.hall.proofs.opening.no_orders.Goals as goal

pub returns : goal.returns
returns c = c.in_ok-from_elem.ensures.items_if_clones_equal (λ y h. grind (arith, common_steps))
