use Rattle.order_laws.proofs.OrdersTold.{orders_are_told}
use Rattle.order_laws.proofs.UpTold.{steady_up, up_is_told}
use Rattle.order_laws.proofs.laws.orders_are_told.Goals as goal

pub returns : goal.returns
returns c = record { up = up_is_told; orders = orders_are_told; steady = steady_up }
