use Rattle.order_laws.proofs.StandingOrders.{orders_stand}
use Rattle.order_laws.proofs.WorkerAnswers.{busy_take, post_answered, post_full, take_answered}
use Rattle.order_laws.proofs.laws.orders_are_done.Goals as goal

pub returns : goal.returns
returns c = record { takes = take_answered; busy = busy_take; stand = orders_stand; posts = post_answered; full = post_full }
