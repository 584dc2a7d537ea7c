-- What a worker may ask.
use Rattle.std.proofs.Common.{◌≡◌, ℕ, true}
use Rattle.std.proofs.lemmas.Bool.{false≢true}
use Rattle.hall_model.specs.Calls.{call_of}
use Rattle.hall_model.specs.declared.command.Command.{Command}
use Rattle.hall_model.specs.declared.command.Command.TheVariants as command
use Rattle.order_workers.specs.Orders.{is_of_worker}
use Rattle.turn_desks.specs.Asking.{HasNoStock}

-- a worker commits nothing
pub worker_no_stock : (w : ℕ) (c : Command) → is_of_worker w c ≡ true → HasNoStock (call_of c)
worker_no_stock w (command.Take1 x) h = tt
worker_no_stock w (command.Take2 x) h = tt
worker_no_stock w (command.Do1 x) h = tt
worker_no_stock w (command.Do2 x) h = tt
worker_no_stock w (command.DropOrder x) h = tt
worker_no_stock w _ h = absurd (false≢true h)
