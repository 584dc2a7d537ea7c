-- What is so of stocks stays behind a worker's call.
use Rattle.std.proofs.Common.{◌≡◌, ℕ, true, false, List, [], ◌∷◌}
use Rattle.std.proofs.lemmas.Bool.{false≢true}
use Rattle.hall_model.specs.Calls.{call_of}
use Rattle.hall_model.specs.History.{IsStep}
use Rattle.hall_model.specs.Kept.{IsKept}
use Rattle.hall_model.specs.State.{State}
use Rattle.hall_model.specs.declared.command.Command.{Command}
use Rattle.hall_model.specs.declared.command.Command.TheVariants as command
use Rattle.hall_model.specs.declared.command.Reply.{Reply}
use Rattle.order_workers.specs.Orders.{is_of_worker}
use Rattle.stock_laws.specs.Stocked.{IsStocked, Lot, Respects, is_undone}
use Rattle.turn_desks.specs.Stocks.{AreLots, StockFact, lot_of}

abbrev pub KeptLaw : Type 0
KeptLaw = (s t : State) (line : ℕ) (c : Command) (r : Reply) (b : Lot) → IsKept s → IsStocked s b → (is_undone r ≡ false → Respects b (call_of c))
    → IsStep s t line c r → IsStocked t b

worker_respects : (b : Lot) (w : ℕ) (c : Command) → is_of_worker w c ≡ true → Respects b (call_of c)
worker_respects b w (command.Take1 x) h = tt
worker_respects b w (command.Take2 x) h = tt
worker_respects b w (command.Do1 x) h = tt
worker_respects b w (command.Do2 x) h = tt
worker_respects b w (command.DropOrder x) h = tt
worker_respects b w _ h = absurd (false≢true h)

pub worker_lots : KeptLaw → (s t : State) (line w : ℕ) (c : Command) (r : Reply) → IsKept s → is_of_worker w c ≡ true → IsStep s t line c r
    → (facts : List StockFact) (limits : List ℕ) (handed : List (List ℕ)) → AreLots s facts limits handed → AreLots t facts limits handed
worker_lots law s t line w c r kept own step [] limits handed lots = tt
worker_lots law s t line w c r kept own step (f ∷ fs) [] handed lots = tt
worker_lots law s t line w c r kept own step (f ∷ fs) (n ∷ ns) [] lots = tt
worker_lots law s t line w c r kept own step (f ∷ fs) (n ∷ ns) (hs ∷ hss) lots = (
  law s t line c r (lot_of f n hs) kept lots.0 (λ no. worker_respects (lot_of f n hs) w c own) step,
  worker_lots law s t line w c r kept own step fs ns hss lots.1,
)
