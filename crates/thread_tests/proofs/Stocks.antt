-- A call with no numbers of a stock may always be made.
use Rattle.std.proofs.Common.{[], sym, subst, arith}
use Rattle.hall_model.specs.Calls.{Call, Commits, LogsOn, OfAdmin, OfSession, OfWorker, SessionCall}
use Rattle.hall_model.specs.State.{State}
use Rattle.hall_model.specs.Stocks.{IsStockIn, MayCall, SessionMayCall}
use Rattle.turn_desks.specs.Asking.{HasNoStock, HasNoStockIn}

no_stock : (s : State) → IsStockIn s []
no_stock s = record { reserved = tt; once = λ i among n. omega arith; fresh = λ i among n some. absurd (omega (arith, some)) }

session_may : (s : State) (call : SessionCall) → HasNoStockIn call → SessionMayCall s call
session_may s (Commits parts stock) none = subst (IsStockIn s) (sym none) (no_stock s)
session_may s _ none = tt

pub no_stock_may : (s : State) (call : Call) → HasNoStock call → MayCall s call
no_stock_may s (LogsOn session user) none = tt
no_stock_may s (OfSession session call) none = session_may s call none
no_stock_may s (OfWorker worker call) none = tt
no_stock_may s (OfAdmin call) none = tt
