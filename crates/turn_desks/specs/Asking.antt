-- What the server is asked in a turn, and what is known behind it.
use Rattle.std.specs.Prelude.{◌≡◌, ◌≤◌, ◌&&◌, ℕ, Bool, true, false, List, [], Some, length, map}
use Rattle.std.specs.Prelude.{slice_get}
use Rattle.atomic_table.specs.Seated.{TableId}
use Rattle.hall_model.specs.Calls.{Call, Commits, OfSession, SessionCall, call_of}
use Rattle.hall_model.specs.declared.command.Command.{Command}
use Rattle.hall_model.specs.declared.command.PastEntry.{PastEntry}
use Rattle.hall_model.specs.declared.command.Reply.{Reply}
use Rattle.order_laws.specs.Behind.{is_post, up_after}
use Rattle.order_workers.specs.Orders.{is_idle}
use Rattle.script_actors.specs.Actors.{is_full}
use Rattle.script_actors.specs.Drawings.{desk_call, with_call}
use Rattle.number_stock.specs.declared.seat.StockSeat.{StockSeat}
use Rattle.stock_laws.specs.Stocked.{answers_reservation}
use Rattle.turn_desks.specs.Stocks.{AreSame, AreSeatsAt, HasHeard, StockFact, reserving}
use Rattle.turn_lock.specs.declared.lock.TurnLock.{TurnLock}
use Rattle.turn_lock.specs.declared.view.View.{View}
use Rattle.turn_lock.specs.Passes.{IsTurn}
use Rattle.turn_lock.specs.Rule.{own_entries}

abbrev pub HasNoStockIn : SessionCall → Type 0
HasNoStockIn (Commits parts stock) = stock ≡ []
HasNoStockIn call = Unit {0}

-- a commit has no numbers of a stock
abbrev pub HasNoStock : Call → Type 0
HasNoStock (OfSession session call) = HasNoStockIn call
HasNoStock call = Unit {0}

-- which lock it is
abbrev pub table_of : {S E : Type 0} → TurnLock S E → TableId
table_of lock = lock.table.shared.table_id

module _ {S : Type 0} (past : S → List PastEntry) where
  -- The server was asked this in this line and answered so, and it is up behind the call or isn't. A history that was
  -- found full is as long as it may be, and a post isn't answered that there is no unit to take.
  abbrev pub Asks : ℕ → Command → Reply → Bool → S → S → Type 0
  Asks line c r up s t = (map desk_call (past t) ≡ with_call (map desk_call (past s)) line c r)
      × (up ≡ up_after (past t))
      × (is_full r ≡ true → 262144 ≤ length (past t)) × ((is_post (call_of c) && is_idle r) ≡ false)

  -- A pass asked it in a turn of its own: its own calls have this one more, unless none is kept that is answered so.
  -- What it has seen then is the history behind the call.
  pub record IsAsked (line : ℕ) (c : Command) (r : Reply) (up : Bool) (v w : View PastEntry) : Type 0 where
    pub turn : IsTurn past (Asks line c r up) v w
    pub own : map desk_call (own_entries w) ≡ with_call (map desk_call (own_entries v)) line c r
    pub seen : up ≡ up_after w.seen
    pub full : is_full r ≡ true → 262144 ≤ length w.seen
    pub posts : (is_post (call_of c) && is_idle r) ≡ false

  -- A reservation was made in a turn, for the seats of its caller.
  pub record IsReserved (facts : List StockFact) (session : List ℕ) (place upto : ℕ) (old : List StockSeat) (r : Reply)
      (up : Bool) (s : S) (new : List StockSeat) (t : S) : Type 0 where
    pub asks : (f : StockFact) → slice_get facts place ≡ Some f → Asks 0 (reserving session upto f) r up s t
    pub answers : answers_reservation r ≡ true
    pub seats : AreSeatsAt facts new
    pub same : AreSame old new
    pub heard : (f : StockFact) → slice_get facts place ≡ Some f → HasHeard new place upto r f
