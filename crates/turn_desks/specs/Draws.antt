-- How a number is drawn from a stock, and what becomes of the seat at it.
use Rattle.std.specs.Prelude.{◌≡◌, ◌+◌, ◌-◌, ◌<◌, ◌^◌, ℕ, zero, suc, List, [], ◌∷◌, ◌++◌, map, set, slice_get}
use Rattle.std.specs.Prelude.{IfErr, Option, Some, None, Result, true}
use Rattle.hall_model.specs.declared.command.PastEntry.{PastEntry}
use Rattle.hall_model.specs.declared.command.Reply.{Reply}
use Rattle.hall_model.specs.declared.command.Reply.TheVariants as reply
use Rattle.number_ranges.specs.Intervals.{code_of, is_named}
use Rattle.number_stock.specs.Rule.{IsUnanswered, drew, saw}
use Rattle.number_stock.specs.Seats.{IsLook, IsSeatOf, hand, ticket_of}
use Rattle.number_stock.specs.declared.answer.Drawn.{Drawn}
use Rattle.number_stock.specs.declared.answer.Dry.{Dry}
use Rattle.number_stock.specs.declared.seat.StockSeat.{StockSeat}
use Rattle.script_actors.specs.Actors.{Given, drawing}
use Rattle.script_actors.specs.Drawings.{DeskCall, IsDrawing, desk_call}
use Rattle.turn_lock.specs.declared.view.View.{View}
use Rattle.turn_lock.specs.Rule.{own_entries}
use Rattle.turn_desks.specs.declared.stocks.IntervalStock.{IntervalStock}
use Rattle.turn_desks.specs.Stocks.{AreSeatsAt, StockFact, answered_of, drawn_of, draws_of}

-- the list at this place has more behind
abbrev pub add_at : ℕ → List ℕ → List (List ℕ) → List (List ℕ)
add_at place more [] = []
add_at zero more (ts ∷ tss) = (ts ++ more) ∷ tss
add_at (suc place) more (ts ∷ tss) = ts ∷ add_at place more tss

-- one draw at this place is used
abbrev pub used_at : ℕ → List ℕ → List ℕ
used_at place [] = []
used_at zero (n ∷ ns) = (n - 1) ∷ ns
used_at (suc place) (n ∷ ns) = n ∷ used_at place ns

-- the number that was drawn, if one was
abbrev pub one_number : Reply → List ℕ
one_number (reply.Number n code) = n ∷ []
one_number r = []

abbrev pub call_made : Option DeskCall → List DeskCall
call_made None = []
call_made (Some c) = c ∷ []

-- the stock of this name, at this place, before which there is none
pub record IsPlaceOf (facts : List StockFact) (object nr : List ℕ) (place : ℕ) : Type 0 where
  pub fact : StockFact
  pub there : slice_get facts place ≡ Some fact
  pub is : is_named object nr fact.interval ≡ true

-- A number of this stock was drawn for a line, or refused: a draw of the seat there is used, its ticket stays where it
-- was answered, and a reservation is the only call that was made.
pub record HasDrawn (facts : List StockFact) (place : ℕ) (session : List ℕ) (line : ℕ) (old new : List StockSeat)
    (v w : View PastEntry) (r : Reply) (f : StockFact) : Type 0 where
  pub seats : AreSeatsAt facts new
  pub draws : draws_of new ≡ used_at place (draws_of old)
  pub tickets : List ℕ
  pub answered : answered_of new ≡ add_at place tickets (answered_of old)
  pub drawn : drawn_of new ≡ add_at place tickets (drawn_of old)
  pub numbers : map (λ t. f.base + t) tickets ≡ one_number r
  pub given : Given
  pub reply : given.reply ≡ r
  pub is : IsDrawing session f.interval (drawing line f.interval given)
  pub calls : map desk_call (own_entries w) ≡ map desk_call (own_entries v) ++ call_made given.reservation

-- The same of a ticket whose draw is used already.
pub record HasReserved (facts : List StockFact) (place : ℕ) (session : List ℕ) (line : ℕ) (old new : List StockSeat)
    (v w : View PastEntry) (r : Reply) (f : StockFact) : Type 0 where
  pub seats : AreSeatsAt facts new
  pub draws : draws_of new ≡ draws_of old
  pub tickets : List ℕ
  pub answered : answered_of new ≡ add_at place tickets (answered_of old)
  pub drawn : drawn_of new ≡ add_at place tickets (drawn_of old)
  pub numbers : map (λ t. f.base + t) tickets ≡ one_number r
  pub given : Given
  pub reply : given.reply ≡ r
  pub is : IsDrawing session f.interval (drawing line f.interval given)
  pub calls : map desk_call (own_entries w) ≡ map desk_call (own_entries v) ++ call_made given.reservation

-- ---- at the seat of a place

-- A ticket was drawn by the seat at this place, and answered or found dry.
pub record HasTried (own : IntervalStock) (place : ℕ) (seats now : List StockSeat) (r : Result Drawn Dry)
    (seat : StockSeat) : Type 0 where
  pub seat_now : StockSeat
  pub seats_are : now ≡ set seats place seat_now
  pub own_now : IsSeatOf own.stock seat_now
  pub ticket : ℕ
  pub look : IsLook own.base ticket (drew ticket (hand seat)) (hand seat_now) r
  pub dry : IfErr r (λ e. IsUnanswered (ticket_of e) (hand seat_now))
  pub fits : IfErr r (λ e. own.base + ticket_of e < 2 ^ 64)

-- A ticket of the seat at this place was answered.
pub record HasAnswered (own : IntervalStock) (place ticket : ℕ) (seats now : List StockSeat) (r : Reply)
    (seat : StockSeat) : Type 0 where
  pub seat_now : StockSeat
  pub seats_are : now ≡ set seats place seat_now
  pub own_now : IsSeatOf own.stock seat_now
  pub limit : ℕ
  pub knows : hand seat_now ≡ saw ticket limit (hand seat)
  pub below : ticket < limit
  pub reply : r ≡ reply.Number (own.base + ticket) (code_of own.interval (own.base + ticket))
