-- The stocks that a run's sessions draw from, the seats at which they draw, and what may be asked of the server with
-- the numbers drawn.
use Rattle.std.specs.Prelude.{◌≡◌, ◌+◌, ◌<◌, ◌≤◌, ◌&&◌, ℕ, Bool, true, false, not, List, [], ◌∷◌, map}
use Rattle.std.specs.Prelude.{Option, Some, None, if◌then◌else◌, slice_get}
use Rattle.std.specs.List.{list_all, list_any}
use Rattle.atomic_table.specs.Seated.{TableId}
use Rattle.enq_base.specs.declared.unit.Num.{Num}
use Rattle.hall_model.specs.State.{State}
use Rattle.hall_model.specs.declared.command.Command.{Command}
use Rattle.hall_model.specs.declared.command.Command.TheVariants as command
use Rattle.hall_model.specs.declared.command.Reply.{Reply}
use Rattle.hall_model.specs.declared.command.Reply.TheVariants as reply
use Rattle.hall_model.specs.declared.command.Who.{Who}
use Rattle.hall_model.specs.declared.command.Who.TheVariants as caller
use Rattle.ledger_steps.specs.Drawn.{drawn_from}
use Rattle.number_ranges.specs.Intervals.{is_buffered, is_named}
use Rattle.number_ranges.specs.declared.interval.Interval.{Interval}
use Rattle.number_stock.specs.Seats.{hand}
use Rattle.number_stock.specs.declared.seat.StockSeat.{StockSeat}
use Rattle.script_actors.specs.Drawings.{interval_at}
use Rattle.stock_laws.specs.Stocked.{IsStocked, Lot}
use Rattle.turn_desks.specs.declared.stocks.IntervalStock.{IntervalStock}

-- which stock it is: its interval, the number of its first ticket, and its table
pub record StockFact : Type 0 where
  pub interval : Interval
  pub base : ℕ
  pub table : TableId

abbrev pub fact_of : IntervalStock → StockFact
fact_of s = record { interval = s.interval; base = s.base; table = s.stock.table.shared.table_id }

-- they are these, in this order
abbrev pub AreStocks : List StockFact → List IntervalStock → Type 0
AreStocks facts stocks = map fact_of stocks ≡ facts

abbrev pub is_of_stock : List StockFact → List ℕ → List ℕ → Bool
is_of_stock facts object nr = list_any (λ (f : StockFact). is_named object nr f.interval) facts

-- no two are of one interval
abbrev pub are_apart : List StockFact → Bool
are_apart [] = true
are_apart (f ∷ fs) = not (is_of_stock fs f.interval.object f.interval.nr) && are_apart fs

-- they are of intervals of the landscape that have a buffer
abbrev pub AreOfLand : List Interval → List StockFact → Type 0
AreOfLand intervals facts =
    (map (λ (f : StockFact). interval_at intervals f.interval.object f.interval.nr) facts
    ≡ map (λ (f : StockFact). Some f.interval) facts)
    × (list_all (λ (f : StockFact). is_buffered f.interval) facts ≡ true) × (are_apart facts ≡ true)

-- ---- seats, one at each stock

abbrev pub AreSeatsBy : Bool → List StockFact → List StockSeat → Type 0
AreSeatsBy right facts seats =
    map {B = TableId × Bool} (λ (s : StockSeat). (s.seat.table_id, (hand s).raises)) seats
    ≡ map {B = TableId × Bool} (λ (f : StockFact). (f.table, right)) facts

-- with the right to raise the limit
abbrev pub AreRightsAt : List StockFact → List StockSeat → Type 0
AreRightsAt facts rights = AreSeatsBy true facts rights

-- without it
abbrev pub AreSeatsAt : List StockFact → List StockSeat → Type 0
AreSeatsAt facts seats = AreSeatsBy false facts seats

abbrev pub draws_of : List StockSeat → List ℕ
draws_of seats = map (λ (s : StockSeat). (hand s).draws) seats

abbrev pub tickets_of : List StockSeat → List (List ℕ)
tickets_of seats = map (λ (s : StockSeat). (hand s).tickets) seats

-- the tickets that were answered and neither handed over nor given up
abbrev pub answered_of : List StockSeat → List (List ℕ)
answered_of seats = map (λ (s : StockSeat). (hand s).answered) seats

-- all that were answered
abbrev pub drawn_of : List StockSeat → List (List ℕ)
drawn_of seats = map (λ (s : StockSeat). (hand s).drawn) seats

abbrev pub limits_of : List StockSeat → List ℕ
limits_of seats = map (λ (s : StockSeat). (hand s).limit) seats

-- no ticket was drawn with them
abbrev pub AreFresh : List StockSeat → Type 0
AreFresh seats = (answered_of seats ≡ map (λ s. []) seats) × (drawn_of seats ≡ map (λ s. []) seats)

-- how many numbers of the interval may be drawn
abbrev pub left_in : List StockFact → List ℕ → Interval → ℕ
left_in [] draws i = 0
left_in (f ∷ fs) [] i = 0
left_in (f ∷ fs) (n ∷ ns) i = if is_named i.object i.nr f.interval then n else left_in fs ns i

abbrev pub is_session : Who → Bool
is_session (caller.Session s) = true
is_session w = false

-- ---- numbers of tickets

-- the numbers of these tickets, stock by stock
abbrev pub numbered : List StockFact → List (List ℕ) → List (List ℕ)
numbered [] tickets = []
numbered (f ∷ fs) [] = []
numbered (f ∷ fs) (ts ∷ tss) = map (λ t. f.base + t) ts ∷ numbered fs tss

-- those of each stock's interval among these, in order
abbrev pub numbers_by : List StockFact → List Num → List (List ℕ)
numbers_by facts nums = map (λ (f : StockFact). drawn_from f.interval nums) facts

abbrev pub are_of_stocks : List StockFact → List Num → Bool
are_of_stocks facts nums = list_all (λ (num : Num). is_of_stock facts num.object num.nr) nums

-- ---- what may be asked

-- they are the numbers of these tickets, stock by stock in their order, and there are no others
abbrev pub IsStockOf : List StockFact → List (List ℕ) → List Num → Type 0
IsStockOf facts tickets nums = (are_of_stocks facts nums ≡ true) × (numbers_by facts nums ≡ numbered facts tickets)

-- A COMMIT hands over the numbers of the session's tickets, and no number of a stock is drawn by the server.
abbrev pub MayServe : List StockFact → List StockSeat → Command → Type 0
MayServe facts seats (command.Commit session parts stock) = IsStockOf facts (answered_of seats) stock
MayServe facts seats (command.Number session object nr) = is_of_stock facts object nr ≡ false
MayServe facts seats c = Unit {0}

-- a number of the stock at this place may be reserved
pub record MayReserve (facts : List StockFact) (place upto : ℕ) : Type 0 where
  pub fact : StockFact
  pub there : slice_get facts place ≡ Some fact
  pub behind : fact.base ≤ upto

abbrev pub reserving : List ℕ → ℕ → StockFact → Command
reserving session upto f = command.Reserve session f.interval.object f.interval.nr upto

-- ---- what becomes of seats

-- Seats behind a call: they have their draws, and remember what they drew. Their tickets are gone where it settles
-- these.
pub record AreLeft (settled : Bool) (old new : List StockSeat) : Type 0 where
  pub draws : draws_of new ≡ draws_of old
  pub drawn : drawn_of new ≡ drawn_of old
  pub answered : answered_of new ≡ map (λ (ts : List ℕ). if settled then [] else ts) (answered_of old)

-- they have all that they had
pub record AreSame (old new : List StockSeat) : Type 0 where
  pub draws : draws_of new ≡ draws_of old
  pub tickets : tickets_of new ≡ tickets_of old
  pub answered : answered_of new ≡ answered_of old
  pub drawn : drawn_of new ≡ drawn_of old

abbrev pub is_level : Reply → Bool
is_level (reply.Level level) = true
is_level r = false

abbrev pub level_told : Reply → Option ℕ
level_told (reply.Level level) = Some level
level_told r = None

-- the number that was drawn, if one was
abbrev pub number_told : Reply → Option ℕ
number_told (reply.Number n code) = Some n
number_told r = None

-- where it is answered with a level, the seat at this place knows a limit above the ticket of the number
abbrev pub HasHeard : List StockSeat → ℕ → ℕ → Reply → StockFact → Type 0
HasHeard seats place upto r f =
    is_level r ≡ true → (s : StockSeat) → slice_get seats place ≡ Some s → upto < f.base + (hand s).limit

-- ---- what the rights say of the server

abbrev pub lot_of : StockFact → ℕ → List ℕ → Lot
lot_of f limit handed = record { interval = f.interval; base = f.base; limit = limit; handed = handed }

-- The tickets below these limits may be committed, but for those that were handed over.
abbrev pub AreLots : State → List StockFact → List ℕ → List (List ℕ) → Type 0
AreLots s [] limits handed = Unit {0}
AreLots s (f ∷ fs) [] handed = Unit {0}
AreLots s (f ∷ fs) (n ∷ ns) [] = Unit {0}
AreLots s (f ∷ fs) (n ∷ ns) (ts ∷ tss) = IsStocked s (lot_of f n ts) × AreLots s fs ns tss

-- the limits and the tickets of these rights are such
abbrev pub AreLotsBy : State → List StockFact → List StockSeat → Type 0
AreLotsBy s facts rights = AreLots s facts (limits_of rights) (answered_of rights)
