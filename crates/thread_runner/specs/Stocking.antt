-- The stocks of a run, before its first call and behind its last.
use Rattle.std.specs.Prelude.{◌≡◌, ◌<◌, ◌≤◌, ◌+◌, ◌-◌, ℕ, zero, suc, All, Bool, true, false, Contains, List, [], ◌∷◌}
use Rattle.std.specs.Prelude.{◌++◌, count_by, map}
use Rattle.std.specs.Prelude.{Some, if◌then◌else◌, slice_get}
use Rattle.std.specs.List.{AllByRecursion, sum_by}
use Rattle.std.specs.List.Sorted.{IsNonDecreasingBy, IsPermutation}
use Rattle.hall_model.specs.State.{State, opened}
use Rattle.hall_model.specs.declared.command.Who.{Who}
use Rattle.ledger_steps.specs.Levels.{AreIntervals, FitRows, level_in}
use Rattle.ledger_steps.specs.Starts.{IsRaised}
use Rattle.ledger_steps.specs.declared.range.NumberRange.{NumberRange}
use Rattle.number_ranges.specs.Draws.{RangeState}
use Rattle.number_ranges.specs.Intervals.{is_buffered, is_named, with_level}
use Rattle.number_ranges.specs.declared.interval.Interval.{Interval}
use Rattle.number_stock.specs.Rule.{AreOnce}
use Rattle.number_stock.specs.Seats.{hand}
use Rattle.number_stock.specs.declared.seat.StockSeat.{StockSeat}
use Rattle.script_actors.specs.Actors.{HasEnough, Land, is_number_of, numbers_asked}
use Rattle.script_actors.specs.declared.drawing.Drawing.{Drawing}
use Rattle.script_actors.specs.declared.line.NumberedLine.{NumberedLine}
use Rattle.script_lang.specs.declared.script_line.ScriptLine.{ScriptLine}
use Rattle.script_lang.specs.declared.script_line.ScriptLine.TheVariants as line
use Rattle.seat_sums.specs.Sums.{IsDistinct, times}
use Rattle.store_reading.specs.Good.{IsSound}
use Rattle.actor_threads.specs.declared.actor.Deed.{Deed}
use Rattle.turn_desks.specs.Stocks.{AreFresh, AreLotsBy, AreOfLand, AreRightsAt, AreSeatsAt, StockFact, draws_of}
use Rattle.turn_desks.specs.Stocks.{is_of_stock, is_session, left_in}
use Rattle.thread_runner.specs.Numbers.{AreWithin, drawn_by, numbers_of}
use Rattle.thread_runner.specs.Hiring.{left_of}

-- a state as an opening gives it
pub record IsOpened (s : State) : Type 0 where
  pub max_locks : ℕ
  pub mark_limit : ℕ
  pub intervals : List Interval
  pub told : Bool
  pub linked : Bool
  pub is : s ≡ opened max_locks mark_limit intervals told linked s.stored
  pub known : AreIntervals intervals
  pub fits : FitRows intervals s.stored.levels
  pub sound : IsRaised IsSound true s.stored

-- an interval that is shown with its present level, as the landscape has it, with the number behind the level
abbrev pub opened_by : RangeState → NumberRange
opened_by r = record { interval = with_level (r.interval.from - 1) r.interval; next = r.interval.level + 1 }

-- ---- before the first call

-- stocks of intervals of the landscape, each with the right to raise its limit, of which nothing was drawn
pub record AreBegun (s : State) (intervals : List Interval) (facts : List StockFact) (seats : List StockSeat)
    : Type 0 where
  pub land : AreOfLand intervals facts
  pub rights : AreRightsAt facts seats
  pub lots : AreLotsBy s facts seats
  -- the first ticket's number is the one behind the level
  pub bases :
      map (λ (f : StockFact). f.base) facts ≡ map (λ (f : StockFact). level_in s.stored.levels f.interval + 1) facts

-- these lines ask for numbers of no other interval with a buffer
abbrev pub Cover : List Interval → List StockFact → List NumberedLine → Type 0
Cover intervals facts lines =
    (i : Interval) → Contains intervals i → is_buffered i ≡ true → is_of_stock facts i.object i.nr ≡ false
    → count_by (λ (l : NumberedLine). is_number_of i l.line) lines ≡ 0

-- how many numbers of each stock's interval an actor's lines ask for
abbrev pub asked_of : List StockFact → Who → List NumberedLine → List ℕ
asked_of facts w lines = map (λ (f : StockFact). numbers_asked f.interval w lines) facts

-- one more of each stock of this name
abbrev pub bumped : List StockFact → List ℕ → List ℕ → List ℕ → List ℕ
bumped [] object nr counts = []
bumped (f ∷ fs) object nr [] = []
bumped (f ∷ fs) object nr (n ∷ ns) = (if is_named object nr f.interval then n + 1 else n) ∷ bumped fs object nr ns

-- one more of each stock that the line asks for a number of
abbrev pub bumped_for : List StockFact → ScriptLine → List ℕ → List ℕ
bumped_for facts (line.Num s object nr variable) counts = bumped facts object nr counts
bumped_for facts l counts = counts

-- a right of which draws may have been cut off
pub record IsCutOf (right now : StockSeat) : Type 0 where
  pub raises : (hand now).raises ≡ (hand right).raises
  pub limit : (hand now).limit ≡ (hand right).limit
  pub answered : (hand now).answered ≡ (hand right).answered

-- a seat with so many draws, at which none was made
pub record IsFreshSeat (n : ℕ) (s : StockSeat) : Type 0 where
  pub draws : (hand s).draws ≡ n
  pub raises : (hand s).raises ≡ false
  pub answered : (hand s).answered ≡ []
  pub drawn : (hand s).drawn ≡ []

-- seats of a caller, at each stock, with as many draws as its lines ask for
pub record AreSeatsFor (intervals : List Interval) (facts : List StockFact) (lines : List NumberedLine) (w : Who)
    (seats : List StockSeat) : Type 0 where
  pub own : AreSeatsAt facts seats
  pub fresh : AreFresh seats
  pub enough : HasEnough intervals w lines (left_in facts (draws_of seats))
  pub drawer : is_session w ≡ false → (i : Interval) → left_in facts (draws_of seats) i ≡ 0

-- ---- behind the last call

-- how often a ticket of the stock at this place is among those that these seats remember
abbrev pub told_at : ℕ → ℕ → List StockSeat → ℕ
told_at place ticket [] = 0
told_at zero ticket (s ∷ ss) = times ticket (hand s).drawn
told_at (suc place) ticket (s ∷ ss) = told_at place ticket ss

-- a right that has taken a seat in
pub record IsAbsorbed (right seat now : StockSeat) : Type 0 where
  pub table : now.seat.table_id ≡ right.seat.table_id
  pub raises : (hand now).raises ≡ true
  pub limit : (hand now).limit ≡ (hand right).limit
  pub drawn : (hand now).drawn ≡ (hand right).drawn ++ (hand seat).drawn
  pub once : AreOnce (hand now).limit (hand now).drawn

-- at each place
abbrev pub AreAbsorbed : List StockSeat → List StockSeat → List StockSeat → Type 0
AreAbsorbed rights seats now =
    (place : ℕ) (r x n : StockSeat) → slice_get rights place ≡ Some r → slice_get seats place ≡ Some x
    → slice_get now place ≡ Some n → IsAbsorbed r x n

-- No ticket is remembered twice by these seats, all of one stock's below its limit.
abbrev pub AreOnceAt : List StockSeat → List (List StockSeat) → Type 0
AreOnceAt rights seats =
    (place ticket : ℕ) (r : StockSeat) → slice_get rights place ≡ Some r
    → (sum_by (told_at place ticket) seats < 2) × (0 < sum_by (told_at place ticket) seats → ticket < (hand r).limit)

-- of a stock: no number is there twice, each is one of a ticket, and at most the level
pub record IsWithinStock (s : State) (drawn : List Drawing) (f : StockFact) : Type 0 where
  pub once : IsDistinct (numbers_of f.interval drawn)
  pub low : All (λ n. f.base ≤ n) (numbers_of f.interval drawn)
  pub high : All (λ n. n ≤ level_in s.stored.levels f.interval) (numbers_of f.interval drawn)

-- so it is of each stock, and of no other interval is there a number
pub record AreWithinStocks (s : State) (facts : List StockFact) (drawn : List Drawing) : Type 0 where
  pub each : AllByRecursion (IsWithinStock s drawn) facts
  pub known : (i : Interval) → is_of_stock facts i.object i.nr ≡ false → numbers_of i drawn ≡ []

-- the numbers of the sessions' deeds, one deed behind the other
abbrev pub drawn_in_deeds : List Deed → List Drawing
drawn_in_deeds [] = []
drawn_in_deeds (d ∷ ds) = drawn_by d.who (left_of d) ++ drawn_in_deeds ds

-- what the deeds have of numbers, in the order of the lines
pub record DeedsDraw (land : Land) (first s : State) (deeds : List Deed) (drawn : List Drawing) : Type 0 where
  pub all : IsPermutation (drawn_in_deeds deeds) drawn
  pub order : IsNonDecreasingBy (λ (d : Drawing). d.line) drawn
  pub each : (i : Interval) → Contains land.intervals i → is_buffered i ≡ true → AreWithin first s drawn i
