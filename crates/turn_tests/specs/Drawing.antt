-- What a thread needs in order to draw, and what it then has.
use Rattle.std.specs.Prelude.{◌≡◌, ◌+◌, ◌≤◌, ◌++◌, ℕ, List, map}
use Rattle.number_stock.specs.declared.seat.StockSeat.{StockSeat}
use Rattle.number_stock.specs.declared.stock.Stock.{Stock}
use Rattle.number_stock.specs.Seats.{hand, base_of, IsSeatOf}
use Rattle.gauges.specs.declared.board.GaugePass.{GaugePass}
use Rattle.gauges.specs.declared.board.Gauges.{Gauges}
use Rattle.gauges.specs.Boards.{IsReaderOf}

-- it may draw so often, and look
abbrev pub CanDraw : Stock → Gauges → ℕ → StockSeat × GaugePass → Type 0
CanDraw stock gauges count tokens =
    IsSeatOf stock tokens.0 × IsReaderOf gauges tokens.1 × (count ≤ (hand tokens.0).draws)

-- the numbers that the seat was answered
abbrev pub numbers_of : Stock → StockSeat → List ℕ
numbers_of stock seat = map (λ t. base_of stock + t) (hand seat).answered

-- the seat was answered these numbers more
abbrev pub Drew : Stock → StockSeat → StockSeat → List ℕ → Type 0
Drew stock before after numbers = IsSeatOf stock after × (numbers_of stock after ≡ numbers_of stock before ++ numbers)

-- the seat has the draws, the tickets and the answers that it had before
pub record HasBack (before after : StockSeat) : Type 0 where
  pub draws : (hand after).draws ≡ (hand before).draws
  pub tickets : (hand after).tickets ≡ (hand before).tickets
  pub answered : (hand after).answered ≡ (hand before).answered
