-- What clauses say of a stock, its seats and their draws.
use Rattle.std.specs.Prelude.{◌≡◌, ◌+◌, ◌<◌, ◌≤◌, ℕ, Result, MatchResult}
use Rattle.number_stock.specs.declared.answer.Drawn.{Drawn}
use Rattle.number_stock.specs.declared.answer.Dry.{Dry}
use Rattle.number_stock.specs.declared.hand.Hand.{Hand}
use Rattle.number_stock.specs.declared.seat.StockSeat.{StockSeat}
use Rattle.number_stock.specs.declared.stock.Stock.{Stock}
use Rattle.number_stock.specs.Rule.{saw, IsKnown}

-- what the seat knows
abbrev pub hand : StockSeat → Hand
hand s = s.seat.me.0

-- the number of ticket 0
abbrev pub base_of : Stock → ℕ
base_of s = s.base

abbrev pub IsSeatOf : Stock → StockSeat → Type 0
IsSeatOf stock s = s.seat.table_id ≡ stock.table.shared.table_id

abbrev pub number_of : Drawn → ℕ
number_of d = d.number

abbrev pub ticket_of : Dry → ℕ
ticket_of d = d.ticket

-- One look at the limit for a ticket of the seat. A seat with the right to raise finds the limit that it knows. Below
-- the limit the reply is the ticket's number, and else that the stock is dry
pub record IsLook (base ticket : ℕ) (before after : Hand) (reply : Result Drawn Dry) : Type 0 where
  pub limit : ℕ
  pub knows : after ≡ saw ticket limit before
  pub risen : before.limit ≤ limit
  pub known : IsKnown limit before
  pub replies : MatchResult reply (λ d. (number_of d ≡ base + ticket) × (ticket < limit))
      (λ e. (ticket_of e ≡ ticket) × (limit ≤ ticket))
