-- Seats that were joined and parted, and a seat that was told of a limit.
use Rattle.std.proofs.Common.{◌≡◌, ℕ, ◌<◌, refl, sym, ap, subst, ◌∙◌, arith}
use Rattle.std.specs.Prelude.{Result, Ok, Err, IsOk}
use Rattle.number_stock.specs.declared.answer.Drawn.{Drawn}
use Rattle.number_stock.specs.declared.answer.Dry.{Dry}
use Rattle.number_stock.specs.declared.hand.Hand.{Hand}
use Rattle.number_stock.specs.declared.seat.StockSeat.{StockSeat}
use Rattle.number_stock.specs.Rule.{IsJoined, parted}
use Rattle.number_stock.specs.Seats.{hand, IsLook}
use Rattle.turn_tests.specs.Drawing.{HasBack}

-- the same, by hands that were told
pub joined_as : (v w u first second : Hand) → first ≡ v → second ≡ w → IsJoined v w u → IsJoined first second u
joined_as v w u first second f s j = subst (λ (x : Hand × Hand). IsJoined x.0 x.1 u) (λ i. (sym f i, sym s i)) j

pub has_back : (before after : StockSeat) (first u : Hand) → hand after ≡ parted first u → first ≡ hand before → HasBack before after
has_back before after first u is told = record {
  draws = ap (λ (x : Hand). x.draws) is ∙ ap (λ (x : Hand). x.draws) told;
  tickets = ap (λ (x : Hand). x.tickets) is ∙ ap (λ (x : Hand). x.tickets) told;
  answered = ap (λ (x : Hand). x.answered) is ∙ ap (λ (x : Hand). x.answered) told;
}

pub back_from : (before learned after : StockSeat) → hand learned ≡ hand before → HasBack learned after → HasBack before after
back_from before learned after same h = record {
  draws = h.draws ∙ ap (λ (x : Hand). x.draws) same;
  tickets = h.tickets ∙ ap (λ (x : Hand). x.tickets) same;
  answered = h.answered ∙ ap (λ (x : Hand). x.answered) same;
}

-- a ticket below the limit that the seat knew isn't dry
pub never_dry : (base ticket : ℕ) (before after : Hand) (reply : Result Drawn Dry) → IsLook base ticket before after reply → ticket < before.limit → IsOk reply
never_dry base ticket before after (Ok drawn) look lt = refl
never_dry base ticket before after (Err dry) look lt = let risen = look.risen in let past = look.replies.1 in absurd (omega (arith, risen, past, lt))
