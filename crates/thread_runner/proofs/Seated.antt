-- Seats at stocks, one more.
use Rattle.std.proofs.Common.{◌≡◌, ℕ, ◌+◌, ◌<◌, false, List, [], ◌∷◌, ◌++◌, length, map, slice_set, take, refl, sym, ap, ◌∙◌, subst, arith}
use Rattle.std.proofs.lemmas.List.{map-append, take_more}
use Rattle.std.proofs.lemmas.Option.{slice_get_read}
use Rattle.std.specs.Prelude.{Some, slice_get, slice_index_or}
use Rattle.number_stock.specs.Seats.{hand}
use Rattle.number_stock.specs.declared.seat.StockSeat.{StockSeat}
use Rattle.turn_desks.specs.Stocks.{AreFresh, AreRightsAt, AreSeatsAt, StockFact, answered_of, draws_of, fact_of, limits_of}
use Rattle.turn_desks.specs.declared.stocks.IntervalStock.{IntervalStock}
use Rattle.turn_desks.proofs.lemmas.Seating.{at_both, map_get, map_set_same}
use Rattle.thread_runner.specs.Stocking.{IsCutOf}
use Rattle.thread_runner.proofs.Begun.{mapped_long}
use Rattle.thread_runner.proofs.Counted.{facts_long}

pub seats_more : (facts : List StockFact) (k : ℕ) (f : StockFact) (seats : List StockSeat) (s : StockSeat) → k < length facts → slice_index_or facts k f ≡ f
    → AreSeatsAt (take k facts) seats → s.seat.table_id ≡ f.table → (hand s).raises ≡ false → AreSeatsAt (take (k + 1) facts) (seats ++ s ∷ [])
seats_more facts k f seats s less is own table raises =
    let front : take (k + 1) facts ≡ take k facts ++ f ∷ [] = take_more facts k f less ∙ ap (λ x. take k facts ++ x ∷ []) is in
    subst (λ fs. AreSeatsAt fs (seats ++ s ∷ [])) (sym front)
    (map-append (λ (x : StockSeat). (x.seat.table_id, (hand x).raises)) seats (s ∷ []) ∙ (λ i. own i ++ (table i, raises i) ∷ [])
    ∙ sym (map-append (λ (x : StockFact). (x.table, false)) (take k facts) (f ∷ [])))

pub fresh_more : (seats : List StockSeat) (s : StockSeat) → (hand s).answered ≡ [] → (hand s).drawn ≡ [] → AreFresh seats → AreFresh (seats ++ s ∷ [])
fresh_more seats s answered drawn fresh = (
  map-append (λ (x : StockSeat). (hand x).answered) seats (s ∷ []) ∙ (λ i. fresh.0 i ++ answered i ∷ [])
      ∙ sym (map-append {B = List ℕ} (λ x. []) seats (s ∷ [])),
  map-append (λ (x : StockSeat). (hand x).drawn) seats (s ∷ []) ∙ (λ i. fresh.1 i ++ drawn i ∷ [])
      ∙ sym (map-append {B = List ℕ} (λ x. []) seats (s ∷ [])),
)

pub draws_more : (counts : List ℕ) (k d : ℕ) (seats : List StockSeat) (s : StockSeat) → k < length counts → (hand s).draws ≡ slice_index_or counts k d
    → draws_of seats ≡ take k counts → draws_of (seats ++ s ∷ []) ≡ take (k + 1) counts
draws_more counts k d seats s less draws was =
    map-append (λ (x : StockSeat). (hand x).draws) seats (s ∷ []) ∙ (λ i. was i ++ draws i ∷ []) ∙ sym (take_more counts k d less)

-- ---- the right at a place

-- what an index reads is there
read_at : {X : Type 0} (xs : List X) (k : ℕ) (x : X) → k < length xs → x ≡ slice_index_or xs k x → slice_get xs k ≡ Some (slice_index_or xs k x)
read_at xs k x less is = slice_get_read xs (length xs) k x refl less is ∙ ap (λ y. Some y) is

as_many : (stocks : List IntervalStock) (rights : List StockSeat) → AreRightsAt (map fact_of stocks) rights → length rights ≡ length stocks
as_many stocks rights at = mapped_long _ _ rights (map fact_of stocks) at ∙ facts_long stocks

-- it is of the stock there
pub right_own : (stocks : List IntervalStock) (rights : List StockSeat) (k : ℕ) (own : IntervalStock) (right : StockSeat) → k < length stocks
    → own ≡ slice_index_or stocks k own → right ≡ slice_index_or rights k right → AreRightsAt (map fact_of stocks) rights
    → right.seat.table_id ≡ (slice_index_or stocks k own).stock.table.shared.table_id
right_own stocks rights k own right less is read at =
    let many = as_many stocks rights at in
    let there = map_get fact_of stocks k (slice_index_or stocks k own) (read_at stocks k own less is) in
    let here = slice_get_read rights (length rights) k right refl (omega (arith, less, many)) read in
    let same = at_both _ _ rights (map fact_of stocks) k right (fact_of (slice_index_or stocks k own)) at here there in
    λ i. (same i).0

-- rights of the same stocks, which told and handed over as much
pub record AreStillRights (facts : List StockFact) (old now : List StockSeat) : Type 0 where
  pub rights : AreRightsAt facts now
  pub limits : limits_of now ≡ limits_of old
  pub handed : answered_of now ≡ answered_of old

-- where draws were cut off of one of them
pub still_rights : (stocks : List IntervalStock) (old was : List StockSeat) (k : ℕ) (own : IntervalStock) (right right_now : StockSeat) → k < length stocks
    → own ≡ slice_index_or stocks k own → right ≡ slice_index_or was k right → AreStillRights (map fact_of stocks) old was
    → right_now.seat.table_id ≡ (slice_index_or stocks k own).stock.table.shared.table_id → IsCutOf right right_now
    → AreStillRights (map fact_of stocks) old (slice_set was k right_now)
still_rights stocks old was k own right right_now less is read before table cut =
    let same : right_now.seat.table_id ≡ right.seat.table_id = table ∙ sym (right_own stocks was k own right less is read before.rights) in
    let many = as_many stocks was before.rights in
    let here = slice_get_read was (length was) k right refl (omega (arith, less, many)) read in
    record {
      rights = map_set_same (λ (x : StockSeat). (x.seat.table_id, (hand x).raises)) was k right right_now here (λ i. (same i, cut.raises i)) ∙ before.rights;
      limits = map_set_same (λ (x : StockSeat). (hand x).limit) was k right right_now here cut.limit ∙ before.limits;
      handed = map_set_same (λ (x : StockSeat). (hand x).answered) was k right right_now here cut.answered ∙ before.handed;
    }
