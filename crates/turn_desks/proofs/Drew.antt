-- A drawing at a desk: which stock it is, and what is kept of the desk behind it.
use Rattle.std.proofs.Common.{◌≡◌, ℕ, ◌+◌, ◌<◌, ◌≤◌, Bool, true, false, List, [], ◌∷◌, ◌++◌, append-nil, length, map, sym, ap, ◌∙◌, subst, arith}
use Rattle.std.specs.Prelude.{Option, Some, slice_get, sum_by}
use Rattle.std.proofs.lemmas.List.{map-append, reverse-append}
use mathlib.Core.List.{reverse}
use Rattle.draw_laws.proofs.IntervalNames.{is_named_so, named_is}
use Rattle.ledger_steps.specs.Levels.{name_of}
use Rattle.module_effects.specs.Rows.{RowName}
use Rattle.number_ranges.specs.Intervals.{is_named}
use Rattle.number_ranges.specs.declared.interval.Interval.{Interval}
use Rattle.number_stock.specs.Seats.{hand}
use Rattle.number_stock.specs.declared.seat.StockSeat.{StockSeat}
use Rattle.script_actors.specs.Actors.{HasDraw, drawing}
use Rattle.script_actors.specs.Drawings.{interval_at, number_in}
use Rattle.turn_desks.specs.Draws.{IsPlaceOf}
use Rattle.turn_desks.specs.Stocks.{AreOfLand, AreSeatsAt, StockFact, draws_of, is_of_stock, left_in}
use Rattle.turn_desks.specs.Weaving.{Noted, numbers_told}
use Rattle.turn_desks.proofs.Asked.{at_name}
use Rattle.turn_desks.proofs.Desks.{as_many}
use Rattle.turn_desks.proofs.Numbers.{found_named, is_so, left_at, left_some, used_sum}
use Rattle.turn_desks.proofs.Woven.{told_append}
use Rattle.turn_desks.proofs.lemmas.Seating.{at_both, got_at, map_get, one_some, within_got}

module _ (intervals : List Interval) (facts : List StockFact) (land : AreOfLand intervals facts) (object nr : List ℕ) where
  -- a number that may be drawn is of a stock
  pub has_stock : (draws : List ℕ) → HasDraw intervals (left_in facts draws) object nr → is_of_stock facts object nr ≡ true
  has_stock draws h =
      let i = h.interval in
      let named : name_of i ≡ (object, nr) = named_is object nr i (found_named object nr intervals i h.found) in
      ap (λ (n : RowName). is_of_stock facts n.0 n.1) (sym named) ∙ left_some facts draws i h.one

  module _ (place : ℕ) (p : IsPlaceOf facts object nr place) where
    -- its interval is the landscape's
    pub interval_is : (i : Interval) → interval_at intervals object nr ≡ Some i → p.fact.interval ≡ i
    interval_is i found =
        let own = at_both {Z = Option Interval} (λ (f : StockFact). interval_at intervals f.interval.object f.interval.nr) (λ (f : StockFact). Some f.interval)
        facts facts place p.fact p.fact land.0 p.there p.there in
        one_some p.fact.interval i (sym own ∙ (sym (at_name intervals object nr p.fact.interval p.is) ∙ found))

    -- as many of its numbers may be drawn as the seat at it has draws
    pub left_there : (seats : List StockSeat) (s : StockSeat) → slice_get seats place ≡ Some s → HasDraw intervals (left_in facts (draws_of seats)) object nr
        → 1 ≤ (hand s).draws
    left_there seats s there h =
        let same : p.fact.interval ≡ h.interval = interval_is h.interval h.found in
        let named : is_named h.interval.object h.interval.nr p.fact.interval ≡ true =
        is_named_so h.interval.object h.interval.nr p.fact.interval (ap name_of same) in
        let left = left_at facts (draws_of seats) place p.fact (hand s).draws h.interval p.there
        (map_get (λ (x : StockSeat). (hand x).draws) seats place s there) land.2 named in
        subst (λ n. 1 ≤ n) left h.one

    pub seat_within : (seats : List StockSeat) → AreSeatsAt facts seats → place < length seats
    seat_within seats are = let less = within_got facts place p.fact p.there in let many = as_many false facts seats are in omega (arith, less, many)

    pub some_draw : (seats : List StockSeat) → AreSeatsAt facts seats → HasDraw intervals (left_in facts (draws_of seats)) object nr
        → (s : StockSeat) × (slice_get seats place ≡ Some s) × (1 ≤ (hand s).draws)
    some_draw seats are h =
        let s = got_at seats place (seat_within seats are) in
        (s.0, s.1, left_there seats s.0 s.1 h)

    -- there is a draw left among all
    pub some_left : (seats : List StockSeat) → AreSeatsAt facts seats → HasDraw intervals (left_in facts (draws_of seats)) object nr
        → 1 ≤ sum_by (λ (n : ℕ). n) (draws_of seats)
    some_left seats are h =
        let s = some_draw seats are h in
        let sum = used_sum (draws_of seats) place (hand s.0).draws (map_get (λ (x : StockSeat). (hand x).draws) seats place s.0 s.1) s.2 in
        omega (arith, sum)

  -- who draws is a session
  pub is_drawer : (b : Bool) (draws : List ℕ) → HasDraw intervals (left_in facts draws) object nr → (b ≡ false → (i : Interval) → left_in facts draws i ≡ 0)
      → b ≡ true
  is_drawer b draws h none = is_so b (λ off. let zero = none off h.interval in let one = h.one in omega (arith, zero, one))

-- one note more
pub notes_more : {X : Type 0} (noted : X → Noted) (notes : List X) (note : X)
    → reverse (map noted (notes ++ note ∷ [])) ≡ noted note ∷ reverse (map noted notes)
notes_more noted notes note = ap reverse (map-append noted notes (note ∷ [])) ∙ reverse-append (map noted notes) (noted note ∷ [])

pub told_more : {X : Type 0} (noted : X → Noted) (notes : List X) (note : X)
    → numbers_told (map noted (notes ++ note ∷ [])) ≡ numbers_told (map noted notes) ++ number_in (noted note).object (noted note).nr (noted note).reply
told_more noted notes note =
    let n = noted note in
    ap numbers_told (map-append noted notes (note ∷ []))
    ∙ (told_append (map noted notes) (n ∷ []) ∙ ap (λ l. numbers_told (map noted notes) ++ l) (append-nil (number_in n.object n.nr n.reply)))
