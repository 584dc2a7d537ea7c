-- Seats are compared with the rights, or hand their tickets over, one place behind another.
use Rattle.std.proofs.Common.{◌≡◌, ℕ, suc, ◌+◌, ◌<◌, Bool, true, false, List, length, map, set, refl, sym, ap, ◌∙◌, subst, arith}
use Rattle.std.specs.Prelude.{◌||◌, Some, slice_get}
use Rattle.std.proofs.lemmas.List.{length-map}
use Rattle.atomic_table.specs.Seated.{TableId}
use Rattle.number_stock.specs.Seats.{hand, IsSeatOf}
use Rattle.number_stock.specs.declared.hand.Hand.{Hand}
use Rattle.number_stock.specs.declared.seat.StockSeat.{StockSeat}
use Rattle.turn_desks.specs.Handing.{AreCompared, AreFree, AreSameRights, IsHandedOver, IsSeatAt, with_handed}
use Rattle.turn_desks.specs.Stocks.{AreLeft, AreRightsAt, AreSame, AreSeatsAt, AreSeatsBy, StockFact, answered_of, drawn_of, draws_of, fact_of, limits_of}
use Rattle.turn_desks.specs.declared.stocks.IntervalStock.{IntervalStock}
use Rattle.turn_desks.proofs.Desks.{as_many, many_answered, many_limits}
use Rattle.turn_desks.proofs.lemmas.HandedOver.{FreeUpTo, clear_one, cleared, cleared_all, free_all, free_one, give_one, given_all, given_to}
use Rattle.turn_desks.proofs.lemmas.Seating.{at_both, map_get, map_set, map_set_same, set_seen}

abbrev seen_at : StockSeat → TableId × Bool
seen_at s = (s.seat.table_id, (hand s).raises)

abbrev fact_at : Bool → StockFact → TableId × Bool
fact_at right f = (f.table, right)

module _ (stocks : List IntervalStock) where
  abbrev facts : List StockFact
  facts = map fact_of stocks

  pub seat_by : (right : Bool) (seats : List StockSeat) (place : ℕ) (own : IntervalStock) → slice_get stocks place ≡ Some own → AreSeatsBy right facts seats
      → IsSeatAt right own seats place
  seat_by right seats place own at are s there =
      let e = at_both seen_at (fact_at right) seats facts place s (fact_of own) are there (map_get fact_of stocks place own at) in
      (ap (λ (x : TableId × Bool). x.0) e, ap (λ (x : TableId × Bool). x.1) e)

  pub as_many_seats : (right : Bool) (seats : List StockSeat) → AreSeatsBy right facts seats → length seats ≡ length stocks
  as_many_seats right seats are = as_many right facts seats are ∙ length-map stocks fact_of

  -- one that is put in a seat's place is a seat there
  pub still_by : (right : Bool) (seats : List StockSeat) (place : ℕ) (own : IntervalStock) (s now : StockSeat) → slice_get stocks place ≡ Some own
      → slice_get seats place ≡ Some s → AreSeatsBy right facts seats → IsSeatOf own.stock now → (hand now).raises ≡ right
      → AreSeatsBy right facts (set seats place now)
  still_by right seats place own s now at there are table raises =
      let was = seat_by right seats place own at are s there in
      map_set_same {Y = TableId × Bool} seen_at seats place s now there (λ i. ((table ∙ sym was.0) i, (raises ∙ sym was.1) i)) ∙ are

  -- ---- compared

  pub record Compared (k : ℕ) (rights seats rights_now seats_now : List StockSeat) : Type 0 where
    pub rights_at : AreRightsAt facts rights_now
    pub seats_at : AreSeatsAt facts seats_now
    pub handed : AreSameRights rights rights_now
    pub same : AreSame seats seats_now
    pub free : FreeUpTo k (limits_of rights) (answered_of rights) (answered_of seats)

  pub compared_none : (rights seats : List StockSeat) → AreRightsAt facts rights → AreSeatsAt facts seats → Compared 0 rights seats rights seats
  compared_none rights seats rights_at seats_at = record {
    rights_at = rights_at;
    seats_at = seats_at;
    handed = record { limits = refl; handed = refl };
    same = record { draws = refl; tickets = refl; answered = refl; drawn = refl };
    free = tt;
  }

  pub compared_one : (k : ℕ) (rights seats r s r' s' : List StockSeat) (own : IntervalStock) (right seat : StockSeat) → Compared k rights seats r s
      → slice_get stocks k ≡ Some own → slice_get r k ≡ Some right → slice_get s k ≡ Some seat → AreCompared own k r s r' s' right seat
      → Compared (k + 1) rights seats r' s'
  compared_one k rights seats r s r' s' own right seat before at at_r at_s one =
      let kept : (p : StockSeat → ℕ) → p one.seat_now ≡ p seat → map p s' ≡ map p s = λ p e. set_seen p s s' k seat one.seat_now one.seats_are at_s e in
      let kept_lists : (p : StockSeat → List ℕ) → p one.seat_now ≡ p seat → map p s' ≡ map p s =
      λ p e. set_seen p s s' k seat one.seat_now one.seats_are at_s e in
      let held : (p : StockSeat → ℕ) → p one.right_now ≡ p right → map p r' ≡ map p r = λ p e. set_seen p r r' k right one.right_now one.rights_are at_r e in
      let held_lists : (p : StockSeat → List ℕ) → p one.right_now ≡ p right → map p r' ≡ map p r =
      λ p e. set_seen p r r' k right one.right_now one.rights_are at_r e in
      let right_is = seat_by true r k own at before.rights_at right at_r in
      let seat_is = seat_by false s k own at before.seats_at seat at_s in
      let more : FreeUpTo (suc k) (limits_of rights) (answered_of rights) (answered_of seats) =
      free_one k (limits_of rights) (answered_of rights) (answered_of seats) (hand right).limit (hand right).answered (hand seat).answered
      (ap (λ l. slice_get l k) (sym before.handed.limits) ∙ map_get (λ (x : StockSeat). (hand x).limit) r k right at_r)
      (ap (λ l. slice_get l k) (sym before.handed.handed) ∙ map_get (λ (x : StockSeat). (hand x).answered) r k right at_r)
      (ap (λ l. slice_get l k) (sym before.same.answered) ∙ map_get (λ (x : StockSeat). (hand x).answered) s k seat at_s)
      one.once before.free in
      record {
        rights_at = subst (AreRightsAt facts) (sym one.rights_are)
            (still_by true r k own right one.right_now at at_r before.rights_at one.own_are.0 (one.right_is.raises ∙ right_is.1));
        seats_at = subst (AreSeatsAt facts) (sym one.seats_are)
            (still_by false s k own seat one.seat_now at at_s before.seats_at one.own_are.1 (one.seat_is.raises ∙ seat_is.1));
        handed = record {
          limits = held (λ x. (hand x).limit) (one.right_is.known right_is.1) ∙ before.handed.limits;
          handed = held_lists (λ x. (hand x).answered) one.right_is.answered ∙ before.handed.handed;
        };
        same = record {
          draws = kept (λ x. (hand x).draws) one.seat_is.draws ∙ before.same.draws;
          tickets = kept_lists (λ x. (hand x).tickets) one.seat_is.tickets ∙ before.same.tickets;
          answered = kept_lists (λ x. (hand x).answered) one.seat_is.answered ∙ before.same.answered;
          drawn = kept_lists (λ x. (hand x).drawn) one.seat_is.drawn ∙ before.same.drawn;
        };
        free = subst (λ n. FreeUpTo n (limits_of rights) (answered_of rights) (answered_of seats)) (one_behind k) more;
      }
    where
      one_behind : (k : ℕ) → suc k ≡ k + 1
      one_behind k = omega arith

  pub compared_free : (k : ℕ) (rights seats r s : List StockSeat) → AreRightsAt facts rights → k ≡ length stocks → Compared k rights seats r s
      → AreFree (limits_of rights) (answered_of rights) (answered_of seats)
  compared_free k rights seats r s at all so_far =
      let many : k ≡ length (limits_of rights) = all ∙ sym (many_limits true facts rights at ∙ length-map stocks fact_of) in
      free_all (limits_of rights) (answered_of rights) (answered_of seats)
      (subst (λ n. FreeUpTo n (limits_of rights) (answered_of rights) (answered_of seats)) many so_far.free)

  -- ---- handed over

  pub record HandedOver (k : ℕ) (rights seats rights_now seats_now : List StockSeat) : Type 0 where
    pub rights_at : AreRightsAt facts rights_now
    pub seats_at : AreSeatsAt facts seats_now
    pub limits : limits_of rights_now ≡ limits_of rights
    pub handed : answered_of rights_now ≡ given_to k (answered_of rights) (answered_of seats)
    pub draws : draws_of seats_now ≡ draws_of seats
    pub drawn : drawn_of seats_now ≡ drawn_of seats
    pub answered : answered_of seats_now ≡ cleared k (answered_of seats)

  pub handed_none : (rights seats : List StockSeat) → AreRightsAt facts rights → AreSeatsAt facts seats → HandedOver 0 rights seats rights seats
  handed_none rights seats rights_at seats_at = record {
    rights_at = rights_at;
    seats_at = seats_at;
    limits = refl;
    handed = refl;
    draws = refl;
    drawn = refl;
    answered = refl;
  }

  or_none : (b : Bool) → (b || false) ≡ b
  or_none true = refl
  or_none false = refl

  pub handed_one : (k : ℕ) (rights seats r s r' s' : List StockSeat) (own : IntervalStock) (right seat : StockSeat) → HandedOver k rights seats r s
      → k < length stocks → AreSeatsAt facts seats
      → slice_get stocks k ≡ Some own → slice_get r k ≡ Some right → slice_get s k ≡ Some seat → IsHandedOver own k r s r' s' right seat
      → HandedOver (k + 1) rights seats r' s'
  handed_one k rights seats r s r' s' own right seat before within first at at_r at_s one =
      let kept : (p : StockSeat → ℕ) → p one.seat_now ≡ p seat → map p s' ≡ map p s = λ p e. set_seen p s s' k seat one.seat_now one.seats_are at_s e in
      let kept_lists : (p : StockSeat → List ℕ) → p one.seat_now ≡ p seat → map p s' ≡ map p s =
      λ p e. set_seen p s s' k seat one.seat_now one.seats_are at_s e in
      let held : (p : StockSeat → ℕ) → p one.right_now ≡ p right → map p r' ≡ map p r = λ p e. set_seen p r r' k right one.right_now one.rights_are at_r e in
      let held_lists : (p : StockSeat → List ℕ) → p one.right_now ≡ p right → map p r' ≡ map p r =
      λ p e. set_seen p r r' k right one.right_now one.rights_are at_r e in
      let right_is = seat_by true r k own at before.rights_at right at_r in
      let seat_is = seat_by false s k own at before.seats_at seat at_s in
      let tickets : StockSeat → List ℕ = λ x. (hand x).answered in
      let long : k < length (answered_of seats) =
      (let many = many_answered false facts seats first in let all = length-map stocks fact_of in omega (arith, many, all, within)) in
      let h : slice_get (given_to k (answered_of rights) (answered_of seats)) k ≡ Some (hand right).answered =
      ap (λ l. slice_get l k) (sym before.handed) ∙ map_get tickets r k right at_r in
      let t : slice_get (cleared k (answered_of seats)) k ≡ Some (hand seat).answered = ap (λ l. slice_get l k) (sym before.answered)
      ∙ map_get tickets s k seat at_s in
      let given : answered_of r' ≡ given_to (suc k) (answered_of rights) (answered_of seats) =
      ap answered_of one.rights_are
      ∙ (map_set tickets r k one.right_now
      ∙ ((λ i. set (before.handed i) k (ap (λ (x : Hand). x.answered) one.right_is i)) ∙ give_one k (answered_of rights) (answered_of seats) _ _ h t)) in
      let clear : answered_of s' ≡ cleared (suc k) (answered_of seats) =
      ap answered_of one.seats_are
      ∙ (map_set tickets s k one.seat_now ∙ ((λ i. set (before.answered i) k (ap (λ (x : Hand). x.answered) one.seat_is i))
      ∙ clear_one k (answered_of seats) long)) in
      record {
        rights_at = subst (AreRightsAt facts) (sym one.rights_are)
            (still_by true r k own right one.right_now at at_r before.rights_at one.own_are.0
            (ap (λ (x : Hand). x.raises) one.right_is ∙ ((λ i. right_is.1 i || seat_is.1 i))));
        seats_at = subst (AreSeatsAt facts) (sym one.seats_are)
            (still_by false s k own seat one.seat_now at at_s before.seats_at one.own_are.1 (ap (λ (x : Hand). x.raises) one.seat_is));
        limits = held (λ x. (hand x).limit) one.limit ∙ before.limits;
        handed = given ∙ ap (λ n. given_to n (answered_of rights) (answered_of seats)) (one_behind k);
        draws = kept (λ x. (hand x).draws) (ap (λ (x : Hand). x.draws) one.seat_is) ∙ before.draws;
        drawn = kept_lists (λ x. (hand x).drawn) (ap (λ (x : Hand). x.drawn) one.seat_is) ∙ before.drawn;
        answered = clear ∙ ap (λ n. cleared n (answered_of seats)) (one_behind k);
      }
    where
      one_behind : (k : ℕ) → suc k ≡ k + 1
      one_behind k = omega arith

  pub handed_all : (k : ℕ) (rights seats r s : List StockSeat) → AreRightsAt facts rights → AreSeatsAt facts seats → k ≡ length stocks
      → HandedOver k rights seats r s → (answered_of r ≡ with_handed (answered_of rights) (answered_of seats)) × AreLeft true seats s
  handed_all k rights seats r s rights_at seats_at all so_far =
      let stocks_many = length-map stocks fact_of in
      let rights_many = many_answered true facts rights rights_at in
      let seats_many = many_answered false facts seats seats_at in
      let by_rights : k ≡ length (answered_of rights) = all ∙ sym (rights_many ∙ stocks_many) in
      let by_seats : k ≡ length (answered_of seats) = all ∙ sym (seats_many ∙ stocks_many) in (
        so_far.handed
            ∙ (ap (λ n. given_to n (answered_of rights) (answered_of seats)) by_rights
            ∙ given_all (answered_of rights) (answered_of seats) (rights_many ∙ sym seats_many)),
        record {
          draws = so_far.draws;
          drawn = so_far.drawn;
          answered = so_far.answered ∙ (ap (λ n. cleared n (answered_of seats)) by_seats ∙ cleared_all (answered_of seats));
        },
      )
