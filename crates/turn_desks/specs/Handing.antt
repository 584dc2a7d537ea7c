-- What becomes of rights as seats are compared with them, and hand their tickets over.
use Rattle.std.specs.Prelude.{◌≡◌, ◌+◌, ◌-◌, ◌≤◌, ℕ, Bool, List, [], ◌∷◌, ◌++◌, if◌then◌else◌, Option, Some, None, set}
use Rattle.std.specs.Prelude.{slice_get}
use Rattle.number_stock.specs.Rule.{AreOnce, IsSame, both_of, heard, raised, rest_of, unused_of}
use Rattle.number_stock.specs.Seats.{hand, IsSeatOf}
use Rattle.number_stock.specs.declared.hand.Hand.{Hand}
use Rattle.number_stock.specs.declared.seat.StockSeat.{StockSeat}
use Rattle.script_actors.specs.declared.uncommitted.Settling.{Settling}
use Rattle.script_actors.specs.declared.uncommitted.Settling.TheVariants as settling
use Rattle.turn_desks.specs.Stocks.{answered_of, limits_of}
use Rattle.turn_desks.specs.declared.stocks.IntervalStock.{IntervalStock}

-- none of these tickets is among those that were handed over, stock by stock, and all lie below the limits
abbrev pub AreFree : List ℕ → List (List ℕ) → List (List ℕ) → Type 0
AreFree [] handed tickets = Unit {0}
AreFree (n ∷ ns) [] tickets = Unit {0}
AreFree (n ∷ ns) (hs ∷ hss) [] = Unit {0}
AreFree (n ∷ ns) (hs ∷ hss) (ts ∷ tss) = AreOnce n (hs ++ ts) × AreFree ns hss tss

abbrev pub with_handed : List (List ℕ) → List (List ℕ) → List (List ℕ)
with_handed [] tickets = []
with_handed (hs ∷ hss) [] = []
with_handed (hs ∷ hss) (ts ∷ tss) = (hs ++ ts) ∷ with_handed hss tss

-- those of the rights where tickets are handed over or aren't
abbrev pub handed_then : Bool → List (List ℕ) → List (List ℕ) → List (List ℕ)
handed_then settled handed tickets = if settled then with_handed handed tickets else handed

-- tickets that a COMMIT hands over are told apart before it
abbrev pub FreeFor : Settling → List ℕ → List (List ℕ) → List (List ℕ) → Type 0
FreeFor settling.Commits limits handed tickets = AreFree limits handed tickets
FreeFor s limits handed tickets = Unit {0}

-- rights that know the same limits and have the same tickets
pub record AreSameRights (old new : List StockSeat) : Type 0 where
  pub limits : limits_of new ≡ limits_of old
  pub handed : answered_of new ≡ answered_of old

-- ---- at one place

-- a seat of this stock, with the right to raise its limit or without
abbrev pub IsSeatBy : Bool → IntervalStock → StockSeat → Type 0
IsSeatBy right own s = IsSeatOf own.stock s × ((hand s).raises ≡ right)

-- one at this place is
abbrev pub IsSeatAt : Bool → IntervalStock → List StockSeat → ℕ → Type 0
IsSeatAt right own seats place = (s : StockSeat) → slice_get seats place ≡ Some s → IsSeatBy right own s

-- The right and the seat at this place were compared: both are as they were, and their tickets are told apart.
pub record AreCompared (own : IntervalStock) (place : ℕ) (rights seats rights_now seats_now : List StockSeat)
    (right seat : StockSeat) : Type 0 where
  pub right_now : StockSeat
  pub seat_now : StockSeat
  pub rights_are : rights_now ≡ set rights place right_now
  pub seats_are : seats_now ≡ set seats place seat_now
  pub own_are : IsSeatOf own.stock right_now × IsSeatOf own.stock seat_now
  pub right_is : IsSame (hand right) (hand right_now)
  pub seat_is : IsSame (hand seat) (hand seat_now)
  pub once : AreOnce (hand right).limit ((hand right).answered ++ (hand seat).answered)

-- The seat at this place handed its tickets over to the right.
pub record IsHandedOver (own : IntervalStock) (place : ℕ) (rights seats rights_now seats_now : List StockSeat)
    (right seat : StockSeat) : Type 0 where
  pub right_now : StockSeat
  pub seat_now : StockSeat
  pub rights_are : rights_now ≡ set rights place right_now
  pub seats_are : seats_now ≡ set seats place seat_now
  pub own_are : IsSeatOf own.stock right_now × IsSeatOf own.stock seat_now
  pub right_is : hand right_now ≡ both_of (hand right) (rest_of (hand seat))
  pub seat_is : hand seat_now ≡ unused_of (hand seat)
  pub limit : (hand right_now).limit ≡ (hand right).limit

-- ---- a limit is raised

abbrev pub raised_by : Option ℕ → ℕ → Hand → Hand
raised_by None base h = h
raised_by (Some level) base h = raised (level + 1 - base) h

abbrev pub heard_by : Option ℕ → ℕ → Hand → Hand
heard_by None limit h = h
heard_by (Some level) limit h = heard limit h

-- the level that was answered, if one was, isn't below this number
abbrev pub Reaches : Option ℕ → ℕ → Type 0
Reaches None n = Unit {0}
Reaches (Some level) n = n ≤ level

-- The right at this place has raised the limit to the level that was answered, and the seat was told.
pub record IsRaisedBy (own : IntervalStock) (place : ℕ) (level : Option ℕ)
    (rights seats rights_now seats_now : List StockSeat) (right seat : StockSeat) : Type 0 where
  pub right_now : StockSeat
  pub seat_now : StockSeat
  pub rights_are : rights_now ≡ set rights place right_now
  pub seats_are : seats_now ≡ set seats place seat_now
  pub own_are : IsSeatOf own.stock right_now × IsSeatOf own.stock seat_now
  pub right_is : hand right_now ≡ raised_by level own.base (hand right)
  pub seat_is : hand seat_now ≡ heard_by level (hand right_now).limit (hand seat)
