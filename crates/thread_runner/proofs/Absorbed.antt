-- Seats that are joined into the rights of their stocks.
use Rattle.std.proofs.Common.{◌≡◌, ℕ, zero, suc, ◌+◌, ◌<◌, ◌≤◌, List, [], ◌∷◌, ◌++◌, length, map, refl, sym, ap, ◌∙◌, subst, arith}
use Rattle.std.specs.Prelude.{Option, Some, None, slice_get, slice_index_or}
use Rattle.std.specs.Global.{Vec}
use Rattle.std.specs.List.{AllByRecursion, sum_by}
use Rattle.std.proofs.lemmas.List.Sums.{sum_by-cons}
use Rattle.number_stock.specs.Seats.{hand}
use Rattle.number_stock.specs.declared.seat.StockSeat.{StockSeat}
use Rattle.seat_sums.specs.Sums.{times}
use Rattle.seat_sums.proofs.lemmas.Totals.{times_append}
use Rattle.actor_threads.specs.Working.{AllSeats}
use Rattle.actor_threads.specs.declared.actor.Deed.{Deed}
use Rattle.hall_model.specs.State.{State}
use Rattle.hall_model.specs.declared.command.Who.TheVariants as caller
use Rattle.turn_desks.specs.Stocks.{AreSeatsAt, StockFact}
use Rattle.thread_runner.specs.Hiring.{left_of}
use Rattle.thread_runner.specs.Looking.{LooksLast}
use Rattle.thread_runner.specs.Numbers.{drawn_by}
use Rattle.thread_runner.specs.Stocking.{AreAbsorbed, AreOnceAt, drawn_in_deeds, told_at}
use Rattle.std.proofs.Common.{inl, inr, append_assoc, append-nil, drop, length-append, take}
use Rattle.std.proofs.lemmas.List.{take_more}
use Rattle.thread_runner.proofs.Stood.{split_at}

-- what a seat at a place remembers
pub told_is : (seats : List StockSeat) (place ticket : ℕ) (x : StockSeat) → slice_get seats place ≡ Some x → told_at place ticket seats ≡ times ticket (hand x).drawn
told_is [] place ticket x at = absurd (none x at)
  where
    none : (y : StockSeat) → None ≡ Some y → ⊥
    none y e = cc
told_is (y ∷ seats) zero ticket x at = ap (λ (z : StockSeat). times ticket (hand z).drawn) (one y x at)
  where
    one : (a b : StockSeat) → Some a ≡ Some b → a ≡ b
    one a b e = cc
told_is (y ∷ seats) (suc place) ticket x at = told_is seats place ticket x at

-- ---- the deeds behind the last look

pub drawn_more : (xs ys : List Deed) → drawn_in_deeds (xs ++ ys) ≡ drawn_in_deeds xs ++ drawn_in_deeds ys
drawn_more [] ys = refl
drawn_more (x ∷ xs) ys =
    ap (λ l. drawn_by x.who (left_of x) ++ l) (drawn_more xs ys) ∙ sym (append_assoc (drawn_by x.who (left_of x)) (drawn_in_deeds xs) (drawn_in_deeds ys))

-- one deed more
pub drawn_next : (ds : List Deed) (i : ℕ) (d : Deed) → i < length ds → d ≡ slice_index_or ds i d
    → drawn_in_deeds (take (i + 1) ds) ≡ drawn_in_deeds (take i ds) ++ drawn_by d.who (left_of d)
drawn_next ds i d less is =
    ap drawn_in_deeds (take_more ds i d less ∙ ap (λ x. take i ds ++ x ∷ []) (sym is)) ∙ drawn_more (take i ds) (d ∷ [])
    ∙ ap (λ l. drawn_in_deeds (take i ds) ++ l) (append-nil (drawn_by d.who (left_of d)))

pub drawn_fits : (ds : List Deed) (i : ℕ) (d : Deed) → i < length ds → d ≡ slice_index_or ds i d
    → length (drawn_in_deeds (take i ds)) + length (drawn_by d.who (left_of d)) ≤ length (drawn_in_deeds ds)
drawn_fits ds i d less is =
    let all = ap (λ l. length (drawn_in_deeds l)) (split_at ds i d less is) in
    let both = ap length (drawn_more (take i ds) (d ∷ drop (suc i) ds)) in
    let first = length-append (drawn_in_deeds (take i ds)) (drawn_in_deeds (d ∷ drop (suc i) ds)) in
    let rest = length-append (drawn_by d.who (left_of d)) (drawn_in_deeds (drop (suc i) ds)) in
    omega (arith, all, both, first, rest)

-- a worker looks last, which has drawn nothing
pub drawn_looked : (s t : State) (deeds now : List Deed) → LooksLast s t deeds now → drawn_in_deeds now ≡ drawn_in_deeds deeds
drawn_looked s t deeds now (inl o) =
    let was : drawn_by o.deed.who (left_of o.deed) ≡ [] = ap (λ w. drawn_by w (left_of o.deed)) o.looks.who in
    let is : drawn_by o.deed_now.who (left_of o.deed_now) ≡ [] = ap (λ w. drawn_by w (left_of o.deed_now)) (o.looks.same ∙ o.looks.who) in
    ap drawn_in_deeds o.is ∙ drawn_more o.front (o.deed_now ∷ o.back)
    ∙ (λ k. drawn_in_deeds o.front ++ ((is ∙ sym was) k ++ drawn_in_deeds o.back))
    ∙ sym (drawn_more o.front (o.deed ∷ o.back)) ∙ sym (ap drawn_in_deeds o.was)
drawn_looked s t deeds now (inr n) = ap drawn_in_deeds n.2

-- ---- the seats that are left

pub seats_own : (facts : List StockFact) (ds : List Deed) (xs : List (Vec StockSeat)) → AllSeats facts ds (map (λ v. v.items) xs)
    → AllByRecursion (λ (v : Vec StockSeat). AreSeatsAt facts v.items) xs
seats_own facts ds [] h = tt
seats_own facts [] (x ∷ xs) h = absurd h
seats_own facts (d ∷ ds) (x ∷ xs) h = (h.0.own, seats_own facts ds xs h.1)
