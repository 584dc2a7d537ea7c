-- Seats that are joined into rights, one actor's behind another's.
use Rattle.std.proofs.Common.{◌≡◌, inl, inr, ◌⊎◌, ℕ, zero, suc, ◌+◌, ◌<◌, ◌≤◌, ◌==◌, Bool, true, false, List, [], ◌∷◌, ◌++◌, length, map, take, refl, sym, ap, ◌∙◌, subst, arith, All, set}
use Rattle.std.proofs.lemmas.Bool.Decides.{nat_tests}
use Rattle.std.proofs.lemmas.List.Sums.{sum_by-cons}
use Rattle.std.specs.Prelude.{Some, slice_get, slice_index_or}
use Rattle.std.specs.List.{sum_by}
use Rattle.number_stock.specs.Rule.{AreOnce}
use Rattle.number_stock.specs.Seats.{hand}
use Rattle.number_stock.specs.declared.seat.StockSeat.{StockSeat}
use Rattle.seat_sums.specs.Sums.{one_if, times}
use Rattle.seat_sums.proofs.lemmas.Totals.{times_append, times_cons}
use Rattle.atomic_table.specs.Seated.{TableId}
use Rattle.turn_desks.proofs.lemmas.Seating.{at_both, get_set, got_at, one_some, within_got}
use Rattle.turn_desks.specs.Stocks.{StockFact}
use Rattle.thread_runner.proofs.Absorbed.{told_is}
use Rattle.thread_runner.specs.Stocking.{AreAbsorbed, AreOnceAt, IsAbsorbed, told_at}

-- ---- one actor's seats, those from a place on joined

pub record AreTaken (from : ℕ) (rights own now : List StockSeat) : Type 0 where
  pub still : (place : ℕ) → place < from → slice_get now place ≡ slice_get rights place
  pub joined : (place : ℕ) (r x n : StockSeat) → from ≤ place → slice_get rights place ≡ Some r → slice_get own place ≡ Some x
      → slice_get now place ≡ Some n → IsAbsorbed r x n

-- ---- several actors' seats, those that are left not joined

pub record IsJoined (place ticket : ℕ) (right : StockSeat) (now : List StockSeat) (left all : ℕ) : Type 0 where
  pub seat : StockSeat
  pub there : slice_get now place ≡ Some seat
  pub limit : (hand seat).limit ≡ (hand right).limit
  pub count : times ticket (hand seat).drawn + left ≡ times ticket (hand right).drawn + all
  pub once : (left ≡ all) ⊎ AreOnce (hand seat).limit (hand seat).drawn

abbrev pub AreJoined : List StockSeat → List StockSeat → List (List StockSeat) → List (List StockSeat) → Type 0
AreJoined rights now left all =
    (place ticket : ℕ) (r : StockSeat) → slice_get rights place ≡ Some r
    → IsJoined place ticket r now (sum_by (told_at place ticket) left) (sum_by (told_at place ticket) all)

pub none_joined : (rights : List StockSeat) (all : List (List StockSeat)) → AreJoined rights rights all all
none_joined rights all place ticket r there = record { seat = r; there = there; limit = refl; count = refl; once = inl refl }

-- ---- one seat more

get_other : {X : Type 0} (xs : List X) (k j : ℕ) (y : X) → k < j ⊎ j < k → slice_get (set xs k y) j ≡ slice_get xs j
get_other [] k j y h = refl
get_other (x ∷ xs) zero zero y (inl h) = absurd (omega (arith, h))
get_other (x ∷ xs) zero zero y (inr h) = absurd (omega (arith, h))
get_other (x ∷ xs) zero (suc j) y h = refl
get_other (x ∷ xs) (suc k) zero y h = refl
get_other (x ∷ xs) (suc k) (suc j) y (inl h) = get_other xs k j y (inl (omega (arith, h)))
get_other (x ∷ xs) (suc k) (suc j) y (inr h) = get_other xs k j y (inr (omega (arith, h)))

compare : (k j : ℕ) → (k ≡ j) ⊎ (k < j ⊎ j < k)
compare zero zero = inl refl
compare zero (suc j) = inr (inl (omega arith))
compare (suc k) zero = inr (inr (omega arith))
compare (suc k) (suc j) = elim (compare k j) as (λ _. (suc k ≡ suc j) ⊎ (suc k < suc j ⊎ suc j < suc k)) [
  | inl e ↦ inl (ap suc e)
  | inr (inl h) ↦ inr (inl (omega (arith, h)))
  | inr (inr h) ↦ inr (inr (omega (arith, h)))
]

pub taken_next : (m : ℕ) (rights own now : List StockSeat) (y : StockSeat) → AreTaken (suc m) rights own now → m < length now
    → ((r x : StockSeat) → slice_get rights m ≡ Some r → slice_get own m ≡ Some x → IsAbsorbed r x y) → AreTaken m rights own (set now m y)
taken_next m rights own now y h less one = record {
  still = λ place lt. get_other now m place y (inr lt) ∙ h.still place (omega (arith, lt));
  joined = λ place r x n le at there is. by place r x n le at there is (compare m place);
}
  where
    by : (place : ℕ) (r x n : StockSeat) → m ≤ place → slice_get rights place ≡ Some r → slice_get own place ≡ Some x
        → slice_get (set now m y) place ≡ Some n → (m ≡ place) ⊎ (m < place ⊎ place < m) → IsAbsorbed r x n
    by place r x n le at there is (inl e) =
        let got = got_at now m less in
        let new : y ≡ n = one_some y n (sym (get_set now m got.0 y got.1) ∙ (ap (slice_get (set now m y)) e ∙ is)) in
        subst (IsAbsorbed r x) new (one r x (ap (slice_get rights) e ∙ at) (ap (slice_get own) e ∙ there))
    by place r x n le at there is (inr (inl lt)) =
        h.joined place r x n (omega (arith, lt)) at there (sym (get_other now m place y (inl lt)) ∙ is)
    by place r x n le at there is (inr (inr gt)) = absurd (omega (arith, le, gt))

-- all seats of one actor
pub all_taken : (rights own now : List StockSeat) → AreTaken 0 rights own now → AreAbsorbed rights own now
all_taken rights own now h place r x n at there is = h.joined place r x n (omega arith) at there is

-- ---- the last seat of those that are left

pub got_so : {X : Type 0} (xs : List X) (k : ℕ) (x : X) → k < length xs → x ≡ slice_index_or xs k x → slice_get xs k ≡ Some x
got_so [] k x less is = absurd (omega (arith, less))
got_so (y ∷ xs) zero x less is = ap (λ z. Some z) (sym is)
got_so (y ∷ xs) (suc k) x less is = got_so xs k x (omega (arith, less)) is

heads : {X : Type 0} (a b : X) (xs ys : List X) → (a ∷ xs) ≡ (b ∷ ys) → a ≡ b
heads a b xs ys e = cc

tails : {X : Type 0} (a b : X) (xs ys : List X) → (a ∷ xs) ≡ (b ∷ ys) → xs ≡ ys
tails a b xs ys e = cc

no_list : {X : Type 0} (rest : List X) (x : X) → (rest ++ x ∷ []) ≡ [] → ⊥
no_list [] x e = cc
no_list (r ∷ rest) x e = cc

pub last_there : {X : Type 0} (n : ℕ) (all rest : List X) (x : X) → rest ++ x ∷ [] ≡ take n all
    → (slice_get all (length rest) ≡ Some x) × (rest ≡ take (length rest) all)
last_there zero all rest x e = absurd (no_list rest x e)
last_there (suc n) [] rest x e = absurd (no_list rest x e)
last_there (suc n) (a ∷ all) [] x e = (ap (λ z. Some z) (sym (heads x a [] (take n all) e)), refl)
last_there (suc n) (a ∷ all) (r ∷ rest) x e =
    let more = last_there n all rest x (tails r a (rest ++ x ∷ []) (take n all) e) in
    (more.0, λ i. heads r a (rest ++ x ∷ []) (take n all) e i ∷ more.1 i)

abbrev pub seen_seat : StockSeat → TableId × Bool
seen_seat s = (s.seat.table_id, (hand s).raises)

abbrev seen_fact : Bool → StockFact → TableId × Bool
seen_fact right f = (f.table, right)

-- a seat at this place is of the stock there
pub at_stock : (right : Bool) (facts : List StockFact) (seats : List StockSeat) (place : ℕ) (s : StockSeat) (f : StockFact)
    → map seen_seat seats ≡ map (seen_fact right) facts → slice_get seats place ≡ Some s → slice_get facts place ≡ Some f
    → (s.seat.table_id ≡ f.table) × ((hand s).raises ≡ right)
at_stock right facts seats place s f same at there =
    let e : seen_seat s ≡ seen_fact right f = at_both seen_seat (seen_fact right) seats facts place s f same at there in
    (ap (λ (p : TableId × Bool). p.0) e, ap (λ (p : TableId × Bool). p.1) e)

-- ---- one actor more

sum_last : {X : Type 0} (f : X → ℕ) (xs : List X) (x : X) → sum_by f (xs ++ x ∷ []) ≡ sum_by f xs + f x
sum_last f [] x = let one = sum_by-cons f x [] in omega (arith, one)
sum_last f (y ∷ xs) x =
    let more = sum_by-cons f y (xs ++ x ∷ []) in
    let less = sum_by-cons f y xs in
    let rest = sum_last f xs x in
    omega (arith, more, less, rest)

pub joined_next : (rights now later : List StockSeat) (left all : List (List StockSeat)) (own : List StockSeat) → length own ≡ length now
    → length later ≡ length now → AreAbsorbed now own later → AreJoined rights now (left ++ own ∷ []) all → AreJoined rights later left all
joined_next rights now later left all own tall long absorbed h place ticket r there =
    let was = h place ticket r there in
    let less : place < length now = within_got now place was.seat was.there in
    let x = got_at own place (omega (arith, less, tall)) in
    let n = got_at later place (omega (arith, less, long)) in
    let a = absorbed place was.seat x.0 n.0 was.there x.1 n.1 in
    let told = told_is own place ticket x.0 x.1 in
    let last = sum_last (told_at place ticket) left own in
    let drawn = ap (times ticket) a.drawn ∙ times_append ticket (hand was.seat).drawn (hand x.0).drawn in
    let count = was.count in
    record {
      seat = n.0;
      there = n.1;
      limit = a.limit ∙ was.limit;
      count = omega (arith, told, last, drawn, count);
      once = inr a.once;
    }

-- what holds of all holds of each that is there
is_there : (limit ticket : ℕ) (ts : List ℕ) → All (λ t. t < limit) ts → 0 < times ticket ts → ticket < limit
is_there limit ticket [] h some = absurd (omega (arith, some))
is_there limit ticket (t ∷ ts) h some =
    by (ticket == t) refl (λ more. is_there limit ticket ts (λ k d lt. h (suc k) d (omega (arith, lt))) more)
  where
    by : (b : Bool) → (ticket == t) ≡ b → (0 < times ticket ts → ticket < limit) → ticket < limit
    by true e later =
        let first : t < limit = h 0 t (omega arith) in
        let same : ticket ≡ t = grind (arith, nat_tests, e) in
        omega (arith, first, same)
    by false e later =
        let none : one_if (ticket == t) ≡ 0 = ap one_if e in
        let more = times_cons ticket t ts in
        later (omega (arith, none, more, some))

pub joined_end : (rights now : List StockSeat) (all : List (List StockSeat)) → AreJoined rights now [] all → AreOnceAt rights all
joined_end rights now all h place ticket r there = by (h place ticket r there).once
  where
    is : IsJoined place ticket r now 0 (sum_by (told_at place ticket) all)
    is = h place ticket r there

    by : (0 ≡ sum_by (told_at place ticket) all) ⊎ AreOnce (hand is.seat).limit (hand is.seat).drawn
        → (sum_by (told_at place ticket) all < 2) × (0 < sum_by (told_at place ticket) all → ticket < (hand r).limit)
    by (inl none) = (omega (arith, none), λ some. absurd (omega (arith, none, some)))
    by (inr once) =
        let two = once.0 ticket in
        let count = is.count in
        let limit = is.limit in (
          omega (arith, two, count),
          λ some. let less = is_there (hand is.seat).limit ticket (hand is.seat).drawn once.1 (omega (arith, count, some)) in omega (arith, less, limit),
        )
