-- The first wrong record, as far as a loop over the records has come.
use Rattle.std.proofs.Common.{◌≡◌, ℕ, ◌+◌, ◌<◌, ◌≤◌, Bool, true, false, cond, List, length, get_or, take, drop, Option, Some, None, sym, ap, ◌∙◌, arith}
use Rattle.std.proofs.lemmas.List.{at_drop_more, drop_all, take_more, length-take-le}
use Rattle.update_records.specs.declared.stored.Record.{Record}
use Rattle.store_reading.specs.First.{first_wrong}
use Rattle.store_reading.specs.declared.rules.Place.{Place}

abbrev Test : Type 0
Test = List Record → Record → Bool

abbrev at_row : ℕ → ℕ → Option Place
at_row table n = Some (record { table = table; row = n })

first_at : (is_right : Test) (table : ℕ) (xs : List Record) (i n : ℕ) (r : Record) (b : Bool) → i < length xs → r ≡ get_or xs i r → n ≡ i + 1
    → b ≡ is_right (take i xs) r
    → first_wrong is_right table (take i xs) (drop i xs) ≡ cond b (first_wrong is_right table (take (i + 1) xs) (drop (i + 1) xs)) (at_row table n)
first_at is_right table xs i n r b h is place test =
    let rest = drop (i + 1) xs in
    let front = take i xs in
    let len : length front + 1 ≡ n = omega (arith, length-take-le i xs (omega arith)) in
    at_drop_more (first_wrong is_right table front) xs i r h
    ∙ ap (λ f. cond (is_right front (get_or xs i r)) (first_wrong is_right table f rest) (at_row table (length front + 1))) (sym (take_more xs i r h))
    ∙ ap (λ m. cond (is_right front (get_or xs i r)) (first_wrong is_right table (take (i + 1) xs) rest) (at_row table m)) len
    ∙ ap (λ x. cond (is_right front x) (first_wrong is_right table (take (i + 1) xs) rest) (at_row table n)) (sym is)
    ∙ ap (λ t. cond t (first_wrong is_right table (take (i + 1) xs) rest) (at_row table n)) (sym test)

pub wrong_more : (is_right : Test) (table : ℕ) (xs : List Record) (i n : ℕ) (r : Record) (b : Bool) (all : Option Place) → i < length xs → r ≡ get_or xs i r
    → n ≡ i + 1
    → b ≡ is_right (take i xs) r → b ≡ true → first_wrong is_right table (take i xs) (drop i xs) ≡ all
    → first_wrong is_right table (take (i + 1) xs) (drop (i + 1) xs) ≡ all
wrong_more is_right table xs i n r b all h is place test right rest =
    sym (first_at is_right table xs i n r b h is place test ∙ ap (λ t. cond t (first_wrong is_right table (take (i + 1) xs) (drop (i + 1) xs)) (at_row table n))
    right) ∙ rest

pub wrong_here : (is_right : Test) (table : ℕ) (xs : List Record) (i n : ℕ) (r : Record) (b : Bool) (all : Option Place) → i < length xs → r ≡ get_or xs i r
    → n ≡ i + 1
    → b ≡ is_right (take i xs) r → b ≡ false → first_wrong is_right table (take i xs) (drop i xs) ≡ all → Some (record { table = table; row = n }) ≡ all
wrong_here is_right table xs i n r b all h is place test wrong rest =
    sym (first_at is_right table xs i n r b h is place test ∙ ap (λ t. cond t (first_wrong is_right table (take (i + 1) xs) (drop (i + 1) xs)) (at_row table n))
    wrong) ∙ rest

pub wrong_none : (is_right : Test) (table : ℕ) (xs : List Record) (i : ℕ) (all : Option Place) → length xs ≤ i
    → first_wrong is_right table (take i xs) (drop i xs) ≡ all → None ≡ all
wrong_none is_right table xs i all h rest = sym (ap (first_wrong is_right table (take i xs)) (drop_all i xs h)) ∙ rest
