-- The numbers of an interval, with one number more, and as far as a run of them has come.
use Rattle.std.proofs.Common.{◌≡◌, ◌≢◌, ℕ, zero, suc, ◌+◌, ◌-◌, ◌<◌, ◌≤◌, Bool, true, false, not, cond, ◌&&◌, nat_eq, List, [], ◌∷◌, ◌++◌, map, length, Some}
use Rattle.std.proofs.Common.{get_or, drop, if◌then◌else◌, refl, sym, ap, ◌∙◌, arith}
use Rattle.std.specs.Cmp.Lexicographic.{pointwise}
use Rattle.std.specs.List.{filter, list_any, range_with_len, slice_get}
use Rattle.std.proofs.lemmas.Bool.{eq-eqb, eqb-true}
use Rattle.std.proofs.lemmas.List.{append-nil, at_drop_more, drop_all, map-append}
use Rattle.std.proofs.lemmas.List.Elements.{filter-append}
use Rattle.enq_base.specs.declared.unit.Num.{Num as Number}
use Rattle.module_effects.specs.Rows.{RowName}
use Rattle.update_records.specs.Business.{is_from, numbers_from}
use Rattle.store_reading.specs.Intervals.{are_apart}
use Rattle.store_reading.proofs.Twins.{none_passes, pairs_push}

pub numbers_push : (name : RowName) (xs : List Number) (x : Number) → numbers_from name
    (xs ++ x ∷ []) ≡ (if is_from name x then numbers_from name xs ++ x.number ∷ [] else numbers_from name xs)
numbers_push name xs x =
    let number = λ (num : Number). num.number in
    let own = filter (is_from name) xs in
    ap (map number) (filter-append (is_from name) xs (x ∷ []))
    ∙ elim (is_from name x) as (λ b. map number (own ++ cond b (x ∷ []) []) ≡ (if b then map number own ++ x.number ∷ [] else map number own)) [
      | true ↦ map-append number own (x ∷ [])
      | false ↦ ap (map number) (append-nil own)
    ]

pub apart_push : (xs : List ℕ) (n : ℕ) → are_apart (xs ++ n ∷ []) ≡ (are_apart xs && not (list_any (λ m. nat_eq m n) xs))
apart_push xs n = pairs_push (λ a b. not (nat_eq a b)) xs n ∙ ap (λ b. are_apart xs && b) (none_passes (λ m. nat_eq m n) xs)

-- ---- a run of numbers

abbrev pub rest_runs : List ℕ → ℕ → ℕ → ℕ → Bool
rest_runs xs from count i = pointwise nat_eq (drop i xs) (range_with_len (from + i) (count - i))

unequal : (a b : ℕ) → a ≢ b → nat_eq a b ≡ false
unequal a b apart = elim (nat_eq a b) as (λ t. nat_eq a b ≡ t → t ≡ false) [
  | true ↦ λ e. absurd (apart (eqb-true a b e))
  | false ↦ λ e. refl
] refl

run_at : (xs : List ℕ) (from count i x : ℕ) → i < length xs → x ≡ get_or xs i 0 → i < count
    → rest_runs xs from count i ≡ (nat_eq x (from + i) && rest_runs xs from count (i + 1))
run_at xs from count i x h is low =
    let more : count - i ≡ suc (count - (i + 1)) = omega arith in
    let next : from + i + 1 ≡ from + (i + 1) = omega arith in
    at_drop_more (λ ys. pointwise nat_eq ys (range_with_len (from + i) (count - i))) xs i 0 h
    ∙ ap (λ n. pointwise nat_eq (get_or xs i 0 ∷ drop (i + 1) xs) (range_with_len (from + i) n)) more
    ∙ ap (λ y. nat_eq y (from + i) && pointwise nat_eq (drop (i + 1) xs) (range_with_len (from + i + 1) (count - (i + 1)))) (sym is)
    ∙ ap (λ n. nat_eq x (from + i) && pointwise nat_eq (drop (i + 1) xs) (range_with_len n (count - (i + 1)))) next

pub run_more : (xs : List ℕ) (from count i x : ℕ) (all : Bool) → i < length xs → x ≡ get_or xs i 0 → i < count → x ≡ from + i
    → rest_runs xs from count i ≡ all → rest_runs xs from count (i + 1) ≡ all
run_more xs from count i x all h is low same rest =
    sym (run_at xs from count i x h is low ∙ ap (λ b. b && rest_runs xs from count (i + 1)) (eq-eqb x (from + i) same)) ∙ rest

pub run_differs : (xs : List ℕ) (from count i x : ℕ) (all : Bool) → i < length xs → x ≡ get_or xs i 0 → i < count → x ≢ from + i
    → rest_runs xs from count i ≡ all → false ≡ all
run_differs xs from count i x all h is low other rest =
    sym (run_at xs from count i x h is low ∙ ap (λ b. b && rest_runs xs from count (i + 1)) (unequal x (from + i) other)) ∙ rest

pub run_long : (xs : List ℕ) (from count i : ℕ) (all : Bool) → i < length xs → count ≤ i → rest_runs xs from count i ≡ all → false ≡ all
run_long xs from count i all h high rest =
    let none : count - i ≡ 0 = omega arith in
    sym (at_drop_more (λ ys. pointwise nat_eq ys (range_with_len (from + i) (count - i))) xs i 0 h
    ∙ ap (λ n. pointwise nat_eq (get_or xs i 0 ∷ drop (i + 1) xs) (range_with_len (from + i) n)) none) ∙ rest

not_same : (i count : ℕ) → false ≡ nat_eq i count → i ≢ count
not_same i count is e = let same : nat_eq i count ≡ true = eq-eqb i count e in let odd : false ≡ true = is ∙ same in cc

run_end : (xs : List ℕ) (from count i : ℕ) (b : Bool) → length xs ≤ i → i ≤ count → b ≡ nat_eq i count → b ≡ rest_runs xs from count i
run_end xs from count i true h low is =
    let same : i ≡ count = eqb-true i count (sym is) in
    let none : count - i ≡ 0 = omega (arith, same) in
    sym (ap (λ ys. pointwise nat_eq ys (range_with_len (from + i) (count - i))) (drop_all i xs h)
    ∙ ap (λ n. pointwise nat_eq [] (range_with_len (from + i) n)) none)
run_end xs from count i false h low is =
    let more : count - i ≡ suc (count - (i + 1)) = omega (arith, not_same i count is) in
    sym (ap (λ ys. pointwise nat_eq ys (range_with_len (from + i) (count - i))) (drop_all i xs h)
    ∙ ap (λ n. pointwise nat_eq [] (range_with_len (from + i) n)) more)

pub run_done : (xs : List ℕ) (from count i : ℕ) (b all : Bool) → length xs ≤ i → i ≤ count → b ≡ nat_eq i count → rest_runs xs from count i ≡ all → b ≡ all
run_done xs from count i b all h low is rest = run_end xs from count i b h low is ∙ rest

pub there_is : {X : Type 0} (xs : List X) (i : ℕ) (x : X) → i < length xs → x ≡ get_or xs i x → slice_get xs i ≡ Some x
there_is [] i x h is = absurd (omega arith)
there_is (y ∷ ys) zero x h is = ap Some (sym is)
there_is (y ∷ ys) (suc i) x h is = there_is ys i x (omega arith) is
