-- How often a number stands in a list, and runs of numbers.
use Rattle.std.proofs.Common.{◌≡◌, ℕ, zero, suc, ◌+◌, ◌≤◌, Bool, true, false, cond, nat_eq, List, [], ◌∷◌, ◌++◌, refl, sym, ap, subst, ◌∙◌, arith}
use Rattle.std.specs.Prelude.{count_by}
use Rattle.std.specs.List.{AllByRecursion, IsDistinct, range_with_len}
use Rattle.std.proofs.lemmas.Bool.{eq-eqb, eqb-true}
use Rattle.std.proofs.lemmas.List.Sums.{sum_by-append, sum_by-cons}
use Rattle.std.proofs.lemmas.Map.Keys.{IsDistinct-cons, IsDistinct-head, IsDistinct-tail}

pub all_append : {X : Type 0} (P : X → Type 0) (xs ys : List X) → AllByRecursion P xs → AllByRecursion P ys → AllByRecursion P (xs ++ ys)
all_append P [] ys a b = b
all_append P (x ∷ xs) ys a b = (a.0, all_append P xs ys a.1 b)

pub all_right : {X : Type 0} (P : X → Type 0) (xs ys : List X) → AllByRecursion P (xs ++ ys) → AllByRecursion P ys
all_right P [] ys h = h
all_right P (x ∷ xs) ys h = all_right P xs ys h.1

pub all_of : {X : Type 0} (P Q : X → Type 0) → ((x : X) → P x → Q x) → (xs : List X) → AllByRecursion P xs → AllByRecursion Q xs
all_of P Q f [] h = tt
all_of P Q f (x ∷ xs) h = (f x h.0, all_of P Q f xs h.1)

pub all_both : {X : Type 0} (P Q R : X → Type 0) → ((x : X) → P x → Q x → R x) → (xs : List X) → AllByRecursion P xs → AllByRecursion Q xs → AllByRecursion R xs
all_both P Q R f [] h k = tt
all_both P Q R f (x ∷ xs) h k = (f x h.0 k.0, all_both P Q R f xs h.1 k.1)

-- ---- counts

abbrev pub bit : Bool → ℕ
bit b = cond b 1 0

pub count_cons : {X : Type 0} (p : X → Bool) (x : X) (xs : List X) → count_by p (x ∷ xs) ≡ bit (p x) + count_by p xs
count_cons p x xs = sum_by-cons (λ y. bit (p y)) x xs

pub count_append : {X : Type 0} (p : X → Bool) (xs ys : List X) → count_by p (xs ++ ys) ≡ count_by p xs + count_by p ys
count_append p xs ys = sum_by-append (λ y. bit (p y)) xs ys

same_number : (n : ℕ) → nat_eq n n ≡ true
same_number n = eq-eqb n n refl

bit_true : (b : Bool) → b ≡ true → bit b ≡ 1
bit_true true h = refl
bit_true false h = cc

bit_none : (b : Bool) → bit b ≡ 0 → b ≡ false
bit_none true h = cc
bit_none false h = refl

pub none_counted : {X : Type 0} (p : X → Bool) (xs : List X) → count_by p xs ≡ 0 → AllByRecursion (λ x. p x ≡ false) xs
none_counted p [] h = tt
none_counted p (x ∷ xs) h =
    let whole = count_cons p x xs in
    let here : bit (p x) ≡ 0 = omega (arith, whole, h) in
    let rest : count_by p xs ≡ 0 = omega (arith, whole, h) in
    (bit_none (p x) here, none_counted p xs rest)

bit_false : (b : Bool) → b ≡ false → bit b ≡ 0
bit_false true h = cc
bit_false false h = refl

pub count_none : {X : Type 0} (p : X → Bool) (xs : List X) → AllByRecursion (λ x. p x ≡ false) xs → count_by p xs ≡ 0
count_none p [] h = refl
count_none p (x ∷ xs) h =
    let whole = count_cons p x xs in
    let here : bit (p x) ≡ 0 = bit_false (p x) h.0 in
    let rest : count_by p xs ≡ 0 = count_none p xs h.1 in
    omega (arith, whole, here, rest)

-- a number that no other stands for is there once
pub once_each : (xs : List ℕ) → IsDistinct nat_eq xs → (n : ℕ) → count_by (nat_eq n) xs ≤ 1
once_each [] d n = omega arith
once_each (x ∷ xs) d n =
    let whole = count_cons (nat_eq n) x xs in
    elim (nat_eq n x) as (λ b. nat_eq n x ≡ b → count_by (nat_eq n) (x ∷ xs) ≤ 1) [
      | true ↦ λ e.
          let same : n ≡ x = eqb-true n x e in
          let here : bit (nat_eq n x) ≡ 1 = bit_true (nat_eq n x) e in
          let none : count_by (nat_eq n) xs ≡ 0 = ap (λ m. count_by (nat_eq m) xs) same ∙ count_none (nat_eq x) xs (IsDistinct-head nat_eq x xs d) in
          omega (arith, whole, here, none)
      | false ↦ λ e.
          let here : bit (nat_eq n x) ≡ 0 = bit_false (nat_eq n x) e in
          let rest = once_each xs (IsDistinct-tail nat_eq x xs d) n in
          omega (arith, whole, here, rest)
    ] refl

pub distinct_once : (xs : List ℕ) → ((n : ℕ) → count_by (nat_eq n) xs ≤ 1) → IsDistinct nat_eq xs
unfolding IsDistinct
distinct_once [] h = tt
distinct_once (x ∷ xs) h =
    let here : bit (nat_eq x x) ≡ 1 = bit_true (nat_eq x x) (same_number x) in
    let whole = count_cons (nat_eq x) x xs in
    let most = h x in
    let none : count_by (nat_eq x) xs ≡ 0 = omega (arith, whole, here, most) in
    IsDistinct-cons nat_eq x xs (none_counted (nat_eq x) xs none)
    (distinct_once xs (λ n. let all = count_cons (nat_eq n) x xs in let few = h n in omega (arith, all, few)))

-- what holds of each number that stands there holds of all
pub all_counted : (P : ℕ → Type 0) (xs : List ℕ) → ((n : ℕ) → 1 ≤ count_by (nat_eq n) xs → P n) → AllByRecursion P xs
all_counted P [] h = tt
all_counted P (x ∷ xs) h =
    let here : bit (nat_eq x x) ≡ 1 = bit_true (nat_eq x x) (same_number x) in
    let whole = count_cons (nat_eq x) x xs in
    (h x (omega (arith, whole, here)), all_counted P xs (λ n some. let all = count_cons (nat_eq n) x xs in h n (omega (arith, all, some))))

pub counted_all : (P : ℕ → Type 0) (xs : List ℕ) → AllByRecursion P xs → (n : ℕ) → 1 ≤ count_by (nat_eq n) xs → P n
counted_all P [] h n there = absurd (omega (arith, there))
counted_all P (x ∷ xs) h n there =
    let whole = count_cons (nat_eq n) x xs in
    elim (nat_eq n x) as (λ b. nat_eq n x ≡ b → P n) [
      | true ↦ λ e. subst P (sym (eqb-true n x e)) h.0
      | false ↦ λ e.
          let here : bit (nat_eq n x) ≡ 0 = bit_false (nat_eq n x) e in
          counted_all P xs h.1 n (omega (arith, whole, here, there))
    ] refl

-- ---- runs

pub run_append : (a m k : ℕ) → range_with_len a (m + k) ≡ range_with_len a m ++ range_with_len (a + m) k
run_append a zero k = let start : a ≡ a + 0 = omega arith in let many : 0 + k ≡ k = omega arith in
    ap (range_with_len a) many ∙ ap (λ b. range_with_len b k) start
run_append a (suc m) k =
    let next : a + 1 + m ≡ a + suc m = omega arith in
    let many : suc m + k ≡ suc (m + k) = omega arith in
    ap (range_with_len a) many ∙ ap (λ rest. a ∷ rest) (run_append (a + 1) m k ∙ ap (λ b. range_with_len (a + 1) m ++ range_with_len b k) next)
