-- The numbers that were drawn, from the tickets.
use Rattle.std.proofs.Common.{◌≡◌, ℕ, ◌+◌, ◌-◌, ◌<◌, ◌==◌, List, [], ◌∷◌, ◌++◌, map, refl, sym, ap, subst, ◌∙◌, arith}
use Rattle.std.proofs.lemmas.Bool.Decides.{nat_tests}
use mathlib.Core.Logic.{dite}
use mathlib.Core.List.{map-append}
use native.Mathlib.Decide.{dec_le}
use Rattle.seat_sums.specs.Sums.{times, one_if, IsDistinct}
use Rattle.seat_sums.proofs.lemmas.Totals.{times_cons}

times_moved : (base k : ℕ) (xs : List ℕ) → times (base + k) (map (λ t. base + t) xs) ≡ times k xs
times_moved base k [] = refl
times_moved base k (x ∷ xs) =
    let same : one_if (base + k == base + x) ≡ one_if (k == x) = grind (arith, nat_tests) in
    omega (arith, times_cons (base + k) (base + x) (map (λ (t : ℕ). base + t) xs), times_cons k x xs, times_moved base k xs)

times_low : (base n : ℕ) (xs : List ℕ) → n < base → times n (map (λ t. base + t) xs) ≡ 0
times_low base n [] lt = refl
times_low base n (x ∷ xs) lt =
    let none_here : one_if (n == base + x) ≡ 0 = grind (arith, nat_tests) in
    omega (arith, times_cons n (base + x) (map (λ (t : ℕ). base + t) xs), times_low base n xs lt)

moved_distinct : (base : ℕ) (xs : List ℕ) → IsDistinct xs → IsDistinct (map (λ t. base + t) xs)
moved_distinct base xs distinct n = dite (dec_le base n)
    (λ le.
    let e : n ≡ base + (n - base) = omega arith in
    subst (λ (m : ℕ). times m (map (λ (t : ℕ). base + t) xs) < 2) (sym e) (let h = distinct (n - base) in let s = times_moved base (n - base) xs in omega arith))
    (λ gt. let z = times_low base n xs (omega arith) in omega arith)

-- what two seats drew, from none, is distinct where their tickets are
pub both_distinct : (base : ℕ) (all x y x₀ y₀ p q : List ℕ) → IsDistinct all → all ≡ x ++ y
    → map (λ t. base + t) x ≡ map (λ t. base + t) x₀ ++ p → map (λ t. base + t) y ≡ map (λ t. base + t) y₀ ++ q → x₀ ≡ [] → y₀ ≡ [] → IsDistinct (p ++ q)
both_distinct base all x y x₀ y₀ p q distinct e d d' z z' =
    let f : ℕ → ℕ = λ t. base + t in
    let dp : map f x ≡ p = d ∙ ap (λ (l : List ℕ). map f l ++ p) z in
    let dq : map f y ≡ q = d' ∙ ap (λ (l : List ℕ). map f l ++ q) z' in
    subst IsDistinct (ap (map f) e ∙ (map-append f x y ∙ (λ i. dp i ++ dq i))) (moved_distinct base all distinct)
