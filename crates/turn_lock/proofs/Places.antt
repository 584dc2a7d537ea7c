-- Numbers that follow one another, and numbers that lie below a bound.
use Rattle.std.proofs.Common.{◌≡◌, ℕ, zero, suc, ◌+◌, ◌<◌, ◌≤◌, ◌==◌, ltb, Bool, true, false, List, [], ◌∷◌, length, get_or, All, arith, refl, ap, sym, subst}
use Rattle.std.proofs.lemmas.Bool.Decides.{nat_tests}
use Rattle.seat_sums.specs.Sums.{times, one_if}
use Rattle.seat_sums.proofs.lemmas.Entries.{below_none}
use Rattle.seat_sums.proofs.lemmas.Totals.{times_cons, below_next}
use Rattle.turn_lock.specs.Rule.{numbers}

pub numbers_times : (k first n : ℕ) → one_if (ltb k first) + times k (numbers first n) ≡ one_if (ltb k (first + n))
numbers_times k first zero = let e : first + 0 ≡ first = omega arith in subst (λ (m : ℕ). one_if (ltb k first) + 0 ≡ one_if (ltb k m)) (sym e) (omega arith)
numbers_times k first (suc n) =
    let e : first + suc n ≡ suc first + n = omega arith in
    let next : one_if (ltb k (suc first)) ≡ one_if (ltb k (first + 1)) = ap (λ (m : ℕ). one_if (ltb k m)) (omega arith) in
    subst (λ (m : ℕ). one_if (ltb k first) + times k (first ∷ numbers (suc first) n) ≡ one_if (ltb k m)) (sym e)
    (omega (arith, times_cons k first (numbers (suc first) n), below_next k first, numbers_times k (suc first) n))

pub below_cons : (high x : ℕ) (xs : List ℕ) → x < high → All (λ k. k < high) xs → All (λ k. k < high) (x ∷ xs)
below_cons high x xs lt all = go
  where
    go : (k d : ℕ) → k < length (x ∷ xs) → get_or (x ∷ xs) k d < high
    go zero d l = lt
    go (suc k) d l = all k d (omega arith)

pub numbers_below : (first n high : ℕ) → first + n ≤ high → All (λ k. k < high) (numbers first n)
numbers_below first zero high le = below_none high
numbers_below first (suc n) high le = below_cons high first (numbers (suc first) n) (omega arith) (numbers_below (suc first) n high (omega arith))

-- the first is k, or k stands in the rest
first_or_rest : (k high x : ℕ) (xs : List ℕ) (b : Bool) → (k == x) ≡ b → x < high → (0 < times k xs → k < high) → 0 < times k (x ∷ xs) → k < high
first_or_rest k high x xs true e lt later some = let same : k ≡ x = grind (arith, nat_tests) in omega arith
first_or_rest k high x xs false e lt later some = later (let c = times_cons k x xs in let z : one_if (k == x) ≡ 0 = ap one_if e in omega arith)

-- what stands in a list that lies below a bound lies below it
pub stands_below : (k high : ℕ) (xs : List ℕ) → All (λ x. x < high) xs → 0 < times k xs → k < high
stands_below k high [] all some = absurd (omega arith)
stands_below k high (x ∷ xs) all some = first_or_rest k high x xs (k == x) refl (all 0 x (omega arith))
    (λ h. stands_below k high xs (λ j d lt. all (suc j) d (omega arith)) h) some
