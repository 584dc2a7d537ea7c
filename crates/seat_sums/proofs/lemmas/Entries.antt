-- Entries that are named by their places stay where they are as a history grows.
use Rattle.std.proofs.Common.{◌≡◌, ℕ, zero, suc, ◌<◌, ◌≤◌, List, [], ◌∷◌, ◌++◌, length, All, slice_get, refl, sym, ap, ◌∙◌, arith, append_assoc}
use mathlib.Core.List.{IsPrefix}
use Rattle.seat_sums.specs.Entries.{entry_of, entries_at}

pub below_none : (high : ℕ) → All (λ k. k < high) []
below_none high = λ k d lt. absurd (omega arith)

-- what lies below a bound lies below a higher one
pub below_higher : (low high : ℕ) (xs : List ℕ) → low ≤ high → All (λ k. k < low) xs → All (λ k. k < high) xs
below_higher low high xs le all = λ k d lt. let h = all k d lt in omega arith

module _ {E : Type 0} where
  pub entries_append : (log : List E) (xs ys : List ℕ) → entries_at log (xs ++ ys) ≡ entries_at log xs ++ entries_at log ys
  entries_append log [] ys = refl
  entries_append log (x ∷ xs) ys = ap (λ (l : List E). entry_of (slice_get log x) ++ l) (entries_append log xs ys)
      ∙ sym (append_assoc (entry_of (slice_get log x)) (entries_at log xs) (entries_at log ys))

  -- an entry of the front stands at the same place in the whole
  front_entry : (front rest : List E) (k : ℕ) → k < length front → slice_get (front ++ rest) k ≡ slice_get front k
  front_entry [] rest k lt = absurd (omega arith)
  front_entry (x ∷ xs) rest zero lt = refl
  front_entry (x ∷ xs) rest (suc k) lt = front_entry xs rest k (omega arith)

  pub same_there : (front log : List E) (k : ℕ) → IsPrefix front log → k < length front → slice_get log k ≡ slice_get front k
  same_there front log k p lt = ap (λ (l : List E). slice_get l k) (sym p.1) ∙ front_entry front p.0 k lt

  -- entries stay where they are
  pub entries_longer : (seen log : List E) (ks : List ℕ) → IsPrefix seen log → All (λ k. k < length seen) ks → entries_at log ks ≡ entries_at seen ks
  entries_longer seen log [] p all = refl
  entries_longer seen log (k ∷ ks) p all =
      let here = same_there seen log k p (all 0 k (omega arith)) in
      let later = entries_longer seen log ks p (λ j d lt. all (suc j) d (omega arith)) in
      λ i. entry_of (here i) ++ later i
