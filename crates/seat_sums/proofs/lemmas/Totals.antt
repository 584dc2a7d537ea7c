-- A number of each view, added up: what a change of one view does, and what one view knows of the others.
use Rattle.std.proofs.Common.{◌≡◌, ◌≢◌, ℕ, zero, suc, ◌+◌, ◌<◌, ◌≤◌, ◌==◌, ltb, cond, Bool, true, false, true≢false, List, [], ◌∷◌, ◌++◌, set, sym, refl, ap, subst, ⊎_elim, arith}
use Rattle.std.specs.List.{sum_by}
use Rattle.std.proofs.lemmas.List.Sums.{sum_by-cons, sum_by-append, sum_by_push}
use Rattle.std.proofs.lemmas.Bool.Decides.{nat_tests}
use Rattle.atomic_table.proofs.Lists.{at_set, at_snoc}
use Rattle.seat_sums.specs.Sums.{times, one_if}
use mathlib.Core.Option.{some, some-ne-none, some-injective}
use lib.ListN.{get_elem?}

module _ {V : Type 0} where
  -- a fact of each view, by its number
  abbrev pub Each : (ℕ → V → Type 0) → List V → Type 0
  Each F views = (id : ℕ) (v : V) → get_elem? views id ≡ some v → F id v

  pub total_set : (f : V → ℕ) (views : List V) (id : ℕ) (v w : V) → get_elem? views id ≡ some v → sum_by f (set views id w) + f v ≡ sum_by f views + f w
  total_set f [] id v w at = absurd (some-ne-none v (sym at))
  total_set f (x ∷ xs) zero v w at = let e : f x ≡ f v = ap f (some-injective x v at) in omega (arith, sum_by-cons f w xs, sum_by-cons f x xs)
  total_set f (x ∷ xs) (suc id) v w at = omega (arith, total_set f xs id v w at, sum_by-cons f x (set xs id w), sum_by-cons f x xs)

  pub total_at : (f : V → ℕ) (views : List V) (id : ℕ) (v : V) → get_elem? views id ≡ some v → f v ≤ sum_by f views
  total_at f [] id v at = absurd (some-ne-none v (sym at))
  total_at f (x ∷ xs) zero v at = let e : f x ≡ f v = ap f (some-injective x v at) in omega (arith, sum_by-cons f x xs)
  total_at f (x ∷ xs) (suc id) v at = omega (arith, total_at f xs id v at, sum_by-cons f x xs)

  -- where one view has the whole sum, the others have nothing
  pub total_whole : (f : V → ℕ) (views : List V) (id : ℕ) (v : V) → get_elem? views id ≡ some v → sum_by f views ≡ f v → (j : ℕ) (u : V) → j ≢ id
      → get_elem? views j ≡ some u → f u ≡ 0
  total_whole f [] id v at all j u ne there = absurd (some-ne-none v (sym at))
  total_whole f (x ∷ xs) zero v at all zero u ne there = absurd (ne refl)
  total_whole f (x ∷ xs) zero v at all (suc j) u ne there = let e : f x ≡ f v = ap f (some-injective x v at) in
      omega (arith, total_at f xs j u there, sum_by-cons f x xs)
  total_whole f (x ∷ xs) (suc id) v at all zero u ne there = let e : f x ≡ f u = ap f (some-injective x u there) in
      omega (arith, total_at f xs id v at, sum_by-cons f x xs)
  total_whole f (x ∷ xs) (suc id) v at all (suc j) u ne there = let low = total_at f xs id v at in let c = sum_by-cons f x xs in
      total_whole f xs id v at (omega arith) j u (λ e. ne (ap suc e)) there

  total_none : (f : V → ℕ) (views : List V) → Each (λ _ u. f u ≡ 0) views → sum_by f views ≡ 0
  total_none f [] none = refl
  total_none f (x ∷ xs) none = omega (arith, sum_by-cons f x xs, none 0 x refl, total_none f xs (λ j. none (suc j)))

  -- where the others have nothing, one view has the whole sum
  pub total_only : (f : V → ℕ) (views : List V) (id : ℕ) (v : V) → get_elem? views id ≡ some v
      → ((j : ℕ) (u : V) → j ≢ id → get_elem? views j ≡ some u → f u ≡ 0) → sum_by f views ≡ f v
  total_only f [] id v at none = absurd (some-ne-none v (sym at))
  total_only f (x ∷ xs) zero v at none =
      let e : f x ≡ f v = ap f (some-injective x v at) in
      omega (arith, sum_by-cons f x xs, total_none f xs (λ j u there. none (suc j) u (λ z. omega arith) there))
  total_only f (x ∷ xs) (suc id) v at none =
      omega (
        arith,
        sum_by-cons f x xs,
        none 0 x (λ z. omega arith) refl,
        total_only f xs id v at
            (λ j u ne there. none (suc j) u (λ z. ne (omega arith)) there),
      )

  pub total_le : (f g : V → ℕ) (views : List V) → Each (λ _ u. f u ≤ g u) views → sum_by f views ≤ sum_by g views
  total_le f g [] le = omega arith
  total_le f g (x ∷ xs) le = omega (arith, sum_by-cons f x xs, sum_by-cons g x xs, le 0 x refl, total_le f g xs (λ j. le (suc j)))

  -- where no view has more of f than of g, and one has less, so have all
  pub total_lt : (f g : V → ℕ) (views : List V) (id : ℕ) (v : V) → get_elem? views id ≡ some v → f v < g v → Each (λ _ u. f u ≤ g u) views
      → sum_by f views < sum_by g views
  total_lt f g [] id v at lt le = absurd (some-ne-none v (sym at))
  total_lt f g (x ∷ xs) zero v at lt le =
      let e : f x ≡ f v = ap f (some-injective x v at) in let e' : g x ≡ g v = ap g (some-injective x v at) in
      omega (arith, sum_by-cons f x xs, sum_by-cons g x xs, total_le f g xs (λ j. le (suc j)))
  total_lt f g (x ∷ xs) (suc id) v at lt le = omega (arith, sum_by-cons f x xs, sum_by-cons g x xs, le 0 x refl, total_lt f g xs id v at lt (λ j. le (suc j)))

  pub total_two : (f : V → ℕ) (views : List V) (id other : ℕ) (v w : V) → other ≢ id → get_elem? views id ≡ some v → get_elem? views other ≡ some w
      → f v + f w ≤ sum_by f views
  total_two f [] id other v w ne at there = absurd (some-ne-none v (sym at))
  total_two f (x ∷ xs) zero zero v w ne at there = absurd (ne refl)
  total_two f (x ∷ xs) zero (suc j) v w ne at there = let e : f x ≡ f v = ap f (some-injective x v at) in
      omega (arith, sum_by-cons f x xs, total_at f xs j w there)
  total_two f (x ∷ xs) (suc i) zero v w ne at there = let e : f x ≡ f w = ap f (some-injective x w there) in
      omega (arith, sum_by-cons f x xs, total_at f xs i v at)
  total_two f (x ∷ xs) (suc i) (suc j) v w ne at there = omega (arith, sum_by-cons f x xs, total_two f xs i j v w (λ e. ne (ap suc e)) at there)

  pub each_set : (F : ℕ → V → Type 0) (views : List V) (id : ℕ) (w : V) → F id w → ((j : ℕ) (u : V) → j ≢ id → get_elem? views j ≡ some u → F j u)
      → Each F (set views id w)
  each_set F views id w mine others j u there =
      ⊎_elim
      (λ (x : (j ≡ id) × (w ≡ u)). subst (λ (y : ℕ × V). F y.0 y.1) (λ i. (sym x.0 i, x.1 i)) mine)
      (λ (x : (j ≢ id) × (get_elem? views j ≡ some u)). others j u x.0 x.1)
      (at_set views id j w u there)

  -- where the fact names no seat
  pub each_snoc : (F : V → Type 0) (views : List V) (w : V) → F w → Each (λ _. F) views → Each (λ _. F) (views ++ w ∷ [])
  each_snoc F views w mine others j u there = ⊎_elim (λ x. others j u x) (λ (x : w ≡ u). subst F x mine) (at_snoc views w u j there)

  -- a view that stands in a list with one view replaced stood there before, unless it is the new one
  pub was_there : (views : List V) (id other : ℕ) (w u : V) → other ≢ id → get_elem? (set views id w) other ≡ some u → get_elem? views other ≡ some u
  was_there views id other w u ne there = ⊎_elim (λ (x : (other ≡ id) × (w ≡ u)). absurd (ne x.0))
      (λ (x : (other ≢ id) × (get_elem? views other ≡ some u)). x.1) (at_set views id other w u there)

pub times_cons : (n x : ℕ) (xs : List ℕ) → times n (x ∷ xs) ≡ one_if (n == x) + times n xs
times_cons n x xs = sum_by-cons (λ (y : ℕ). cond (n == y) 1 0) x xs

-- how often n stands in a list with one more
pub times_push : (n : ℕ) (xs : List ℕ) (x : ℕ) → times n (xs ++ x ∷ []) ≡ times n xs + one_if (n == x)
times_push n xs x = sum_by_push (λ (y : ℕ). cond (n == y) 1 0) xs x

pub times_append : (n : ℕ) (xs ys : List ℕ) → times n (xs ++ ys) ≡ times n xs + times n ys
times_append n xs ys = sum_by-append (λ (y : ℕ). cond (n == y) 1 0) xs ys

-- n is below the next number, or it is that number
pub below_next : (n next : ℕ) → one_if (ltb n next) + one_if (n == next) ≡ one_if (ltb n (next + 1))
below_next n next = grind (arith, nat_tests)

pub one_if_below : (n high : ℕ) → 0 < one_if (ltb n high) → n < high
one_if_below n high one = grind (arith, nat_tests)

pub below_one_if : (n high : ℕ) → n < high → one_if (ltb n high) ≡ 1
below_one_if n high lt = grind (arith, nat_tests)

pub one_if_le : (b : Bool) → one_if b ≤ 1
one_if_le true = omega arith
one_if_le false = omega arith

pub one_if_true : (b : Bool) → b ≡ true → one_if b ≡ 1
one_if_true true e = refl
one_if_true false e = absurd (true≢false (sym e))
