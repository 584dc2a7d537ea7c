-- What a list contains, element by element.
use Rattle.std.proofs.Common.{◌≡◌, ℕ, zero, suc, ◌⊎◌, inl, inr, ⊎_elim, map, List, [], ◌∷◌, Some, slice_get, Contains, refl, subst, arith}

module _ {X : Type 0} where
  pub contains_none : (x : X) → Contains [] x → ⊥
  contains_none x h = let low = h.1 in omega arith

  pub contains_here : (x : X) (xs : List X) → Contains (x ∷ xs) x
  contains_here x xs = (0, omega arith, refl)

  pub contains_there : (y : X) (xs : List X) (x : X) → Contains xs x → Contains (y ∷ xs) x
  contains_there y xs x h = let low = h.1 in (suc h.0, omega arith, h.2)

  contains_at : (y : X) (xs : List X) (x : X) → Contains (y ∷ xs) x → (y ≡ x) ⊎ Contains xs x
  contains_at y xs x (zero, low, is) = inl is
  contains_at y xs x (suc n, low, is) = inr (n, omega arith, is)

  pub contains_cases : (y : X) (xs : List X) (x : X) → Contains (y ∷ xs) x → (y ≡ x) ⊎ Contains xs x
  contains_cases y xs x h = contains_at y xs x h

  pub contains_got : (xs : List X) (n : ℕ) (x : X) → slice_get xs n ≡ Some x → Contains xs x
  contains_got [] n x h = cc
  contains_got (y ∷ ys) zero x h = let same : y ≡ x = cc in subst (λ z. Contains (y ∷ ys) z) same (contains_here y ys)
  contains_got (y ∷ ys) (suc n) x h = contains_there y ys x (contains_got ys n x h)

module _ {X Y : Type 0} where
  pub contains_map : (f : X → Y) (xs : List X) (x : X) → Contains xs x → Contains (map f xs) (f x)
  contains_map f [] x h = absurd (contains_none x h)
  contains_map f (y ∷ xs) x h =
      ⊎_elim (λ e. subst (λ z. Contains (map f (y ∷ xs)) (f z)) e (contains_here (f y) (map f xs)))
      (λ at. contains_there (f y) (map f xs) (f x) (contains_map f xs x at)) (contains_cases y xs x h)

  pub of_map : (f : X → Y) (xs : List X) (z : Y) → Contains (map f xs) z → (x : X) × Contains xs x × (f x ≡ z)
  of_map f [] z h = absurd (contains_none z h)
  of_map f (y ∷ xs) z h =
      ⊎_elim (λ e. (y, contains_here y xs, e)) (λ at. let r = of_map f xs z at in (r.0, contains_there y xs r.0 r.1, r.2)) (contains_cases (f y) (map f xs) z h)
