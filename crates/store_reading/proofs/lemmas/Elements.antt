-- What a list contains, element by element.
use Rattle.std.proofs.Common.{◌≡◌, ℕ, zero, suc, ◌⊎◌, inl, inr, ⊎_elim, map, List, [], ◌∷◌, flat_map, Contains, refl, sym, subst, arith}
use Rattle.std.specs.List.{AllByRecursion}
use Rattle.std.proofs.lemmas.List.Elements.{Contains-append_cases, Contains-append_left, Contains-append_right}

module _ {X : Type 0} where
  pub contains_none : (x : X) → Contains [] x → ⊥
  contains_none x h = let low = h.1 in omega arith

  pub contains_here : (x : X) (xs : List X) → Contains (x ∷ xs) x
  contains_here x xs = (0, omega arith, refl)

  pub contains_there : (y : X) (xs : List X) (x : X) → Contains xs x → Contains (y ∷ xs) x
  contains_there y xs x h = let low = h.1 in (suc h.0, omega arith, h.2)

  contains_at : (y : X) (xs : List X) (x : X) (k : ℕ) → Contains (y ∷ xs) x → (y ≡ x) ⊎ Contains xs x
  contains_at y xs x k (zero, low, is) = inl is
  contains_at y xs x k (suc n, low, is) = inr (n, omega arith, is)

  pub contains_cases : (y : X) (xs : List X) (x : X) → Contains (y ∷ xs) x → (y ≡ x) ⊎ Contains xs x
  contains_cases y xs x h = contains_at y xs x 0 h

  pub each_contained : (P : X → Type 0) (xs : List X) → ((x : X) → Contains xs x → P x) → AllByRecursion P xs
  each_contained P [] h = tt
  each_contained P (x ∷ xs) h = (h x (contains_here x xs), each_contained P xs (λ y at. h y (contains_there x xs y at)))

  pub all_contained : (P : X → Type 0) (xs : List X) (x : X) → AllByRecursion P xs → Contains xs x → P x
  all_contained P [] x all h = absurd (contains_none x h)
  all_contained P (y ∷ xs) x all h = ⊎_elim (λ e. subst P e all.0) (λ at. all_contained P xs x all.1 at) (contains_cases y xs x h)

module _ {X Y : Type 0} where
  pub contains_map : (f : X → Y) (xs : List X) (x : X) → Contains xs x → Contains (map f xs) (f x)
  contains_map f [] x h = absurd (contains_none x h)
  contains_map f (y ∷ xs) x h =
      ⊎_elim (λ e. subst (λ z. Contains (map f (y ∷ xs)) (f z)) e (contains_here (f y) (map f xs)))
      (λ at. contains_there (f y) (map f xs) (f x) (contains_map f xs x at)) (contains_cases y xs x h)

  pub of_map : (f : X → Y) (xs : List X) (z : Y) → Contains (map f xs) z → (x : X) × Contains xs x × (f x ≡ z)
  of_map f [] z h = absurd (contains_none z h)
  of_map f (y ∷ xs) z h =
      ⊎_elim (λ e. (y, contains_here y xs, e)) (λ at. let r = of_map f xs z at in (r.0, contains_there y xs r.0 r.1, r.2)) (contains_cases (f y) (map f xs) z h)

  pub contains_flat : (f : X → List Y) (xs : List X) (x : X) (z : Y) → Contains xs x → Contains (f x) z → Contains (flat_map f xs) z
  contains_flat f [] x z h at = absurd (contains_none x h)
  contains_flat f (y ∷ xs) x z h at =
      ⊎_elim (λ e. Contains-append_left (f y) (flat_map f xs) z (subst (λ w. Contains (f w) z) (sym e) at))
      (λ there. Contains-append_right (f y) (flat_map f xs) z (contains_flat f xs x z there at)) (contains_cases y xs x h)

  pub of_flat : (f : X → List Y) (xs : List X) (z : Y) → Contains (flat_map f xs) z → (x : X) × Contains xs x × Contains (f x) z
  of_flat f [] z h = absurd (contains_none z h)
  of_flat f (y ∷ xs) z h =
      ⊎_elim (λ at. (y, contains_here y xs, at)) (λ at. let r = of_flat f xs z at in (r.0, contains_there y xs r.0 r.1, r.2))
      (Contains-append_cases (f y) (flat_map f xs) z h)
