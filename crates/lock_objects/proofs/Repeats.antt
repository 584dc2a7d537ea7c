-- A walk that looks for a name that stood before.
use Rattle.std.proofs.Common.{◌≡◌, ℕ, ◌+◌, ◌<◌, List, [], ◌∷◌, ◌++◌, true, false, cond, get_or, take, drop, map, length, Some, sym, ◌∙◌, ap}
use Rattle.std.specs.List.{list_any}
use Rattle.std.specs.Str.{bytes_eq}
use Rattle.std.proofs.lemmas.List.{drop_more, take_more, map-append}
use Rattle.lock_entry.proofs.lemmas.Lists.{list_any-map}
use Rattle.lock_objects.specs.Objects.{repeat_after}

module _ {X : Type 0} (f : X → List ℕ) (xs : List X) (i : ℕ) (x : X) (below : i < length xs) (read : x ≡ get_or xs i x) where
  longer : take i xs ++ x ∷ [] ≡ take (i + 1) xs
  longer = sym (take_more xs i x below ∙ ap (λ (y : X). take i xs ++ y ∷ []) (sym read))

  split : drop i xs ≡ x ∷ drop (i + 1) xs
  split = drop_more xs i x below ∙ ap (λ (y : X). y ∷ drop (i + 1) xs) (sym read)

  repeat-step : repeat_after (map f (take i xs)) (map f (drop i xs)) ≡ cond (list_any (bytes_eq (f x)) (map f (take i xs))) (Some (f x))
      (repeat_after (map f (take (i + 1) xs)) (map f (drop (i + 1) xs)))
  repeat-step =
      ap (λ (r : List X). repeat_after (map f (take i xs)) (map f r)) split
      ∙ ap (λ (b : List (List ℕ)). cond (list_any (bytes_eq (f x)) (map f (take i xs))) (Some (f x)) (repeat_after b (map f (drop (i + 1) xs))))
      (sym (map-append f (take i xs) (x ∷ [])) ∙ ap (map f) longer)

  -- the name stands before
  pub repeat-found : list_any (λ y. bytes_eq (f x) (f y)) (take i xs) ≡ true → repeat_after (map f (take i xs)) (map f (drop i xs)) ≡ Some (f x)
  repeat-found k = let h = list_any-map (bytes_eq (f x)) f (take i xs) ∙ k in
      repeat-step ∙ ap (λ b. cond b (Some (f x)) (repeat_after (map f (take (i + 1) xs)) (map f (drop (i + 1) xs)))) h

  pub repeat-more : list_any (λ y. bytes_eq (f x) (f y)) (take i xs) ≡ false
      → repeat_after (map f (take i xs)) (map f (drop i xs)) ≡ repeat_after (map f (take (i + 1) xs)) (map f (drop (i + 1) xs))
  repeat-more k = let h = list_any-map (bytes_eq (f x)) f (take i xs) ∙ k in
      repeat-step ∙ ap (λ b. cond b (Some (f x)) (repeat_after (map f (take (i + 1) xs)) (map f (drop (i + 1) xs)))) h
