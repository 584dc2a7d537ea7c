-- When two lists are one: lists that are numbered alike, and lists whose elements are named alike.
use Rattle.std.proofs.Common.{◌≡◌, ℕ, zero, suc, ◌+◌, ◌≤◌, ⊎_elim, List, [], ◌∷◌, map, Contains, refl, sym, ap, subst, arith}
use Rattle.std.specs.List.{range_with_len}
use Rattle.store_reading.proofs.lemmas.Elements.{contains_cases, contains_here, contains_map, contains_none, contains_there}

from_low : (a n y : ℕ) → Contains (range_with_len a n) y → a ≤ y
from_low a zero y h = absurd (contains_none y h)
from_low a (suc n) y h = ⊎_elim (λ e. omega arith) (λ at. let low = from_low (a + 1) n y at in omega arith) (contains_cases a (range_with_len (a + 1) n) y h)

module _ {X : Type 0} (number : X → ℕ) where
  numbered_from : (xs : List X) (a n : ℕ) (x : X) → map number xs ≡ range_with_len a n → Contains xs x → a ≤ number x
  numbered_from xs a n x is h = from_low a n (number x) (subst (λ (ns : List ℕ). Contains ns (number x)) is (contains_map number xs x h))

  -- both are numbered one behind the other, and what the first has the second has
  pub same_numbered : (xs ys : List X) (a n : ℕ) → map number xs ≡ range_with_len a n → map number ys ≡ range_with_len a n
      → ((x : X) → Contains xs x → Contains ys x) → xs ≡ ys
  same_numbered [] [] a n is_x is_y told = refl
  same_numbered [] (y ∷ ys) a zero is_x is_y told = cc
  same_numbered [] (y ∷ ys) a (suc n) is_x is_y told = cc
  same_numbered (x ∷ xs) [] a zero is_x is_y told = cc
  same_numbered (x ∷ xs) [] a (suc n) is_x is_y told = cc
  same_numbered (x ∷ xs) (y ∷ ys) a zero is_x is_y told = cc
  same_numbered (x ∷ xs) (y ∷ ys) a (suc n) is_x is_y told =
      let first_x : number x ≡ a = cc in
      let first_y : number y ≡ a = cc in
      let rest_x : map number xs ≡ range_with_len (a + 1) n = cc in
      let rest_y : map number ys ≡ range_with_len (a + 1) n = cc in
      let head : y ≡ x = ⊎_elim
      (λ e. e)
      (λ at. let low = numbered_from ys (a + 1) n x rest_y at in absurd (omega arith))
      (contains_cases y ys x (told x (contains_here x xs))) in
      let tail : xs ≡ ys = same_numbered xs ys (a + 1) n rest_x rest_y (λ z at. ⊎_elim
      (λ e. let low = numbered_from xs (a + 1) n z rest_x at in let one : number y ≡ number z = ap number e in absurd (omega arith))
      (λ there. there)
      (contains_cases y ys z (told z (contains_there x xs z at)))) in
      λ i. sym head i ∷ tail i

module _ {X K : Type 0} (name : X → K) where
  -- both have the same names in one order, and elements with one name are one
  pub same_named : (xs ys : List X) → map name xs ≡ map name ys → ((x y : X) → Contains xs x → Contains ys y → name x ≡ name y → x ≡ y) → xs ≡ ys
  same_named [] [] is one = refl
  same_named [] (y ∷ ys) is one = cc
  same_named (x ∷ xs) [] is one = cc
  same_named (x ∷ xs) (y ∷ ys) is one =
      let head : name x ≡ name y = cc in
      let tail : map name xs ≡ map name ys = cc in
      let first : x ≡ y = one x y (contains_here x xs) (contains_here y ys) head in
      let rest : xs ≡ ys = same_named xs ys tail (λ u v in_xs in_ys. one u v (contains_there x xs u in_xs) (contains_there y ys v in_ys)) in
      λ i. first i ∷ rest i
