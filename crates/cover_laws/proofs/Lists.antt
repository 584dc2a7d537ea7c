-- Where elements of lists stand, and lists that are split in two ways.
use Rattle.std.proofs.Common.{◌≡◌, ◌⊎◌, inl, inr, zero, suc, Bool, true, List, [], ◌∷◌, ◌++◌, Contains, find, flat_map, get_or, drop, map, arith, refl, sym, ap, subst, ◌∙◌}
use Rattle.std.specs.Prelude.{Option, Some, None}
use Rattle.std.specs.List.{filter}
use Rattle.std.specs.Option.{option_map}
use Rattle.std.proofs.lemmas.Bool.{cases_Bool}
use Rattle.std.proofs.lemmas.List.Elements.{Contains-append_left, Contains-append_right}
use Rattle.model_laws.proofs.LockLists.{among_from, contains_from, filter_source, kept_map}

-- ---- where an element stands

pub contains_first : {X : Type 0} (x : X) (xs : List X) → Contains (x ∷ xs) x
contains_first x xs = (0, omega arith, refl)

contains_later : {X : Type 0} (y : X) (xs : List X) (x : X) → Contains xs x → Contains (y ∷ xs) x
contains_later y xs x (k, within, at) = (suc k, omega (arith, within), at)

module _ {A : Type 0} (test : A → Bool) where
  pub found_passes : (xs : List A) (x : A) → find test xs ≡ Some x → test x ≡ true
  found_passes [] x h = absurd (cc)
  found_passes (y ∷ xs) x h =
      elim (cases_Bool (test y)) [
        | inl here ↦ let k = rw here at h in let is : y ≡ x = cc in ap test (sym is) ∙ here
        | inr later ↦ found_passes xs x (rw later at h)
      ]

  pub found_stands : (xs : List A) (x : A) → find test xs ≡ Some x → Contains xs x
  found_stands [] x h = absurd (cc)
  found_stands (y ∷ xs) x h =
      elim (cases_Bool (test y)) [
        | inl here ↦ let k = rw here at h in let is : y ≡ x = cc in subst (λ z. Contains (z ∷ xs) x) (sym is) (contains_first x xs)
        | inr later ↦ contains_later y xs x (found_stands xs x (rw later at h))
      ]

  -- what a filter leaves stood there
  pub contains_all : (xs : List A) (x : A) → Contains (filter test xs) x → Contains xs x
  contains_all xs x h = contains_from xs x (filter_source test xs x (among_from (filter test xs) x h)).0

-- an element of what an element is turned into
pub stands_in_flat : {A B : Type 0} (f : A → List B) (xs : List A) (x : A) (y : B) → Contains xs x → Contains (f x) y → Contains (flat_map f xs) y
stands_in_flat f [] x y (k, within, at) inside = absurd (omega (arith, within))
stands_in_flat f (z ∷ xs) x y (zero, within, at) inside =
    Contains-append_left (f z) (flat_map f xs) y (subst (λ w. Contains (f w) y) (sym at) inside)
stands_in_flat f (z ∷ xs) x y (suc k, within, at) inside =
    Contains-append_right (f z) (flat_map f xs) y (stands_in_flat f xs x y (k, omega (arith, within), at) inside)

pub stands_mapped : {A B : Type 0} (f : A → B) (xs : List A) (x : A) → Contains xs x → Contains (map f xs) (f x)
stands_mapped f xs x h = contains_from (map f xs) (f x) (kept_map f xs x (among_from xs x h))

-- what there is of a mapped option comes from what there was
pub mapped_from : {X Y : Type 0} (f : X → Y) (o : Option X) (y : Y) → option_map f o ≡ Some y → (x : X) × ((o ≡ Some x) × (f x ≡ y))
mapped_from f None y e = absurd cc
mapped_from f (Some x) y e = (x, (refl, cc))

pub none_from : {X Y : Type 0} (f : X → Y) (o : Option X) → option_map f o ≡ None → o ≡ None
none_from f None e = refl
none_from f (Some x) e = absurd cc

-- ---- lists that are split in two ways

pub same_head : {X : Type 0} (x y : X) (xs ys : List X) → x ∷ xs ≡ y ∷ ys → x ≡ y
same_head x y xs ys e = ap (λ zs. get_or zs 0 x) e

pub same_tail : {X : Type 0} (x y : X) (xs ys : List X) → x ∷ xs ≡ y ∷ ys → xs ≡ ys
same_tail x y xs ys e = ap (λ zs. drop 1 zs) e

pub never_empty : {X : Type 0} (xs ys : List X) (y : X) → [] ≡ xs ++ y ∷ ys → ⊥
never_empty [] ys y e = cc
never_empty (x ∷ xs) ys y e = cc

-- an element of two lists, one behind the other, stands in the first or in the second
pub split_in_two : {X : Type 0} (xs ys earlier later : List X) (y : X) → xs ++ ys ≡ earlier ++ y ∷ later
    → ((mid : List X) × (xs ≡ earlier ++ y ∷ mid)) ⊎ ((mid : List X) × ((earlier ≡ xs ++ mid) × (ys ≡ mid ++ y ∷ later)))
split_in_two [] ys earlier later y e = inr (earlier, (refl, e))
split_in_two (x ∷ xs) ys [] later y e = inl (xs, ap (λ z. z ∷ xs) (same_head x y (xs ++ ys) later e))
split_in_two (x ∷ xs) ys (z ∷ zs) later y e =
    let first = same_head x z (xs ++ ys) (zs ++ y ∷ later) e in
    elim (split_in_two xs ys zs later y (same_tail x z (xs ++ ys) (zs ++ y ∷ later) e)) [
      | inl h ↦ inl (h.0, λ i. first i ∷ h.1 i)
      | inr h ↦ inr (h.0, ((λ i. sym first i ∷ h.1.0 i), h.1.1))
    ]
