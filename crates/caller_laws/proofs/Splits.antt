-- A list whose image is known, taken apart as that is.
use Rattle.std.proofs.Common.{◌≡◌, List, [], ◌∷◌, ◌++◌, map, refl, sym, ap, ◌∙◌}
use Rattle.std.specs.List.{AllByRecursion}

-- the image is two lists, one behind the other
pub record Split {X Y : Type 0} (f : X → Y) (all : List X) (xs ys : List Y) : Type 0 where
  pub front : List X
  pub back : List X
  pub same : all ≡ front ++ back
  pub first : map f front ≡ xs
  pub last : map f back ≡ ys

-- or one element before a list
pub record Headed {X Y : Type 0} (f : X → Y) (all : List X) (y : Y) (ys : List Y) : Type 0 where
  pub head : X
  pub rest : List X
  pub same : all ≡ head ∷ rest
  pub first : f head ≡ y
  pub last : map f rest ≡ ys

module _ {X : Type 0} where
  no_first : (xs ys : List X) (x : X) → [] ≡ xs ++ x ∷ ys → ⊥
  no_first [] ys x e = cc
  no_first (z ∷ zs) ys x e = cc

  pub no_head : (x : X) (xs : List X) → [] ≡ x ∷ xs → ⊥
  no_head x xs e = cc

  pub same_head : (x y : X) (xs ys : List X) → x ∷ xs ≡ y ∷ ys → x ≡ y
  same_head x y xs ys e = cc

  pub same_rest : (x y : X) (xs ys : List X) → x ∷ xs ≡ y ∷ ys → xs ≡ ys
  same_rest x y xs ys e = cc

  pub no_push : (xs : List X) (x : X) → [] ≡ xs ++ x ∷ [] → ⊥
  no_push xs x e = no_first xs [] x e

module _ {X Y : Type 0} (f : X → Y) where
  pub split : (all : List X) (xs ys : List Y) → map f all ≡ xs ++ ys → Split f all xs ys
  split all [] ys e = record { front = []; back = all; same = refl; first = refl; last = e }
  split [] (y ∷ xs) ys e = absurd (no_head y (xs ++ ys) e)
  split (x ∷ all) (y ∷ xs) ys e =
      let h = split all xs ys (same_rest (f x) y (map f all) (xs ++ ys) e) in
      record {
        front = x ∷ h.front;
        back = h.back;
        same = ap (λ l. x ∷ l) h.same;
        first = ap (λ l. f x ∷ l) h.first ∙ ap (λ z. z ∷ xs) (same_head (f x) y (map f all) (xs ++ ys) e);
        last = h.last;
      }

  pub headed : (all : List X) (y : Y) (ys : List Y) → map f all ≡ y ∷ ys → Headed f all y ys
  headed [] y ys e = absurd (no_head y ys e)
  headed (x ∷ all) y ys e = record {
    head = x;
    rest = all;
    same = refl;
    first = same_head (f x) y (map f all) ys e;
    last = same_rest (f x) y (map f all) ys e;
  }

  pub mapped_none : (all : List X) → map f all ≡ [] → all ≡ []
  mapped_none [] e = refl
  mapped_none (x ∷ all) e = absurd (no_head (f x) (map f all) (sym e))

-- ---- what holds of each

module _ {X : Type 0} (P : X → Type 0) where
  pub all_before : (xs ys : List X) → AllByRecursion P (xs ++ ys) → AllByRecursion P xs
  all_before [] ys h = tt
  all_before (x ∷ xs) ys h = (h.0, all_before xs ys h.1)

  pub all_behind : (xs ys : List X) → AllByRecursion P (xs ++ ys) → AllByRecursion P ys
  all_behind [] ys h = h
  all_behind (x ∷ xs) ys h = all_behind xs ys h.1
