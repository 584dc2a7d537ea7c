-- Lists of which one element changes.
use Rattle.std.proofs.Common.{◌≡◌, ℕ, zero, suc, ◌<◌, List, [], ◌∷◌, ◌++◌, All, drop, length, map, set, take, refl, sym, ap, ◌∙◌, arith}
use Rattle.std.specs.Prelude.{Some, None, slice_get}

pub none_is_not : {X : Type 0} (x : X) → None ≡ Some x → ⊥
none_is_not x e = cc

pub one_some : {X : Type 0} (x y : X) → Some x ≡ Some y → x ≡ y
one_some x y e = cc

module _ {X Y : Type 0} where
  -- one that is seen the same is there
  pub map_set_same : (p : X → Y) (xs : List X) (k : ℕ) (x y : X) → slice_get xs k ≡ Some x → p y ≡ p x → map p (set xs k y) ≡ map p xs
  map_set_same p [] k x y at same = refl
  map_set_same p (z ∷ xs) zero x y at same = λ i. (same ∙ ap p (sym (one_some z x at))) i ∷ map p xs
  map_set_same p (z ∷ xs) (suc k) x y at same = ap (λ l. p z ∷ l) (map_set_same p xs k x y at same)

  pub set_seen : (p : X → Y) (xs ys : List X) (k : ℕ) (x y : X) → ys ≡ set xs k y → slice_get xs k ≡ Some x → p y ≡ p x → map p ys ≡ map p xs
  set_seen p xs ys k x y is at same = ap (map p) is ∙ map_set_same p xs k x y at same

  pub map_set : (p : X → Y) (xs : List X) (k : ℕ) (y : X) → map p (set xs k y) ≡ set (map p xs) k (p y)
  map_set p [] k y = refl
  map_set p (z ∷ xs) zero y = refl
  map_set p (z ∷ xs) (suc k) y = ap (λ l. p z ∷ l) (map_set p xs k y)

  pub map_get : (p : X → Y) (xs : List X) (k : ℕ) (x : X) → slice_get xs k ≡ Some x → slice_get (map p xs) k ≡ Some (p x)
  map_get p [] k x at = absurd (none_is_not x at)
  map_get p (z ∷ xs) zero x at = ap (λ w. Some (p w)) (one_some z x at)
  map_get p (z ∷ xs) (suc k) x at = map_get p xs k x at

module _ {X : Type 0} where
  pub get_set : (xs : List X) (k : ℕ) (x y : X) → slice_get xs k ≡ Some x → slice_get (set xs k y) k ≡ Some y
  get_set [] k x y at = absurd (none_is_not x at)
  get_set (z ∷ xs) zero x y at = refl
  get_set (z ∷ xs) (suc k) x y at = get_set xs k x y at

  pub got_at : (xs : List X) (k : ℕ) → k < length xs → (x : X) × (slice_get xs k ≡ Some x)
  got_at [] k within = absurd (omega (arith, within))
  got_at (x ∷ xs) zero within = (x, refl)
  got_at (x ∷ xs) (suc k) within = got_at xs k (omega (arith, within))

  pub within_got : (xs : List X) (k : ℕ) (x : X) → slice_get xs k ≡ Some x → k < length xs
  within_got [] k x at = absurd (none_is_not x at)
  within_got (z ∷ xs) zero x at = omega arith
  within_got (z ∷ xs) (suc k) x at = let less = within_got xs k x at in omega (arith, less)

heads : {Z : Type 0} (a b : Z) (xs ys : List Z) → (a ∷ xs) ≡ (b ∷ ys) → a ≡ b
heads a b xs ys e = cc

tails : {Z : Type 0} (a b : Z) (xs ys : List Z) → (a ∷ xs) ≡ (b ∷ ys) → xs ≡ ys
tails a b xs ys e = cc

module _ {X Y Z : Type 0} where
  -- what stands at one place in two lists that are seen the same
  pub at_both : (p : X → Z) (q : Y → Z) (xs : List X) (ys : List Y) (k : ℕ) (x : X) (y : Y) → map p xs ≡ map q ys → slice_get xs k ≡ Some x
      → slice_get ys k ≡ Some y → p x ≡ q y
  at_both p q [] ys k x y same at there = absurd (none_is_not x at)
  at_both p q (z ∷ xs) [] k x y same at there = absurd (none_is_not y there)
  at_both p q (z ∷ xs) (w ∷ ys) zero x y same at there =
      ap p (sym (one_some z x at)) ∙ (heads (p z) (q w) (map p xs) (map q ys) same ∙ ap q (one_some w y there))
  at_both p q (z ∷ xs) (w ∷ ys) (suc k) x y same at there = at_both p q xs ys k x y (tails (p z) (q w) (map p xs) (map q ys) same) at there

pub all_behind : (P : ℕ → Type 0) (xs ys : List ℕ) → All P (xs ++ ys) → All P ys
all_behind P [] ys h = h
all_behind P (x ∷ xs) ys h = all_behind P xs ys (λ k d lt. h (suc k) d (omega (arith, lt)))

-- what is there may be put there
pub set_same : {X : Type 0} (xs : List X) (k : ℕ) (x : X) → slice_get xs k ≡ Some x → xs ≡ set xs k x
set_same [] k x at = refl
set_same (y ∷ xs) zero x at = ap (λ z. z ∷ xs) (one_some y x at)
set_same (y ∷ xs) (suc k) x at = ap (λ l. y ∷ l) (set_same xs k x at)

take_front : {X : Type 0} (xs ys : List X) → take (length xs) (xs ++ ys) ≡ xs
take_front [] ys = refl
take_front (x ∷ xs) ys = ap (λ l. x ∷ l) (take_front xs ys)

-- a vector whose whole slice was changed
pub taken : {X : Type 0} (n : ℕ) (now items : List X) → length now ≡ n → take n (now ++ drop (length now) items) ≡ now
taken n now items long = ap (λ k. take k (now ++ drop (length now) items)) (sym long) ∙ take_front now (drop (length now) items)
