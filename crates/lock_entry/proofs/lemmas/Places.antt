-- Places in lists: the first element that passes a test.
use Rattle.std.proofs.Common.{◌≡◌, ℕ, zero, suc, ◌+◌, ◌<◌, List, [], ◌∷◌, ◌++◌, Bool, true, false, cond, nat_lt, length, map, take, drop, get_or, set, Option, Some, None, sym, ◌∙◌, ap, refl, arith, inl, inr}
use Rattle.std.specs.Prelude.{option_map}
use Rattle.std.specs.List.{list_any, position_or_len, position, find, slice_get}
use Rattle.std.specs.Option.{option_or}
use Rattle.std.proofs.lemmas.Bool.{cases_Bool, ltb-true, ltb-false, lt-ltb}
use Rattle.std.proofs.lemmas.Bool.Decides.{nat_tests}
use Rattle.std.proofs.lemmas.List.{drop_all, take_all, take_more, length-take-le, append-nil}
use Rattle.std.proofs.lemmas.List.Edits.{map_over_more}
use Rattle.std.proofs.lemmas.List.Folds.{find_at, find-append}
use Rattle.std.proofs.lemmas.Option.{slice_get_past}
use Rattle.lock_entry.specs.Freeing.{replace_first}

ltb-more : (n m : ℕ) → nat_lt (1 + n) (suc m) ≡ nat_lt n m
ltb-more n m = grind (arith, nat_tests)

-- some element passes the test exactly where the first such place is within the list
pub list_any-position : {X : Type 0} (p : X → Bool) (xs : List X) → list_any p xs ≡ nat_lt (position_or_len p xs) (length xs)
list_any-position p [] = refl
list_any-position p (x ∷ xs) =
    elim (cases_Bool (p x)) [
      | inl e ↦ rw e (sym (lt-ltb 0 (suc (length xs)) (omega arith)))
      | inr e ↦ rw e
          (list_any-position p xs ∙ sym (ltb-more (position_or_len p xs) (length xs)))
    ]

-- no element passes
pub replace_first-none : {X : Type 0} (p : X → Bool) (f : X → List X) (xs : List X) → list_any p xs ≡ false → replace_first p f xs ≡ xs
replace_first-none p f [] h = refl
replace_first-none p f (x ∷ xs) h =
    elim (cases_Bool (p x)) [
      | inl e ↦ absurd (let k = rw e at h in cc)
      | inr e ↦ let k = rw e at h in rw e (ap (λ ys. x ∷ ys) (replace_first-none p f xs k))
    ]

-- the element at the first such place is replaced
pub replace_first-at : {X : Type 0} (p : X → Bool) (f : X → List X) (xs : List X) (i : ℕ) (d : X) → position_or_len p xs ≡ i → i < length xs
    → replace_first p f xs ≡ take i xs ++ (f (get_or xs i d) ++ drop (suc i) xs)
replace_first-at p f [] i d e h = absurd (omega arith)
replace_first-at p f (x ∷ xs) zero d e h =
    elim (cases_Bool (p x)) [
      | inl t ↦ rw t refl
      | inr t ↦ let k = rw t at e in let none : 1 + position_or_len p xs ≡ 0 = k in absurd (omega arith)
    ]
replace_first-at p f (x ∷ xs) (suc i) d e h =
    elim (cases_Bool (p x)) [
      | inl t ↦ let k = rw t at e in let none : 0 ≡ suc i = k in absurd (omega arith)
      | inr t ↦
          let k = rw t at e in
          let next : 1 + position_or_len p xs ≡ suc i = k in
          let here : position_or_len p xs ≡ i = omega arith in
          let within : i < length xs = omega arith in
          rw t (ap (λ ys. x ∷ ys) (replace_first-at p f xs i d here within))
    ]

-- what `position` says of the list
pub position-None : {X : Type 0} (p : X → Bool) (xs : List X) → position p xs ≡ None → list_any p xs ≡ false
position-None p xs h =
    elim (cases_Bool (nat_lt (position_or_len p xs) (length xs))) [
      | inl e ↦ absurd (let k = rw e at h in cc)
      | inr e ↦ list_any-position p xs ∙ e
    ]

pub position-Some : {X : Type 0} (p : X → Bool) (xs : List X) (i : ℕ) → position p xs ≡ Some i → (position_or_len p xs ≡ i) × (i < length xs)
position-Some p xs i h =
    elim (cases_Bool (nat_lt (position_or_len p xs) (length xs))) [
      | inl e ↦
          let k = rw e at h in
          let at : position_or_len p xs ≡ i = cc in
          let below : position_or_len p xs < length xs = ltb-true _ _ e in
          (at, omega arith)
      | inr e ↦ absurd (let k = rw e at h in cc)
    ]

pub position-find_none : {X : Type 0} (p : X → Bool) (xs : List X) → position p xs ≡ None → find p xs ≡ None
position-find_none p xs h =
    elim (cases_Bool (nat_lt (position_or_len p xs) (length xs))) [
      | inl e ↦ absurd (let k = rw e at h in cc)
      | inr e ↦ find_at p xs ∙ slice_get_past xs (position_or_len p xs) (ltb-false _ _ e)
    ]

pub position-find_some : {X : Type 0} (p : X → Bool) (xs : List X) (i : ℕ) → position p xs ≡ Some i → find p xs ≡ slice_get xs i
position-find_some p xs i h = rw (position-Some p xs i h).0 at (find_at p xs)

pub position-any : {X : Type 0} (p : X → Bool) (xs : List X) (i : ℕ) → position p xs ≡ Some i → list_any p xs ≡ true
position-any p xs i h =
    let at = position-Some p xs i h in
    let below : position_or_len p xs < length xs = rw at.0 at.1 in
    list_any-position p xs ∙ lt-ltb _ _ below

pub position-replace : {X : Type 0} (p : X → Bool) (f : X → List X) (xs : List X) (i : ℕ) (d : X) → position p xs ≡ Some i
    → replace_first p f xs ≡ take i xs ++ (f (get_or xs i d) ++ drop (suc i) xs)
position-replace p f xs i d h =
    let at = position-Some p xs i h in replace_first-at p f xs i d at.0 at.1

-- a vector whose slice was written has the written list
pub write_back : {X : Type 0} (n : ℕ) (old new : List X) → length new ≡ length old → length old ≡ n → take n (new ++ drop (length new) old) ≡ new
write_back n old new h k =
    let past : drop (length new) old ≡ [] = drop_all (length new) old (omega arith) in
    rw (past, append-nil new) (take_all n new (omega arith))

-- one step of a walk that rewrites each element where it stands
pub map_written : {X : Type 0} (f : X → X) (xs ys : List X) (i : ℕ) (x y : X) → i < length xs → ys ≡ map f (take i xs) ++ drop i xs → x ≡ get_or ys i x
    → y ≡ f (get_or ys i x) → set ys i y ≡ map f (take (i + 1) xs) ++ drop (i + 1) xs
map_written f xs ys i x y below walked read turned = rw (turned ∙ ap f (sym read)) (map_over_more f xs ys i x below walked read)

-- the first place of a list that begins with one more element
position-cons : {X : Type 0} (p : X → Bool) (x : X) (xs : List X) → position p (x ∷ xs) ≡ cond (p x) (Some 0) (option_map (λ i. i + 1) (position p xs))
position-cons p x xs =
    elim (cases_Bool (p x)) [
      | inl e ↦ rw e (ap (λ b. cond b (Some 0) None) (lt-ltb 0 (suc (length xs)) (omega arith)))
      | inr e ↦ rw e (ap (λ b. cond b (Some (1 + position_or_len p xs)) None) (ltb-more (position_or_len p xs) (length xs))
          ∙ moved (nat_lt (position_or_len p xs) (length xs)) (position_or_len p xs))
    ]
  where
    moved : (b : Bool) (n : ℕ) → cond b (Some (1 + n)) None ≡ option_map (λ i. i + 1) (cond b (Some n) None)
    moved true n = ap (λ (k : ℕ). Some k) (let s : 1 + n ≡ n + 1 = omega arith in s)
    moved false n = refl

-- the first place of a list that ends with one more element
position-push : {X : Type 0} (p : X → Bool) (xs : List X) (y : X) → position p (xs ++ y ∷ []) ≡ option_or (position p xs) (cond (p y) (Some (length xs)) None)
position-push p [] y = position-cons p y []
position-push p (x ∷ xs) y =
    position-cons p x (xs ++ y ∷ [])
    ∙ ap (λ (o : Option ℕ). cond (p x) (Some 0) (option_map (λ i. i + 1) o)) (position-push p xs y)
    ∙ moved (p x) (position p xs) (p y)
    ∙ ap (λ (o : Option ℕ). option_or o (cond (p y) (Some (suc (length xs))) None)) (sym (position-cons p x xs))
  where
    last : (c : Bool) → option_map (λ i. i + 1) (cond c (Some (length xs)) None) ≡ cond c (Some (suc (length xs))) None
    last true = ap (λ (k : ℕ). Some k) (let s : length xs + 1 ≡ suc (length xs) = omega arith in s)
    last false = refl

    moved : (b : Bool) (o : Option ℕ) (c : Bool) → cond b (Some 0) (option_map (λ i. i + 1) (option_or o (cond c (Some (length xs)) None))) ≡ option_or
        (cond b (Some 0) (option_map (λ i. i + 1) o)) (cond c (Some (suc (length xs))) None)
    moved true o c = refl
    moved false None c = last c
    moved false (Some i) c = refl

-- one step of a walk that looks for the first place
pub position-more : {X : Type 0} (p : X → Bool) (xs : List X) (i : ℕ) (x : X) → i < length xs → x ≡ get_or xs i x
    → position p (take (i + 1) xs) ≡ option_or (position p (take i xs)) (cond (p x) (Some i) None)
position-more {X = X} p xs i x h r =
    let long : length (take i xs) ≡ i = length-take-le i xs (omega arith) in
    let longer : take (i + 1) xs ≡ take i xs ++ x ∷ [] = take_more xs i x h ∙ ap (λ (y : X). take i xs ++ y ∷ []) (sym r) in
    ap (position p) longer ∙ position-push p (take i xs) x ∙ ap (λ (n : ℕ). option_or (position p (take i xs)) (cond (p x) (Some n) None)) long

pub find-more : {X : Type 0} (p : X → Bool) (xs : List X) (i : ℕ) (x : X) → i < length xs → x ≡ get_or xs i x
    → find p (take (i + 1) xs) ≡ option_or (find p (take i xs)) (cond (p x) (Some x) None)
find-more {X = X} p xs i x h r =
    let longer : take (i + 1) xs ≡ take i xs ++ x ∷ [] = take_more xs i x h ∙ ap (λ (y : X). take i xs ++ y ∷ []) (sym r) in
    ap (find p) longer ∙ find-append p (take i xs) (x ∷ [])

-- what is found among the first elements is found
pub find-front : {X : Type 0} (p : X → Bool) (xs : List X) (i : ℕ) (x : X) → find p (take i xs) ≡ Some x → find p xs ≡ Some x
find-front p xs zero x h = absurd (cc)
find-front p [] (suc i) x h = absurd (cc)
find-front p (y ∷ ys) (suc i) x h =
    elim (cases_Bool (p y)) [
      | inl e ↦ let k = rw e at h in rw e k
      | inr e ↦ let k = rw e at h in rw e (find-front p ys i x k)
    ]
