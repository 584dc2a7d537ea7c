-- Tests of lists: of all elements, of some, and of each two.
use Rattle.std.proofs.Common.{◌≡◌, ◌+◌, ◌≤◌, List, [], ◌∷◌, ◌++◌, Bool, true, false, cond, not, ◌&&◌, ◌||◌, length, map, Option, Some, None, sym, ◌∙◌, ap, refl, arith, inl, inr}
use Rattle.std.specs.List.{list_any, list_all, filter, filter_map, find, cons_option, count_by}
use Rattle.std.specs.Option.{option_or}
use Rattle.std.proofs.lemmas.Bool.{cases_Bool, and_parts, and_from, or_cases, or_parts, or_from, or_left, or_right, not_from_false}
use Rattle.std.proofs.lemmas.List.Folds.{list_all-append}
use Rattle.std.proofs.lemmas.List.Sums.{sum_by-cons}
use Rattle.lock_entry.specs.Names.{all_pairs}

pub list_all-both : {X : Type 0} (p q : X → Bool) (xs : List X) → list_all p xs ≡ true → list_all q xs ≡ true → list_all (λ x. p x && q x) xs ≡ true
list_all-both p q [] h k = refl
list_all-both p q (x ∷ xs) h k =
    let hs = and_parts _ _ h in
    let ks = and_parts _ _ k in
    and_from _ _ (and_from _ _ hs.0 ks.0) (list_all-both p q xs hs.1 ks.1)

pub list_all-true : {X : Type 0} (xs : List X) → list_all (λ (x : X). true) xs ≡ true
list_all-true [] = refl
list_all-true (x ∷ xs) = list_all-true xs

pub list_all-weaken : {X : Type 0} (p q : X → Bool) → ((x : X) → p x ≡ true → q x ≡ true) → (xs : List X) → list_all p xs ≡ true → list_all q xs ≡ true
list_all-weaken p q k [] h = refl
list_all-weaken p q k (x ∷ xs) h =
    let hs = and_parts _ _ h in and_from _ _ (k x hs.0) (list_all-weaken p q k xs hs.1)

pub list_all-not_any : {X : Type 0} (p : X → Bool) (xs : List X) → list_any p xs ≡ false → list_all (λ x. not (p x)) xs ≡ true
list_all-not_any p [] h = refl
list_all-not_any p (x ∷ xs) h =
    let hs = or_parts _ _ h in and_from _ _ (not_from_false (p x) hs.0) (list_all-not_any p xs hs.1)

-- what a filter keeps passes what all passed, and its own test
pub list_all-filter : {X : Type 0} (q p : X → Bool) (xs : List X) → list_all q xs ≡ true → list_all q (filter p xs) ≡ true
list_all-filter q p [] h = refl
list_all-filter q p (x ∷ xs) h =
    let hs = and_parts _ _ h in
    elim (cases_Bool (p x)) [
      | inl e ↦ rw e (and_from _ _ hs.0 (list_all-filter q p xs hs.1))
      | inr e ↦ rw e (list_all-filter q p xs hs.1)
    ]

pub list_all-filter_self : {X : Type 0} (p : X → Bool) (xs : List X) → list_all p (filter p xs) ≡ true
list_all-filter_self p [] = refl
list_all-filter_self p (x ∷ xs) =
    elim (cases_Bool (p x)) [
      | inl e ↦ rw e (and_from _ _ e (list_all-filter_self p xs))
      | inr e ↦ rw e (list_all-filter_self p xs)
    ]

pub length-filter_le : {X : Type 0} (p : X → Bool) (xs : List X) → length (filter p xs) ≤ length xs
length-filter_le p [] = omega arith
length-filter_le p (x ∷ xs) =
    let rest : length (filter p xs) ≤ length xs = length-filter_le p xs in
    elim (cases_Bool (p x)) [ inl e ↦ rw e (omega arith) | inr e ↦ rw e (omega arith) ]

pub length-filter_map : {X Y : Type 0} (f : X → Option Y) (xs : List X) → length (filter_map f xs) ≤ length xs
length-filter_map f [] = omega arith
length-filter_map {X = X} {Y = Y} f (x ∷ xs) = go (length-filter_map f xs) (f x)
  where
    go : length (filter_map f xs) ≤ length xs → (o : Option Y) → length (cons_option o (filter_map f xs)) ≤ length (x ∷ xs)
    go rest None = omega arith
    go rest (Some y) = omega arith

pub list_any-map : {X Y : Type 0} (p : Y → Bool) (f : X → Y) (xs : List X) → list_any p (map f xs) ≡ list_any (λ x. p (f x)) xs
list_any-map p f [] = refl
list_any-map p f (x ∷ xs) = ap (λ (b : Bool). p (f x) || b) (list_any-map p f xs)

-- what a filter keeps stood there before
pub list_any-filter : {X : Type 0} (p q : X → Bool) (xs : List X) → list_any p (filter q xs) ≡ true → list_any p xs ≡ true
list_any-filter p q [] h = h
list_any-filter p q (x ∷ xs) h =
    elim (cases_Bool (q x)) [
      | inl e ↦
          elim (or_cases (p x) (list_any p (filter q xs)) (rw e at h)) [
            | inl here ↦ or_left _ _ here
            | inr later ↦ or_right (p x) _ (list_any-filter p q xs later)
          ]
      | inr e ↦ or_right (p x) _ (list_any-filter p q xs (rw e at h))
    ]

-- a filter that keeps what passes the test
pub list_any-kept : {X : Type 0} (p q : X → Bool) → ((x : X) → p x ≡ true → q x ≡ true) → (xs : List X) → list_any p xs ≡ true → list_any p (filter q xs) ≡ true
list_any-kept p q k [] h = h
list_any-kept p q k (x ∷ xs) h =
    elim (cases_Bool (q x)) [
      | inl e ↦ rw e
          (elim (or_cases (p x) (list_any p xs) h) [
            | inl here ↦ or_left _ _ here
            | inr later ↦ or_right (p x) _ (list_any-kept p q k xs later)
          ])
      | inr e ↦ rw e
          (elim (or_cases (p x) (list_any p xs) h) [
            | inl here ↦ absurd (let t = k x here in cc)
            | inr later ↦ list_any-kept p q k xs later
          ])
    ]

pub list_any-weaken : {X : Type 0} (p q : X → Bool) → ((x : X) → p x ≡ true → q x ≡ true) → (xs : List X) → list_any p xs ≡ true → list_any q xs ≡ true
list_any-weaken p q k [] h = h
list_any-weaken p q k (x ∷ xs) h =
    elim (or_cases (p x) (list_any p xs) h) [
      | inl here ↦ or_left _ _ (k x here)
      | inr later ↦ or_right (q x) _ (list_any-weaken p q k xs later)
    ]

-- nothing is found where nothing passes
pub find-None : {X : Type 0} (p : X → Bool) (xs : List X) → find p xs ≡ None → list_any p xs ≡ false
find-None p [] h = refl
find-None p (x ∷ xs) h =
    elim (cases_Bool (p x)) [
      | inl e ↦ absurd (let k = rw e at h in cc)
      | inr e ↦ or_from _ _ e (find-None p xs (rw e at h))
    ]

pub find-none_from : {X : Type 0} (p : X → Bool) (xs : List X) → list_any p xs ≡ false → find p xs ≡ None
find-none_from p [] h = refl
find-none_from p (x ∷ xs) h =
    let hs = or_parts (p x) (list_any p xs) h in rw hs.0 (find-none_from p xs hs.1)

-- what is found passes each test that all pass
pub find-all : {X : Type 0} (p q : X → Bool) (xs : List X) (x : X) → find p xs ≡ Some x → list_all q xs ≡ true → q x ≡ true
find-all p q [] x h k = absurd (cc)
find-all p q (y ∷ ys) x h k =
    let ks = and_parts (q y) (list_all q ys) k in
    elim (cases_Bool (p y)) [
      | inl e ↦ let s = rw e at h in let same : y ≡ x = cc in ap q (sym same) ∙ ks.0
      | inr e ↦ find-all p q ys x (rw e at h) ks.1
    ]

pub option_or-None : {X : Type 0} (a b : Option X) → option_or a b ≡ None → (a ≡ None) × (b ≡ None)
option_or-None None b h = (refl, h)
option_or-None (Some x) b h = absurd (cc)

pub count_by-any : {X : Type 0} (p : X → Bool) (xs : List X) → list_any p xs ≡ true → 1 ≤ count_by p xs
count_by-any p [] h = absurd (cc)
count_by-any p (x ∷ xs) h =
    let split : count_by p (x ∷ xs) ≡ cond (p x) 1 0 + count_by p xs = sum_by-cons (λ y. cond (p y) 1 0) x xs in
    elim (cases_Bool (p x)) [
      | inl e ↦ let s : count_by p (x ∷ xs) ≡ 1 + count_by p xs = split ∙ ap (λ (b : Bool). cond b 1 0 + count_by p xs) e in omega arith
      | inr e ↦
          let s : count_by p (x ∷ xs) ≡ 0 + count_by p xs = split ∙ ap (λ (b : Bool). cond b 1 0 + count_by p xs) e in
          let rest : 1 ≤ count_by p xs = count_by-any p xs (rw e at h) in omega arith
    ]

pub count_by-none : {X : Type 0} (p : X → Bool) (xs : List X) → list_any p xs ≡ false → count_by p xs ≡ 0
count_by-none p [] h = refl
count_by-none p (x ∷ xs) h =
    let hs = or_parts (p x) (list_any p xs) h in
    let split : count_by p (x ∷ xs) ≡ cond (p x) 1 0 + count_by p xs = sum_by-cons (λ y. cond (p y) 1 0) x xs in
    let here : count_by p (x ∷ xs) ≡ 0 + count_by p xs = split ∙ ap (λ (b : Bool). cond b 1 0 + count_by p xs) hs.0 in
    let rest : count_by p xs ≡ 0 = count_by-none p xs hs.1 in omega arith

-- each two of some of the elements
pub all_pairs-filter : {X : Type 0} (r : X → X → Bool) (p : X → Bool) (xs : List X) → all_pairs r xs ≡ true → all_pairs r (filter p xs) ≡ true
all_pairs-filter r p [] h = refl
all_pairs-filter r p (x ∷ xs) h =
    let hs = and_parts (list_all (r x) xs) (all_pairs r xs) h in
    elim (cases_Bool (p x)) [
      | inl e ↦ rw e (and_from _ _ (list_all-filter (r x) p xs hs.0) (all_pairs-filter r p xs hs.1))
      | inr e ↦ rw e (all_pairs-filter r p xs hs.1)
    ]

-- each two of two lists, where each of the one passes with each of the other
pub all_pairs-append : {X : Type 0} (r : X → X → Bool) (xs ys : List X) → all_pairs r xs ≡ true → all_pairs r ys ≡ true
    → list_all (λ x. list_all (r x) ys) xs ≡ true → all_pairs r (xs ++ ys) ≡ true
all_pairs-append r [] ys a b c = b
all_pairs-append r (x ∷ xs) ys a b c =
    let as' = and_parts (list_all (r x) xs) (all_pairs r xs) a in
    let cs = and_parts (list_all (r x) ys) (list_all (λ z. list_all (r z) ys) xs) c in
    and_from _ _ (list_all-append (r x) xs ys ∙ and_from _ _ as'.0 cs.0) (all_pairs-append r xs ys as'.1 b cs.1)

-- a change of the elements that leaves the test alone
list_all-mapped : {X : Type 0} (r : X → X → Bool) (f : X → X) → ((a b : X) → r (f a) (f b) ≡ r a b) → (a : X) (xs : List X) → list_all (r a) xs ≡ true
    → list_all (r (f a)) (map f xs) ≡ true
list_all-mapped r f k a [] h = refl
list_all-mapped r f k a (x ∷ xs) h =
    let hs = and_parts (r a x) (list_all (r a) xs) h in and_from _ _ (k a x ∙ hs.0) (list_all-mapped r f k a xs hs.1)

pub all_pairs-map : {X : Type 0} (r : X → X → Bool) (f : X → X) → ((a b : X) → r (f a) (f b) ≡ r a b) → (xs : List X) → all_pairs r xs ≡ true
    → all_pairs r (map f xs) ≡ true
all_pairs-map r f k [] h = refl
all_pairs-map r f k (x ∷ xs) h =
    let hs = and_parts (list_all (r x) xs) (all_pairs r xs) h in
    and_from _ _ (list_all-mapped r f k x xs hs.0) (all_pairs-map r f k xs hs.1)

-- two tests of each two
pub all_pairs-both : {X : Type 0} (r s : X → X → Bool) (xs : List X) → all_pairs r xs ≡ true → all_pairs s xs ≡ true
    → all_pairs (λ a b. r a b && s a b) xs ≡ true
all_pairs-both r s [] h k = refl
all_pairs-both r s (x ∷ xs) h k =
    let hs = and_parts (list_all (r x) xs) (all_pairs r xs) h in
    let ks = and_parts (list_all (s x) xs) (all_pairs s xs) k in
    and_from _ _ (list_all-both (r x) (s x) xs hs.0 ks.0) (all_pairs-both r s xs hs.1 ks.1)

pub all_pairs-weaken : {X : Type 0} (r s : X → X → Bool) → ((a b : X) → r a b ≡ true → s a b ≡ true) → (xs : List X) → all_pairs r xs ≡ true
    → all_pairs s xs ≡ true
all_pairs-weaken r s k [] h = refl
all_pairs-weaken r s k (x ∷ xs) h =
    let hs = and_parts (list_all (r x) xs) (all_pairs r xs) h in
    and_from _ _ (list_all-weaken (r x) (s x) (k x) xs hs.0) (all_pairs-weaken r s k xs hs.1)
