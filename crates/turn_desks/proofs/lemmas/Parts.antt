-- A part of a list that has all entries of a kind is the list filtered by that kind.
use Rattle.std.proofs.Common.{◌≡◌, ◌⊎◌, inl, inr, ℕ, suc, ◌+◌, ◌≤◌, Bool, true, false, true≢false, cond, if◌then◌else◌, List, [], ◌∷◌, ◌++◌, length, drop, refl, sym, ap, ◌∙◌, subst, arith}
use Rattle.std.specs.List.{filter, sum_by}
use Rattle.std.specs.List.Sorted.{IsPermutation}
use Rattle.std.proofs.lemmas.List.Sorted.{sum_by-IsPermutation}
use Rattle.std.proofs.lemmas.List.Sums.{sum_by-cons, sum_by-append}
use mathlib.Core.List.{IsPrefix}
use Rattle.turn_desks.specs.Parts.{IsPart}

module _ {E : Type 0} where
  -- with more behind
  pub part_longer : (xs ys zs : List E) → IsPart xs ys → IsPart xs (ys ++ zs)
  part_longer [] ys zs h = tt
  part_longer (x ∷ xs) [] zs h = absurd h
  part_longer (x ∷ xs) (y ∷ ys) zs (inl h) = inl (h.0, part_longer xs ys zs h.1)
  part_longer (x ∷ xs) (y ∷ ys) zs (inr h) = inr (part_longer (x ∷ xs) ys zs h)

  -- with more in front
  pub part_behind : (xs ys zs : List E) → IsPart xs ys → IsPart xs (zs ++ ys)
  part_behind [] ys zs h = tt
  part_behind (x ∷ xs) ys [] h = h
  part_behind (x ∷ xs) ys (z ∷ zs) h = inr (part_behind (x ∷ xs) ys zs h)

  pub part_whole : (xs : List E) → IsPart xs xs
  part_whole [] = tt
  part_whole (x ∷ xs) = inl (refl, part_whole xs)

  pub part_append : (xs ys us vs : List E) → IsPart xs ys → IsPart us vs → IsPart (xs ++ us) (ys ++ vs)
  part_append [] ys us vs h k = part_behind us vs ys k
  part_append (x ∷ xs) [] us vs h k = absurd h
  part_append (x ∷ xs) (y ∷ ys) us vs (inl h) k = inl (h.0, part_append xs ys us vs h.1 k)
  part_append (x ∷ xs) (y ∷ ys) us vs (inr h) k = inr (part_append (x ∷ xs) ys us vs h k)

  -- of a longer history
  pub part_of_longer : (xs front log : List E) → IsPrefix front log → IsPart xs front → IsPart xs log
  part_of_longer xs front log p h = subst (IsPart xs) p.1 (part_longer xs front p.0 h)

  dropped : (front rest : List E) → drop (length front) (front ++ rest) ≡ rest
  dropped [] rest = refl
  dropped (x ∷ xs) rest = dropped xs rest

  -- what a turn adds stands behind all that stood there before
  pub part_turned : (own seen before after : List E) → IsPrefix seen before → IsPrefix before after → IsPart own seen
      → IsPart (own ++ drop (length before) after) after
  part_turned own seen before after p q h =
      let added : drop (length before) after ≡ q.0 = ap (drop (length before)) (sym q.1) ∙ dropped before q.0 in
      let grown : IsPart (own ++ q.0) (before ++ q.0) = part_append own before q.0 q.0 (part_of_longer own seen before p h) (part_whole q.0) in
      subst (λ l. IsPart (own ++ l) after) (sym added) (subst (λ l. IsPart (own ++ q.0) l) q.1 grown)

  -- each entry is of this kind
  abbrev pub AreOf : (E → Bool) → List E → Type 0
  AreOf p [] = Unit {0}
  AreOf p (x ∷ xs) = (p x ≡ true) × AreOf p xs

  abbrev pub NoneOf : (E → Bool) → List E → Type 0
  NoneOf p [] = Unit {0}
  NoneOf p (x ∷ xs) = (p x ≡ false) × NoneOf p xs

  kept : (p : E → Bool) (x : E) (xs : List E) (b : Bool) → p x ≡ b → filter p (x ∷ xs) ≡ (if b then x ∷ filter p xs else filter p xs)
  kept p x xs true e = ap (λ b. cond b (x ∷ filter p xs) (filter p xs)) e
  kept p x xs false e = ap (λ b. cond b (x ∷ filter p xs) (filter p xs)) e

  pub filter_all : (p : E → Bool) (xs : List E) → AreOf p xs → filter p xs ≡ xs
  filter_all p [] h = refl
  filter_all p (x ∷ xs) h = kept p x xs true h.0 ∙ ap (λ l. x ∷ l) (filter_all p xs h.1)

  pub filter_none : (p : E → Bool) (xs : List E) → NoneOf p xs → filter p xs ≡ []
  filter_none p [] h = refl
  filter_none p (x ∷ xs) h = kept p x xs false h.0 ∙ filter_none p xs h.1

  short_by : (p : E → Bool) (x y : E) (xs ys : List E) (b : Bool) → p y ≡ b → AreOf p (x ∷ xs)
      → ((x ≡ y) × (length xs ≤ length (filter p ys))) ⊎ (length (x ∷ xs) ≤ length (filter p ys)) → length (x ∷ xs) ≤ length (filter p (y ∷ ys))
  short_by p x y xs ys true e all (inl h) =
      let k : length (filter p (y ∷ ys)) ≡ suc (length (filter p ys)) = ap length (kept p y ys true e) in let s = h.1 in omega (arith, k, s)
  short_by p x y xs ys true e all (inr h) =
      let k : length (filter p (y ∷ ys)) ≡ suc (length (filter p ys)) = ap length (kept p y ys true e) in omega (arith, k, h)
  short_by p x y xs ys false e all (inl h) = absurd (true≢false (sym all.0 ∙ (ap p h.0 ∙ e)))
  short_by p x y xs ys false e all (inr h) = let k : length (filter p (y ∷ ys)) ≡ length (filter p ys) = ap length (kept p y ys false e) in omega (arith, k, h)

  -- a part whose entries are of the kind has no more of them than the whole
  part_short : (p : E → Bool) (xs ys : List E) → IsPart xs ys → AreOf p xs → length xs ≤ length (filter p ys)
  part_short p [] ys h all = omega arith
  part_short p (x ∷ xs) [] h all = absurd h
  part_short p (x ∷ xs) (y ∷ ys) (inl h) all = short_by p x y xs ys (p y) refl all (inl (h.0, part_short p xs ys h.1 all.1))
  part_short p (x ∷ xs) (y ∷ ys) (inr h) all = short_by p x y xs ys (p y) refl all (inr (part_short p (x ∷ xs) ys h all))

  nothing : (xs : List E) → length xs ≤ 0 → xs ≡ []
  nothing [] h = refl
  nothing (x ∷ xs) h = absurd (omega (arith, h))

  all_by : (p : E → Bool) (x y : E) (xs ys : List E) (b : Bool) → p y ≡ b → AreOf p (x ∷ xs) → ((x ≡ y) × IsPart xs ys) ⊎ IsPart (x ∷ xs) ys
      → length (filter p (y ∷ ys)) ≤ length (x ∷ xs)
      → (IsPart xs ys → length (filter p ys) ≤ length xs → filter p ys ≡ xs)
      → (IsPart (x ∷ xs) ys → length (filter p ys) ≤ length (x ∷ xs) → filter p ys ≡ x ∷ xs) → filter p (y ∷ ys) ≡ x ∷ xs
  all_by p x y xs ys true e all (inl h) few rest whole =
      let k : length (filter p (y ∷ ys)) ≡ suc (length (filter p ys)) = ap length (kept p y ys true e) in
      kept p y ys true e ∙ (λ i. sym h.0 i ∷ rest h.1 (omega (arith, k, few)) i)
  all_by p x y xs ys true e all (inr h) few rest whole =
      let k : length (filter p (y ∷ ys)) ≡ suc (length (filter p ys)) = ap length (kept p y ys true e) in
      let s : length (x ∷ xs) ≤ length (filter p ys) = part_short p (x ∷ xs) ys h all in
      absurd (omega (arith, k, few, s))
  all_by p x y xs ys false e all (inl h) few rest whole = absurd (true≢false (sym all.0 ∙ (ap p h.0 ∙ e)))
  all_by p x y xs ys false e all (inr h) few rest whole =
      let k : length (filter p (y ∷ ys)) ≡ length (filter p ys) = ap length (kept p y ys false e) in
      kept p y ys false e ∙ whole h (omega (arith, k, few))

  -- a part that has as many of the kind as the whole has is all of them, in order
  pub part_is_filter : (p : E → Bool) (xs ys : List E) → IsPart xs ys → AreOf p xs → length (filter p ys) ≤ length xs → filter p ys ≡ xs
  part_is_filter p [] ys h all few = nothing (filter p ys) few
  part_is_filter p (x ∷ xs) [] h all few = absurd h
  part_is_filter p (x ∷ xs) (y ∷ ys) h all few =
      all_by p x y xs ys (p y) refl all h few (λ k s. part_is_filter p xs ys k all.1 s) (λ k s. part_is_filter p (x ∷ xs) ys k all s)

  abbrev counts : (E → Bool) → E → ℕ
  counts p x = cond (p x) 1 0

  counted_by : (p : E → Bool) (x : E) (xs : List E) (b : Bool) → p x ≡ b → length (filter p xs) ≡ sum_by (counts p) xs
      → length (filter p (x ∷ xs)) ≡ sum_by (counts p) (x ∷ xs)
  counted_by p x xs true e h =
      let k : length (filter p (x ∷ xs)) ≡ suc (length (filter p xs)) = ap length (kept p x xs true e) in
      let one : counts p x ≡ 1 = ap (λ b. cond b 1 0) e in omega (arith, k, h, one, sum_by-cons (counts p) x xs)
  counted_by p x xs false e h =
      let k : length (filter p (x ∷ xs)) ≡ length (filter p xs) = ap length (kept p x xs false e) in
      let none : counts p x ≡ 0 = ap (λ b. cond b 1 0) e in omega (arith, k, h, none, sum_by-cons (counts p) x xs)

  filter_counted : (p : E → Bool) (xs : List E) → length (filter p xs) ≡ sum_by (counts p) xs
  filter_counted p [] = refl
  filter_counted p (x ∷ xs) = counted_by p x xs (p x) refl (filter_counted p xs)

  pub length-filter_permutation : (p : E → Bool) (xs ys : List E) → IsPermutation xs ys → length (filter p xs) ≡ length (filter p ys)
  length-filter_permutation p xs ys h = filter_counted p xs ∙ (sym (sum_by-IsPermutation (counts p) xs ys h) ∙ sym (filter_counted p ys))

  pub length-filter_append : (p : E → Bool) (xs ys : List E) → length (filter p (xs ++ ys)) ≡ length (filter p xs) + length (filter p ys)
  length-filter_append p xs ys =
      let a = filter_counted p (xs ++ ys) in let b = filter_counted p xs in let c = filter_counted p ys in
      omega (arith, a, b, c, sum_by-append (counts p) xs ys)

  -- Of a history that is what several callers made, in another order, the entries of one caller are its own: all others made none
  -- of the kind.
  pub own_are_filter : (p : E → Bool) (own front behind log : List E) → IsPart own log → AreOf p own
      → NoneOf p front → NoneOf p behind → IsPermutation log (front ++ (own ++ behind)) → filter p log ≡ own
  own_are_filter p own front behind log part all before after same =
      let n = length-filter_permutation p log (front ++ (own ++ behind)) same in
      let a = length-filter_append p front (own ++ behind) in
      let b = length-filter_append p own behind in
      let z : length (filter p front) ≡ 0 = ap length (filter_none p front before) in
      let z' : length (filter p behind) ≡ 0 = ap length (filter_none p behind after) in
      let w : length (filter p own) ≡ length own = ap length (filter_all p own all) in
      part_is_filter p own log part all (omega (arith, n, a, b, z, z', w))
