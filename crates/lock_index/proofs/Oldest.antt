-- The lowest of the places where something is found.
use Rattle.std.proofs.Common.{◌≡◌, ◌⊎◌, ℕ, zero, suc, ◌+◌, ◌<◌, ◌≤◌, List, [], ◌∷◌, Bool, true, false, true≢false, cond, ◌&&◌, ◌||◌, nat_eq, nat_le, nat_lt}
use Rattle.std.proofs.Common.{length, Option, Some, None, sym, ◌∙◌, ap, refl, arith, inl, inr, subst}
use Rattle.std.specs.Prelude.{min, option_map}
use Rattle.std.specs.List.{list_any, position, position_or_len}
use Rattle.std.proofs.lemmas.Bool.{cases_Bool, or_cases, or_left, or_right, eqb-true, eq-eqb, leb-true, leb-false, lt-ltb}
use Rattle.std.proofs.lemmas.Bool.Decides.{nat_tests}
use Rattle.lock_entry.specs.declared.entry.Entry.{Entry}
use Rattle.lock_index.specs.declared.key.Key.{Key}
use Rattle.lock_index.specs.declared.members.NumberMap.{NumberMap}
use Rattle.lock_index.specs.declared.search.Search.{Search}
use Rattle.lock_index.specs.Members.{is_under}
use Rattle.lock_index.specs.Searches.{finds, place_of, candidates, earlier, oldest_of, oldest_under, oldest_over}
use Rattle.lock_index.specs.Slots.{slot_at, on_some}

-- the place is the lowest that the test hits
abbrev pub IsOldest : (ℕ → Bool) → Option ℕ → Type 0
IsOldest hit None = (i : ℕ) → hit i ≡ false
IsOldest hit (Some r) = (hit r ≡ true) × ((i : ℕ) → hit i ≡ true → r ≤ i)

pub oldest-same : (hit other : ℕ → Bool) → ((i : ℕ) → hit i ≡ other i) → (r : Option ℕ) → IsOldest hit r → IsOldest other r
oldest-same hit other e None h = λ i. sym (e i) ∙ h i
oldest-same hit other e (Some r) h = (sym (e r) ∙ h.0, λ i t. h.1 i (e i ∙ t))

pub oldest-one : (hit : ℕ → Bool) (a b : Option ℕ) → IsOldest hit a → IsOldest hit b → a ≡ b
oldest-one hit None None h g = refl
oldest-one hit None (Some b) h g = absurd (true≢false (sym g.0 ∙ h b))
oldest-one hit (Some a) None h g = absurd (true≢false (sym h.0 ∙ g a))
oldest-one hit (Some a) (Some b) h g = ap (λ (i : ℕ). Some i) (let x : a ≤ b = h.1 b g.0 in let y : b ≤ a = g.1 a h.0 in let s : a ≡ b = omega arith in s)

or-nothing : (a : Bool) → a ≡ (a || false)
or-nothing true = refl
or-nothing false = refl

oldest-earlier : (hit : ℕ → Bool) (best : Option ℕ) (b : Bool) (i : ℕ) → IsOldest hit best → IsOldest (λ j. hit j || (b && nat_eq j i)) (earlier best b i)
oldest-earlier hit None false i h = oldest-same hit (λ j. hit j || (false && nat_eq j i)) (λ j. or-nothing (hit j)) None h
oldest-earlier hit (Some r) false i h = oldest-same hit (λ j. hit j || (false && nat_eq j i)) (λ j. or-nothing (hit j)) (Some r) h
oldest-earlier hit None true i h = (
  or_right (hit i) (nat_eq i i) (eq-eqb i i refl),
  λ j t. elim (or_cases (hit j) (nat_eq j i) t) [
    | inl a ↦ absurd (true≢false (sym a ∙ h j))
    | inr a ↦ let s : j ≡ i = eqb-true j i a in omega arith
  ],
)
oldest-earlier hit (Some r) true i h = (
  lowest (cases_Bool (nat_le r i)),
  λ j t. elim (or_cases (hit j) (nat_eq j i) t) [
    | inl a ↦ let l : r ≤ j = h.1 j a in omega arith
    | inr a ↦ let s : j ≡ i = eqb-true j i a in omega arith
  ],
)
  where
    lowest : (nat_le r i ≡ true) ⊎ (nat_le r i ≡ false) → (hit (min r i) || nat_eq (min r i) i) ≡ true
    lowest (inl e) =
        let s : min r i ≡ r = (let l : r ≤ i = leb-true r i e in omega arith) in
        or_left (hit (min r i)) _ (ap hit s ∙ h.0)
    lowest (inr e) =
        let s : min r i ≡ i = (let l : i < r = leb-false r i e in omega arith) in
        or_right (hit (min r i)) _ (eq-eqb (min r i) i s)

with-same : (h a m : Bool) → ((h || (a && true)) || (m && a)) ≡ (h || (true && a))
with-same true a m = refl
with-same false true m = refl
with-same false false true = refl
with-same false false false = refl

with-other : (h a b m : Bool) → ((h || (a && false)) || (m && b)) ≡ (h || ((false || m) && b))
with-other true a b m = refl
with-other false true b m = refl
with-other false false b m = refl

pub with-more : (h u l a : Bool) → ((h || (u && a)) || (l && a)) ≡ (h || ((u || l) && a))
with-more true u l a = refl
with-more false true l true = refl
with-more false true true false = refl
with-more false true false false = refl
with-more false false l a = refl

module _ (slots : List (Option Entry)) (s : Search) where
  abbrev found : ℕ → Bool
  found j = on_some (finds s) (slot_at slots j)

  pub oldest-of : (ps : List ℕ) (hit : ℕ → Bool) (best : Option ℕ) → IsOldest hit best
      → IsOldest (λ j. hit j || (list_any (nat_eq j) ps && found j)) (oldest_of slots s best ps)
  oldest-of [] hit best h = oldest-same hit (λ j. hit j || (false && found j)) (λ j. or-nothing (hit j)) best h
  oldest-of (i ∷ is) hit best h =
      oldest-same (λ j. (hit j || (found i && nat_eq j i)) || (list_any (nat_eq j) is && found j))
      (λ j. hit j || ((nat_eq j i || list_any (nat_eq j) is) && found j))
      (λ j. same j (cases_Bool (nat_eq j i)))
      (oldest_of slots s (earlier best (found i) i) is)
      (oldest-of is (λ j. hit j || (found i && nat_eq j i)) (earlier best (found i) i) (oldest-earlier hit best (found i) i h))
    where
      same : (j : ℕ) → (nat_eq j i ≡ true) ⊎ (nat_eq j i ≡ false) → ((hit j || (found i && nat_eq j i)) || (list_any (nat_eq j) is && found j))
          ≡ (hit j || ((nat_eq j i || list_any (nat_eq j) is) && found j))
      same j (inl e) =
          let is' : i ≡ j = sym (eqb-true j i e) in
          ap (λ b. (hit j || (found i && b)) || (list_any (nat_eq j) is && found j)) e
          ∙ ap (λ k. (hit j || (found k && true)) || (list_any (nat_eq j) is && found j)) is'
          ∙ with-same (hit j) (found j) (list_any (nat_eq j) is)
          ∙ ap (λ b. hit j || ((b || list_any (nat_eq j) is) && found j)) (sym e)
      same j (inr e) =
          ap (λ b. (hit j || (found i && b)) || (list_any (nat_eq j) is && found j)) e
          ∙ with-other (hit j) (found i) (found j) (list_any (nat_eq j) is)
          ∙ ap (λ b. hit j || ((b || list_any (nat_eq j) is) && found j)) (sym e)

  module _ (m : NumberMap) where
    oldest-under : (k : Option Key) (hit : ℕ → Bool) (best : Option ℕ) → IsOldest hit best
        → IsOldest (λ j. hit j || (is_under m k j && found j)) (oldest_under slots m s best k)
    oldest-under None hit best h = oldest-same hit (λ j. hit j || (false && found j)) (λ j. or-nothing (hit j)) best h
    oldest-under (Some k) hit best h = oldest-of (Rattle.lock_index.specs.Members.members m k) hit best h

    pub oldest-over : (ns : List ℕ) (hit : ℕ → Bool) (best : Option ℕ) → IsOldest hit best
        → IsOldest (λ j. hit j || (list_any (λ n. is_under m (candidates (place_of s) n) j) ns && found j)) (oldest_over slots m s best ns)
    oldest-over [] hit best h = oldest-same hit (λ j. hit j || (false && found j)) (λ j. or-nothing (hit j)) best h
    oldest-over (n ∷ ns) hit best h =
        let k = candidates (place_of s) n in
        let best' = oldest_under slots m s best k in
        oldest-same (λ j. (hit j || (is_under m k j && found j)) || (list_any (λ q. is_under m (candidates (place_of s) q) j) ns && found j))
        (λ j. hit j || ((is_under m k j || list_any (λ q. is_under m (candidates (place_of s) q) j) ns) && found j))
        (λ j. with-more (hit j) (is_under m k j) (list_any (λ q. is_under m (candidates (place_of s) q) j) ns) (found j))
        (oldest_over slots m s best' ns)
        (oldest-over ns (λ j. hit j || (is_under m k j && found j)) best' (oldest-under k hit best h))

ltb-more : (n m : ℕ) → nat_lt (1 + n) (suc m) ≡ nat_lt n m
ltb-more n m = grind (arith, nat_tests)

-- the first place of a list that begins with one more element
pub position-cons : {X : Type 0} (p : X → Bool) (x : X) (xs : List X) → position p (x ∷ xs) ≡ cond (p x) (Some 0) (option_map (λ i. i + 1) (position p xs))
position-cons p x xs =
    elim (cases_Bool (p x)) [
      | inl e ↦ rw e (ap (λ b. cond b (Some 0) None) (lt-ltb 0 (suc (length xs)) (omega arith)))
      | inr e ↦ rw e (ap (λ b. cond b (Some (1 + position_or_len p xs)) None) (ltb-more (position_or_len p xs) (length xs))
          ∙ moved (nat_lt (position_or_len p xs) (length xs)) (position_or_len p xs))
    ]
  where
    moved : (b : Bool) (n : ℕ) → cond b (Some (1 + n)) None ≡ option_map (λ i. i + 1) (cond b (Some n) None)
    moved true n = ap (λ (k : ℕ). Some k) (let s : 1 + n ≡ n + 1 = omega arith in s)
    moved false n = refl

-- the first place of a list is the lowest where the test is passed
pub position-oldest : (q : Entry → Bool) (ss : List (Option Entry)) → IsOldest (λ j. on_some q (slot_at ss j)) (position (on_some q) ss)
position-oldest q [] = λ i. refl
position-oldest q (s ∷ ss) =
    elim (cases_Bool (on_some q s)) [
      | inl e ↦
          let at : position (on_some q) (s ∷ ss) ≡ Some 0 = position-cons (on_some q) s ss
          ∙ ap (λ b. cond b (Some 0) (option_map (λ i. i + 1) (position (on_some q) ss))) e in
          subst (IsOldest (λ j. on_some q (slot_at (s ∷ ss) j))) (sym at) (e, λ i t. omega arith)
      | inr e ↦
          let at : position (on_some q) (s ∷ ss) ≡ option_map (λ i. i + 1) (position (on_some q) ss) =
          position-cons (on_some q) s ss ∙ ap (λ b. cond b (Some 0) (option_map (λ i. i + 1) (position (on_some q) ss))) e in
          subst (IsOldest (λ j. on_some q (slot_at (s ∷ ss) j))) (sym at) (shifted e (position (on_some q) ss) (position-oldest q ss))
    ]
  where
    none : on_some q s ≡ false → ((i : ℕ) → on_some q (slot_at ss i) ≡ false) → (i : ℕ) → on_some q (slot_at (s ∷ ss) i) ≡ false
    none e h zero = e
    none e h (suc i) = h i

    above : (r : ℕ) → on_some q s ≡ false → ((i : ℕ) → on_some q (slot_at ss i) ≡ true → r ≤ i) → (i : ℕ) → on_some q (slot_at (s ∷ ss) i) ≡ true → r + 1 ≤ i
    above r e h zero t = absurd (true≢false (sym t ∙ e))
    above r e h (suc i) t = let l : r ≤ i = h i t in omega arith

    shifted : on_some q s ≡ false → (o : Option ℕ) → IsOldest (λ j. on_some q (slot_at ss j)) o
        → IsOldest (λ j. on_some q (slot_at (s ∷ ss) j)) (option_map (λ i. i + 1) o)
    shifted e None h = none e h
    shifted e (Some r) h =
        let up : r + 1 ≡ suc r = omega arith in
        (ap (λ (i : ℕ). on_some q (slot_at (s ∷ ss) i)) up ∙ h.0, above r e h.1)
