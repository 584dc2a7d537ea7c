-- Soundness of a list doesn't hang on its order.
use Rattle.std.proofs.Common.{◌≡◌, ℕ, zero, suc, ◌<◌, ◌==◌, List, [], ◌∷◌, ◌++◌, Bool, true, false, cond, not, ◌&&◌, ◌||◌, length, get_or, sym, ◌∙◌, ap, subst, refl, arith, inl, inr}
use Rattle.std.specs.List.{list_all, filter, swap}
use Rattle.std.specs.List.Sorted.{IsPermutation}
use Rattle.std.specs.Str.{bytes_eq}
use Rattle.std.specs.Cmp.{both_ways}
use Rattle.std.proofs.lemmas.Bool.{cases_Bool, and_parts, and_from, eqb-true, eqb-false, eq-eqb, not-true}
use Rattle.std.proofs.lemmas.List.Edits.{Swapped, swapped_from_swap, length-swap}
use Rattle.std.proofs.lemmas.List.Sorted.{IsPermutation-keeps}
use Rattle.std.proofs.lemmas.List.Concat.{flat_map-cons}
use Rattle.std.proofs.lemmas.List.Folds.{list_all-append}
use Rattle.enq_base.specs.Owners.{same_owner}
use Rattle.enq_base.specs.declared.owner.Owner.{Owner}
use Rattle.mode_rules.specs.declared.Mode.{Mode}
use Rattle.mode_rules.specs.declared.Mode.TheVariants.{S, E, X, O}
use Rattle.mode_rules.specs.Modes.{modes_clash}
use Rattle.lock_entry.specs.Argument.{bytes_meet, meets}
use Rattle.lock_entry.specs.Barring.{places_meet}
use Rattle.lock_entry.specs.declared.entry.Asked.{Asked}
use Rattle.lock_entry.specs.declared.entry.Entry.{Entry}
use Rattle.lock_entry.specs.Names.{all_pairs, asked_of, is_of, name_of}
use Rattle.lock_laws.specs.Orders.{are_distinct, of_owners}
use Rattle.lock_entry.specs.Pairs.{are_related, of_one_session}
use Rattle.lock_entry.specs.Sound.{IsSound, are_apart, has_count}
use Rattle.lock_entry.proofs.lemmas.Lists.{all_pairs-append, all_pairs-filter, list_all-filter, list_all-true, list_all-weaken}
use Rattle.lock_entry.proofs.lemmas.Naming.{bytes_eq-refl, bytes_eq-same, same_name-sym, same_owner-same, same_owner-sym}
use Rattle.lock_laws.proofs.Sounds.{sound-apart, sound-from}

-- ---- two entries stand apart either way

bytes_meet-sym : (a b : ℕ) → bytes_meet a b ≡ bytes_meet b a
bytes_meet-sym a b = grind arith

meets-sym : (p q : List ℕ) → meets p q ≡ meets q p
meets-sym [] [] = refl
meets-sym [] (y ∷ ys) = refl
meets-sym (x ∷ xs) [] = refl
meets-sym (x ∷ xs) (y ∷ ys) = (λ i. bytes_meet-sym x y i && meets-sym xs ys i)

bytes_eq-sym : (a b : List ℕ) → bytes_eq a b ≡ bytes_eq b a
bytes_eq-sym a b =
    both_ways (bytes_eq a b) (bytes_eq b a)
    (λ h. let e = bytes_eq-same a b h in rw e (bytes_eq-refl b))
    (λ h. let e = bytes_eq-same b a h in rw e (bytes_eq-refl a))

places_meet-sym : (a b : Asked) → places_meet a b ≡ places_meet b a
places_meet-sym a b = (λ i. bytes_eq-sym a.table b.table i && meets-sym a.pattern b.pattern i)

modes_clash-sym : (m n : Mode) → modes_clash m n ≡ modes_clash n m
modes_clash-sym S S = refl
modes_clash-sym S E = refl
modes_clash-sym S X = refl
modes_clash-sym S O = refl
modes_clash-sym E S = refl
modes_clash-sym E E = refl
modes_clash-sym E X = refl
modes_clash-sym E O = refl
modes_clash-sym X S = refl
modes_clash-sym X E = refl
modes_clash-sym X X = refl
modes_clash-sym X O = refl
modes_clash-sym O S = refl
modes_clash-sym O E = refl
modes_clash-sym O X = refl
modes_clash-sym O O = refl

or-sym : (a b : Bool) → (a || b) ≡ (b || a)
or-sym true true = refl
or-sym true false = refl
or-sym false true = refl
or-sym false false = refl

are_related-sym : (a b : Owner) → are_related a b ≡ are_related b a
are_related-sym a b = (λ i. same_owner-sym a b i || or-sym (of_one_session a b) (of_one_session b a) i)

pub are_apart-sym : (a b : Entry) → are_apart a b ≡ are_apart b a
are_apart-sym a b =
    (λ i. not (same_name-sym (name_of a) (name_of b) i)
    && not (not (are_related-sym a.owner b.owner i) && (places_meet-sym (asked_of a) (asked_of b) i && modes_clash-sym a.mode b.mode i)))

-- ---- each two of a list, by their places

abbrev EachTwo : {X : Type 0} → (X → X → Bool) → List X → Type 0
EachTwo {X} r xs = (i j : ℕ) (d : X) → i < length xs → j < length xs → (i ≡ j → ⊥) → r (get_or xs i d) (get_or xs j d) ≡ true

all_at : {X : Type 0} (p : X → Bool) (xs : List X) (i : ℕ) (d : X) → i < length xs → list_all p xs ≡ true → p (get_or xs i d) ≡ true
all_at p [] i d low h = absurd (omega (arith, low))
all_at p (x ∷ xs) zero d low h = (and_parts (p x) (list_all p xs) h).0
all_at p (x ∷ xs) (suc i) d low h = all_at p xs i d (omega (arith, low)) (and_parts (p x) (list_all p xs) h).1

all_from : {X : Type 0} (p : X → Bool) (xs : List X) → ((i : ℕ) (d : X) → i < length xs → p (get_or xs i d) ≡ true) → list_all p xs ≡ true
all_from p [] h = refl
all_from p (x ∷ xs) h = and_from (p x) (list_all p xs) (h 0 x (omega arith)) (all_from p xs (λ i d low. h (suc i) d (omega (arith, low))))

to_two : {X : Type 0} (r : X → X → Bool) → ((a b : X) → r a b ≡ r b a) → (xs : List X) → all_pairs r xs ≡ true → EachTwo r xs
to_two r s [] h i j d low high other = absurd (omega (arith, low))
to_two r s (x ∷ xs) h zero zero d low high other = absurd (other refl)
to_two r s (x ∷ xs) h zero (suc j) d low high other = all_at (r x) xs j d (omega (arith, high)) (and_parts (list_all (r x) xs) (all_pairs r xs) h).0
to_two r s (x ∷ xs) h (suc i) zero d low high other = s (get_or xs i d) x
    ∙ all_at (r x) xs i d (omega (arith, low)) (and_parts (list_all (r x) xs) (all_pairs r xs) h).0
to_two r s (x ∷ xs) h (suc i) (suc j) d low high other =
    to_two r s xs (and_parts (list_all (r x) xs) (all_pairs r xs) h).1 i j d (omega (arith, low)) (omega (arith, high)) (λ e. other (ap suc e))

from_two : {X : Type 0} (r : X → X → Bool) (xs : List X) → EachTwo r xs → all_pairs r xs ≡ true
from_two r [] h = refl
from_two r (x ∷ xs) h =
    and_from (list_all (r x) xs) (all_pairs r xs)
    (all_from (r x) xs (λ j d high. h 0 (suc j) d (omega arith) (omega (arith, high)) (λ e. omega (arith, e))))
    (from_two r xs (λ i j d low high other. h (suc i) (suc j) d (omega (arith, low)) (omega (arith, high)) (λ e. other (omega (arith, e)))))

-- where an element comes from, if two places are exchanged
abbrev source : ℕ → ℕ → ℕ → ℕ
source a b m = cond (m == a) b (cond (m == b) a m)

source_first : (a b : ℕ) → source a b a ≡ b
source_first a b = ap (λ t. cond t b (cond (a == b) a a)) (eq-eqb a a refl)

source_second : (a b : ℕ) → source a b b ≡ a
source_second a b =
    elim (cases_Bool (b == a)) [
      | inl e ↦ ap (λ t. cond t b (cond (b == b) a b)) e ∙ eqb-true b a e
      | inr e ↦ ap (λ t. cond t b (cond (b == b) a b)) e ∙ ap (λ t. cond t a b) (eq-eqb b b refl)
    ]

source_other : (a b m : ℕ) → (m == a) ≡ false → (m == b) ≡ false → source a b m ≡ m
source_other a b m first second = ap (λ t. cond t b (cond (m == b) a m)) first ∙ ap (λ t. cond t a m) second

source_twice : (a b m : ℕ) → source a b (source a b m) ≡ m
source_twice a b m =
    elim (cases_Bool (m == a)) [
      | inl e ↦
          let is : m ≡ a = eqb-true m a e in
          ap (λ k. source a b (source a b k)) is ∙ ap (source a b) (source_first a b) ∙ source_second a b ∙ sym is
      | inr e ↦
          elim (cases_Bool (m == b)) [
            | inl f ↦
                let is : m ≡ b = eqb-true m b f in
                ap (λ k. source a b (source a b k)) is ∙ ap (source a b) (source_second a b) ∙ source_first a b ∙ sym is
            | inr f ↦ ap (source a b) (source_other a b m e f) ∙ source_other a b m e f
          ]
    ]

source_low : (n a b m : ℕ) → a < n → b < n → m < n → source a b m < n
source_low n a b m la lb lm =
    elim (cases_Bool (m == a)) [
      | inl e ↦ subst (λ k. k < n) (sym (ap (source a b) (eqb-true m a e) ∙ source_first a b)) lb
      | inr e ↦
          elim (cases_Bool (m == b)) [
            | inl f ↦ subst (λ k. k < n) (sym (ap (source a b) (eqb-true m b f) ∙ source_second a b)) la
            | inr f ↦ subst (λ k. k < n) (sym (source_other a b m e f)) lm
          ]
    ]

from_source : {X : Type 0} (f g : ℕ → X) (a b m : ℕ) → Swapped f g a b → g m ≡ f (source a b m)
from_source f g a b m s =
    elim (cases_Bool (m == a)) [
      | inl e ↦ ap g (eqb-true m a e) ∙ s.0 ∙ ap f (sym (ap (source a b) (eqb-true m a e) ∙ source_first a b))
      | inr e ↦
          elim (cases_Bool (m == b)) [
            | inl k ↦ ap g (eqb-true m b k) ∙ s.1 ∙ ap f (sym (ap (source a b) (eqb-true m b k) ∙ source_second a b))
            | inr k ↦ s.2 m (eqb-false m a e) (eqb-false m b k) ∙ ap f (sym (source_other a b m e k))
          ]
    ]

two_swapped : {X : Type 0} (r : X → X → Bool) (xs : List X) (a b : ℕ) → a < length xs → b < length xs → EachTwo r xs → EachTwo r (swap xs a b)
two_swapped r xs a b la lb h = λ i j d low high other.
    let s = swapped_from_swap xs (swap xs a b) a b d la lb refl in
    let at_i = from_source (λ k. get_or xs k d) (λ k. get_or (swap xs a b) k d) a b i s in
    let at_j = from_source (λ k. get_or xs k d) (λ k. get_or (swap xs a b) k d) a b j s in
    let n = length-swap xs a b in
    (λ k. r (at_i k) (at_j k))
    ∙ h (source a b i) (source a b j) d
    (source_low (length xs) a b i la lb (subst (λ m. i < m) n low)) (source_low (length xs) a b j la lb (subst (λ m. j < m) n high))
    (λ e. other (sym (source_twice a b i) ∙ ap (source a b) e ∙ source_twice a b j))

pub all_pairs-permutation : {X : Type 0} (r : X → X → Bool) → ((a b : X) → r a b ≡ r b a) → (xs ys : List X) → IsPermutation xs ys → all_pairs r xs ≡ true
    → all_pairs r ys ≡ true
all_pairs-permutation r s xs ys p h =
    from_two r ys (IsPermutation-keeps xs (EachTwo r) (to_two r s xs h) (λ l i j low high k. two_swapped r l i j low high k) ys p)

all_counted : (xs ys : List Entry) → IsPermutation xs ys → list_all has_count xs ≡ true → list_all has_count ys ≡ true
all_counted xs ys p h =
    all_from has_count ys
    (IsPermutation-keeps xs (λ l. (i : ℕ) (d : Entry) → i < length l → has_count (get_or l i d) ≡ true) (λ i d low. all_at has_count xs i d low h)
    (λ l a b la lb k i d low.
    let s = swapped_from_swap l (swap l a b) a b d la lb refl in
    ap has_count (from_source (λ m. get_or l m d) (λ m. get_or (swap l a b) m d) a b i s)
    ∙ k (source a b i) d (source_low (length l) a b i la lb (subst (λ m. i < m) (length-swap l a b) low)))
    ys p)

-- a sound list is sound in any order
pub IsSound-permutation : (xs ys : List Entry) → IsPermutation xs ys → IsSound xs → IsSound ys
IsSound-permutation xs ys p h =
    sound-from ys (all_counted xs ys p h.counts) (all_pairs-permutation are_apart are_apart-sym xs ys p (sound-apart xs h))

-- ---- the entries of some owners, one owner behind the other

with_first : {Y : Type 0} (r : Y → Y → Bool) (x : Y) (zs ys : List Y) → list_all (λ y. r y x) ys ≡ true → list_all (λ y. list_all (r y) zs) ys ≡ true
    → list_all (λ y. list_all (r y) (x ∷ zs)) ys ≡ true
with_first r x zs [] a b = refl
with_first r x zs (y ∷ ys) a b =
    let as' = and_parts (r y x) (list_all (λ z. r z x) ys) a in
    let bs = and_parts (list_all (r y) zs) (list_all (λ z. list_all (r z) zs) ys) b in
    and_from _ _ (and_from _ _ as'.0 bs.0) (with_first r x zs ys as'.1 bs.1)

two_kinds : {X : Type 0} (r : X → X → Bool) → ((a b : X) → r a b ≡ r b a) → (p q : X → Bool) → ((x : X) → p x ≡ true → q x ≡ false) → (xs : List X)
    → all_pairs r xs ≡ true → list_all (λ x. list_all (r x) (filter q xs)) (filter p xs) ≡ true
two_kinds r s p q apart [] h = refl
two_kinds r s p q apart (x ∷ xs) h =
    let hs = and_parts (list_all (r x) xs) (all_pairs r xs) h in
    let rest = two_kinds r s p q apart xs hs.1 in
    elim (cases_Bool (p x)) [
      | inl e ↦ (λ i. list_all (λ y. list_all (r y) (cond (apart x e i) (x ∷ filter q xs) (filter q xs))) (cond (e i) (x ∷ filter p xs) (filter p xs)))
          ∙ and_from (list_all (r x) (filter q xs)) _ (list_all-filter (r x) q xs hs.0) rest
      | inr e ↦
          elim (cases_Bool (q x)) [
            | inl f ↦ (λ i. list_all (λ y. list_all (r y) (cond (f i) (x ∷ filter q xs) (filter q xs))) (cond (e i) (x ∷ filter p xs) (filter p xs)))
                ∙ with_first r x (filter q xs) (filter p xs) (list_all-filter (λ y. r y x) p xs (list_all-weaken (r x) (λ y. r y x) (λ y k. s y x ∙ k) xs hs.0))
                rest
            | inr f ↦ (λ i. list_all (λ y. list_all (r y) (cond (f i) (x ∷ filter q xs) (filter q xs))) (cond (e i) (x ∷ filter p xs) (filter p xs))) ∙ rest
          ]
    ]

list_all-both_parts : (r : Entry → Entry → Bool) (us vs ys : List Entry) → list_all (λ y. list_all (r y) us) ys ≡ true
    → list_all (λ y. list_all (r y) vs) ys ≡ true → list_all (λ y. list_all (r y) (us ++ vs)) ys ≡ true
list_all-both_parts r us vs [] a b = refl
list_all-both_parts r us vs (y ∷ ys) a b =
    let as' = and_parts (list_all (r y) us) (list_all (λ z. list_all (r z) us) ys) a in
    let bs = and_parts (list_all (r y) vs) (list_all (λ z. list_all (r z) vs) ys) b in
    and_from _ _ (list_all-append (r y) us vs ∙ and_from _ _ as'.0 bs.0) (list_all-both_parts r us vs ys as'.1 bs.1)

other_owner : (o p : Owner) → not (same_owner o p) ≡ true → (e : Entry) → is_of o e ≡ true → is_of p e ≡ false
other_owner o p h e own = ap (λ x. same_owner x p) (same_owner-same e.owner o own) ∙ not-true (same_owner o p) h

others_apart : (o : Owner) (os : List Owner) (xs : List Entry) → list_all (λ p. not (same_owner o p)) os ≡ true → all_pairs are_apart xs ≡ true
    → list_all (λ y. list_all (are_apart y) (of_owners os xs)) (filter (is_of o) xs) ≡ true
others_apart o [] xs h a = list_all-true (filter (is_of o) xs)
others_apart o (p ∷ os) xs h a =
    let hs = and_parts (not (same_owner o p)) (list_all (λ q. not (same_owner o q)) os) h in
    subst (λ es. list_all (λ y. list_all (are_apart y) es) (filter (is_of o) xs) ≡ true) (sym (flat_map-cons (λ q. filter (is_of q) xs) p os))
    (list_all-both_parts are_apart (filter (is_of p) xs) (of_owners os xs) (filter (is_of o) xs)
    (two_kinds are_apart are_apart-sym (is_of o) (is_of p) (other_owner o p hs.0) xs a)
    (others_apart o os xs hs.1 a))

owners_apart : (os : List Owner) (xs : List Entry) → are_distinct os ≡ true → all_pairs are_apart xs ≡ true → all_pairs are_apart (of_owners os xs) ≡ true
owners_apart [] xs d a = refl
owners_apart (o ∷ os) xs d a =
    let ds = and_parts (list_all (λ p. not (same_owner o p)) os) (are_distinct os) d in
    subst (λ es. all_pairs are_apart es ≡ true) (sym (flat_map-cons (λ q. filter (is_of q) xs) o os))
    (all_pairs-append are_apart (filter (is_of o) xs) (of_owners os xs) (all_pairs-filter are_apart (is_of o) xs a) (owners_apart os xs ds.1 a)
    (others_apart o os xs ds.0 a))

owners_counted : (os : List Owner) (xs : List Entry) → list_all has_count xs ≡ true → list_all has_count (of_owners os xs) ≡ true
owners_counted [] xs c = refl
owners_counted (o ∷ os) xs c =
    subst (λ es. list_all has_count es ≡ true) (sym (flat_map-cons (λ q. filter (is_of q) xs) o os))
    (list_all-append has_count (filter (is_of o) xs) (of_owners os xs) ∙ and_from _ _ (list_all-filter has_count (is_of o) xs c) (owners_counted os xs c))

-- what some owners have in a sound list is sound, in whichever order the owners come
pub IsSound-owners : (os : List Owner) (xs : List Entry) → are_distinct os ≡ true → IsSound xs → IsSound (of_owners os xs)
IsSound-owners os xs d h = sound-from (of_owners os xs) (owners_counted os xs h.counts) (owners_apart os xs d (sound-apart xs h))
