-- The entries that stand at places, the lowest place first.
use Rattle.std.proofs.Common.{◌≡◌, ℕ, suc, ◌+◌, ◌<◌, ◌≤◌, List, [], ◌∷◌, ◌++◌, Bool, true, false, cond, ◌&&◌, ◌||◌, nat_eq, nat_le, get_or, length, take, drop}
use Rattle.std.proofs.Common.{set, filter, Option, Some, None, sym, ◌∙◌, ap, refl, arith, inl, inr}
use Rattle.std.specs.Prelude.{count_by}
use Rattle.std.specs.List.{list_any, list_all, filter_map, cons_option, IsDistinct, AllByRecursion}
use Rattle.std.specs.List.Sorted.{IsPermutation, IsNonDecreasing}
use Rattle.std.proofs.lemmas.Bool.{cases_Bool, and_parts, and_from, eqb-true, eq-eqb, leb-true, le-leb}
use Rattle.std.proofs.lemmas.Bool.Decides.{nat_tests}
use Rattle.std.proofs.lemmas.List.Elements.{filter-append}
use Rattle.std.proofs.lemmas.List.Sorted.{sum_by-IsPermutation}
use Rattle.std.proofs.lemmas.List.Sums.{sum_by-cons}
use Rattle.lock_entry.specs.declared.entry.Entry.{Entry}
use Rattle.lock_entry.proofs.lemmas.Lists.{count_by-none}
use Rattle.lock_index.specs.Slots.{slot_at, live, on_some}
use Rattle.lock_index.proofs.Changed.{any-none, none-before}
use Rattle.lock_index.proofs.Live.{live-split, live-set}
use Rattle.lock_index.proofs.Slots.{slot-set, slot-within}

abbrev bit : Bool → ℕ
bit b = cond b 1 0

times : ℕ → List ℕ → ℕ
times j ps = count_by (nat_eq j) ps

-- each number stands before no lower one
abbrev rising : List ℕ → Bool
rising [] = true
rising (x ∷ xs) = list_all (nat_le x) xs && rising xs

all-above : (x : ℕ) (xs : List ℕ) → ((j d : ℕ) → j < length xs → x ≤ get_or xs j d) → list_all (nat_le x) xs ≡ true
all-above x [] h = refl
all-above x (y ∷ ys) h =
    and_from (nat_le x y) (list_all (nat_le x) ys) (le-leb x y (h 0 0 (omega arith)))
    (all-above x ys (λ j d k. h (suc j) d (omega arith)))

rising-from : (xs : List ℕ) → IsNonDecreasing xs → rising xs ≡ true
rising-from [] h = refl
rising-from (x ∷ xs) h =
    and_from (list_all (nat_le x) xs) (rising xs)
    (all-above x xs (λ j d k. h 0 (suc j) d (omega arith) (omega arith)))
    (rising-from xs (λ i j d l k. h (suc i) (suc j) d (omega arith) (omega arith)))

times-cons : (j p : ℕ) (ps : List ℕ) → times j (p ∷ ps) ≡ bit (nat_eq j p) + times j ps
unfolding times
times-cons j p ps = sum_by-cons (λ x. bit (nat_eq j x)) p ps

times-none : (j : ℕ) (ps : List ℕ) → list_any (nat_eq j) ps ≡ false → times j ps ≡ 0
unfolding times
times-none j ps h = count_by-none (nat_eq j) ps h

times-moved : (j : ℕ) (ps qs : List ℕ) → IsPermutation ps qs → times j qs ≡ times j ps
unfolding times
times-moved j ps qs h = sum_by-IsPermutation (λ x. bit (nat_eq j x)) ps qs h

-- a number that stands there is no lower than all are
times-above : (p j : ℕ) (ps : List ℕ) → list_all (nat_le p) ps ≡ true → 1 ≤ times j ps → p ≤ j
times-above p j [] up h = let none : times j [] ≡ 0 = times-none j [] refl in absurd (omega arith)
times-above p j (q ∷ qs) up h =
    let ups = and_parts (nat_le p q) (list_all (nat_le p) qs) up in
    let first : p ≤ q = leb-true p q ups.0 in
    let more = times-cons j q qs in
    elim (cases_Bool (nat_eq j q)) [
      | inl e ↦ let is : j ≡ q = eqb-true j q e in omega arith
      | inr e ↦
          let rest : times j (q ∷ qs) ≡ 0 + times j qs = more ∙ ap (λ b. bit b + times j qs) e in
          times-above p j qs ups.1 (omega arith)
    ]

-- distinct numbers stand there once each
times-distinct : (ps : List ℕ) → IsDistinct nat_eq ps → (j : ℕ) → times j ps ≡ bit (list_any (nat_eq j) ps)
unfolding IsDistinct
times-distinct [] d j = times-none j [] refl
times-distinct (k ∷ ks) d j =
    elim (cases_Bool (nat_eq j k)) [
      | inl e ↦
          let is : j ≡ k = eqb-true j k e in
          let none : times j ks ≡ 0 = ap (λ n. times n ks) is ∙ times-none k ks (others ks d.0) in
          let one : times j (k ∷ ks) ≡ 1 + times j ks = times-cons j k ks ∙ ap (λ b. bit b + times j ks) e in
          (let s : times j (k ∷ ks) ≡ 1 = omega arith in s) ∙ sym (ap (λ b. bit (b || list_any (nat_eq j) ks)) e)
      | inr e ↦
          times-cons j k ks ∙ ap (λ b. bit b + times j ks) e ∙ (let s : 0 + times j ks ≡ times j ks = omega arith in s)
          ∙ times-distinct ks d.1 j ∙ sym (ap (λ b. bit (b || list_any (nat_eq j) ks)) e)
    ]
  where
    others : (zs : List ℕ) → AllByRecursion (λ y. nat_eq k y ≡ false) zs → list_any (nat_eq k) zs ≡ false
    others [] a = refl
    others (z ∷ zs) a = ap (λ b. b || list_any (nat_eq k) zs) a.0 ∙ others zs a.1

-- another place may be emptied
read-other : (p : ℕ) (ss : List (Option Entry)) (ps : List ℕ) → p < length ss → times p ps ≡ 0
    → filter_map (slot_at (set ss p None)) ps ≡ filter_map (slot_at ss) ps
read-other p ss [] within h = refl
read-other p ss (q ∷ qs) within h =
    let more = times-cons p q qs in
    elim (cases_Bool (nat_eq p q)) [
      | inl e ↦ absurd (let one : times p (q ∷ qs) ≡ 1 + times p qs = more ∙ ap (λ b. bit b + times p qs) e in omega arith)
      | inr e ↦
          let rest : times p (q ∷ qs) ≡ 0 + times p qs = more ∙ ap (λ b. bit b + times p qs) e in
          ap (λ (o : Option Entry). cons_option o (filter_map (slot_at (set ss p None)) qs))
          (slot-set ss p None q within ∙ ap (λ b. cond b None (slot_at ss q)) e)
          ∙ ap (λ (l : List Entry). cons_option (slot_at ss q) l) (read-other p ss qs within (omega arith))
    ]

filter-none : (q : Entry → Bool) (xs : List Entry) → list_any q xs ≡ false → filter q xs ≡ []
filter-none q [] h = refl
filter-none q (x ∷ xs) h =
    elim (cases_Bool (q x)) [
      | inl t ↦ absurd (let k = rw t at h in cc)
      | inr t ↦ let k = rw t at h in ap (λ b. cond b (x ∷ filter q xs) (filter q xs)) t ∙ filter-none q xs k
    ]

bit-false : (b : Bool) → bit b ≡ 0 → b ≡ false
bit-false true h = absurd (omega arith)
bit-false false h = refl

-- the first of them stands before the others
filter-first : (q : Entry → Bool) (ss : List (Option Entry)) (p : ℕ) (e : Entry) → slot_at ss p ≡ Some e → q e ≡ true → list_any q (live (take p ss)) ≡ false
    → e ∷ filter q (live (set ss p None)) ≡ filter q (live ss)
filter-first q ss p e at passes before =
    let xs = live (take p ss) in
    let ys = live (drop (suc p) ss) in
    let none : filter q xs ≡ [] = filter-none q xs before in
    let rest : filter q (live (set ss p None)) ≡ filter q ys = ap (filter q) (live-set ss p e None at) ∙ filter-append q xs ys
    ∙ ap (λ (l : List Entry). l ++ filter q ys) none in
    let all : filter q (live ss) ≡ e ∷ filter q ys =
    ap (filter q) (live-split ss p e at) ∙ filter-append q xs (e ∷ ys) ∙ ap (λ (l : List Entry). l ++ filter q (e ∷ ys)) none
    ∙ ap (λ b. cond b (e ∷ filter q ys) (filter q ys)) passes in
    ap (λ (l : List Entry). e ∷ l) rest ∙ sym all

places-read : (q : Entry → Bool) (ps : List ℕ) (ss : List (Option Entry)) → rising ps ≡ true → ((j : ℕ) → times j ps ≡ bit (on_some q (slot_at ss j)))
    → filter_map (slot_at ss) ps ≡ filter q (live ss)
places-read q [] ss up h = sym (filter-none q (live ss) (any-none q ss (λ j. bit-false (on_some q (slot_at ss j)) (sym (h j) ∙ times-none j [] refl))))
places-read q (p ∷ ps) ss up h = go (slot_at ss p) refl (places-read q ps (set ss p None) (and_parts (list_all (nat_le p) ps) (rising ps) up).1)
  where
    above : list_all (nat_le p) ps ≡ true
    above = (and_parts (list_all (nat_le p) ps) (rising ps) up).0

    own : 1 + times p ps ≡ bit (on_some q (slot_at ss p))
    own = sym (ap (λ b. bit b + times p ps) (eq-eqb p p refl)) ∙ sym (times-cons p p ps) ∙ h p

    other : (j : ℕ) → nat_eq j p ≡ false → times j ps ≡ bit (on_some q (slot_at ss j))
    other j e = (let s : times j ps ≡ 0 + times j ps = omega arith in s) ∙ sym (ap (λ b. bit b + times j ps) e) ∙ sym (times-cons j p ps) ∙ h j

    flip : (j : ℕ) → nat_eq p j ≡ false → nat_eq j p ≡ false
    flip j e = grind (arith, nat_tests)

    not_lower : (j : ℕ) → on_some q (slot_at ss j) ≡ true → p ≤ j
    not_lower j t =
        elim (cases_Bool (nat_eq j p)) [
          | inl e ↦ let is : j ≡ p = eqb-true j p e in omega arith
          | inr e ↦ let one : times j ps ≡ 1 = other j e ∙ ap bit t in times-above p j ps above (omega arith)
        ]

    go : (o : Option Entry) → slot_at ss p ≡ o
        → (((j : ℕ) → times j ps ≡ bit (on_some q (slot_at (set ss p None) j))) → filter_map (slot_at (set ss p None)) ps ≡ filter q (live (set ss p None)))
        → filter_map (slot_at ss) (p ∷ ps) ≡ filter q (live ss)
    go None at rest = absurd (let none : 1 + times p ps ≡ 0 = own ∙ ap (λ o. bit (on_some q o)) at in omega arith)
    go (Some e) at rest =
        elim (cases_Bool (q e)) [
          | inr f ↦ absurd (let none : 1 + times p ps ≡ 0 = own ∙ ap (λ o. bit (on_some q o)) at ∙ ap bit f in omega arith)
          | inl passes ↦
              let within : p < length ss = slot-within ss p e at in
              let last : times p ps ≡ 0 = (let one : 1 + times p ps ≡ 1 = own ∙ ap (λ o. bit (on_some q o)) at ∙ ap bit passes in omega arith) in
              let same : (j : ℕ) → times j ps ≡ bit (on_some q (slot_at (set ss p None) j)) = λ j.
              elim (cases_Bool (nat_eq p j)) [
                | inl e' ↦
                    let is : p ≡ j = eqb-true p j e' in
                    ap (λ n. times n ps) (sym is) ∙ last
                    ∙ sym (ap (λ o. bit (on_some q o)) (slot-set ss p None j within ∙ ap (λ b. cond b None (slot_at ss j)) e'))
                | inr e' ↦
                    other j (flip j e')
                    ∙ sym (ap (λ o. bit (on_some q o)) (slot-set ss p None j within ∙ ap (λ b. cond b None (slot_at ss j)) e'))
              ] in
              ap (λ (o : Option Entry). cons_option o (filter_map (slot_at ss) ps)) at
              ∙ ap (λ (l : List Entry). e ∷ l) (sym (read-other p ss ps within last) ∙ rest same)
              ∙ filter-first q ss p e at passes (none-before q ss p not_lower)
        ]

-- The entries at distinct places, once these are sorted, are in order of granting those that the places are shown for.
pub in-order : (q : Entry → Bool) (places sorted : List ℕ) (ss : List (Option Entry)) → IsDistinct nat_eq places
    → ((j : ℕ) → list_any (nat_eq j) places ≡ on_some q (slot_at ss j)) → IsPermutation places sorted → IsNonDecreasing sorted
    → filter_map (slot_at ss) sorted ≡ filter q (live ss)
in-order q places sorted ss d shown moved up =
    places-read q sorted ss (rising-from sorted up)
    (λ j. times-moved j places sorted moved ∙ times-distinct places d j ∙ ap bit (shown j))
