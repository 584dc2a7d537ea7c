-- What a change at a place does to the list of entries.
use Rattle.std.proofs.Common.{◌≡◌, ℕ, zero, suc, ◌-◌, ◌<◌, ◌≤◌, List, [], ◌∷◌, ◌++◌, Bool, true, false, true≢false, cond, not, ◌||◌, nat_le, filter, length}
use Rattle.std.proofs.Common.{take, drop, set, map, Option, Some, None, sym, ◌∙◌, ap, refl, arith, inl, inr, subst}
use Rattle.std.specs.List.{find, list_any, list_all, position}
use Rattle.std.proofs.lemmas.Bool.{cases_Bool, and_parts, or_left, or_right, not-true, le-leb, lt-leb, cond-true, cond-false}
use Rattle.std.proofs.lemmas.List.{map-append}
use Rattle.std.proofs.lemmas.List.Elements.{filter-append}
use Rattle.lock_entry.specs.declared.entry.Entry.{Entry}
use Rattle.lock_entry.specs.declared.entry.LockName.{LockName}
use Rattle.lock_entry.specs.Names.{has_name, has_distinct_names, names_differ, same_name, name_of}
use Rattle.lock_entry.specs.Freeing.{replace_first, lowered, freed, without}
use Rattle.lock_entry.proofs.lemmas.Naming.{same_name-same}
use Rattle.lock_index.specs.Slots.{slot_at, live, on_some, IsFirst}
use Rattle.lock_index.proofs.Live.{live-split, live-set}
use Rattle.lock_index.proofs.Oldest.{IsOldest, position-oldest}

-- an empty place stays as it is
pub set-empty : (ss : List (Option Entry)) (i : ℕ) → slot_at ss i ≡ None → ss ≡ set ss i None
set-empty [] i e = refl
set-empty (s ∷ ss) zero e = ap (λ (x : Option Entry). x ∷ ss) e
set-empty (s ∷ ss) (suc i) e = ap (λ (xs : List (Option Entry)). s ∷ xs) (set-empty ss i e)

pub length-set : (ss : List (Option Entry)) (i : ℕ) (x : Option Entry) → length (set ss i x) ≡ length ss
length-set [] i x = refl
length-set (s ∷ ss) zero x = refl
length-set (s ∷ ss) (suc i) x = ap (λ (n : ℕ). suc n) (length-set ss i x)

-- one more place of a list is emptied
pub take-emptied : (ss : List (Option Entry)) (i : ℕ) → live (take (suc i) (set ss i None)) ≡ live (take i ss)
take-emptied [] zero = refl
take-emptied [] (suc i) = refl
take-emptied (s ∷ ss) zero = refl
take-emptied (None ∷ ss) (suc i) = take-emptied ss i
take-emptied (Some e ∷ ss) (suc i) = ap (λ (l : List Entry). e ∷ l) (take-emptied ss i)

pub live-some : (es : List Entry) → live (map (λ (e : Entry). Some e) es) ≡ es
live-some [] = refl
live-some (e ∷ es) = ap (λ (l : List Entry). e ∷ l) (live-some es)

pub none-before : (q : Entry → Bool) (ss : List (Option Entry)) (i : ℕ) → ((j : ℕ) → on_some q (slot_at ss j) ≡ true → i ≤ j)
    → list_any q (live (take i ss)) ≡ false
none-before q ss zero h = refl
none-before q [] (suc i) h = refl
none-before q (None ∷ ss) (suc i) h = none-before q ss i (λ j t. let l : suc i ≤ suc j = h (suc j) t in omega arith)
none-before q (Some e ∷ ss) (suc i) h =
    elim (cases_Bool (q e)) [
      | inl t ↦ absurd (let l : suc i ≤ 0 = h 0 t in omega arith)
      | inr t ↦ ap (λ b. b || list_any q (live (take i ss))) t ∙ none-before q ss i (λ j u. let l : suc i ≤ suc j = h (suc j) u in omega arith)
    ]

pub first-is : (q : Entry → Bool) (ss : List (Option Entry)) (i : ℕ) (e : Entry) → position (on_some q) ss ≡ Some i → slot_at ss i ≡ Some e → IsFirst q ss i e
first-is q ss i e h at =
    let is : IsOldest (λ j. on_some q (slot_at ss j)) (Some i) = subst (IsOldest (λ j. on_some q (slot_at ss j))) h (position-oldest q ss) in
    record { at = at; passes = sym (ap (on_some q) at) ∙ is.0; before = none-before q ss i is.1 }

pub first-stands : (q : Entry → Bool) (ss : List (Option Entry)) (i : ℕ) → position (on_some q) ss ≡ Some i → slot_at ss i ≡ None → ⊥
first-stands q ss i h none =
    let is : IsOldest (λ j. on_some q (slot_at ss j)) (Some i) = subst (IsOldest (λ j. on_some q (slot_at ss j))) h (position-oldest q ss) in
    true≢false (sym is.0 ∙ ap (on_some q) none)

pub any-none : (q : Entry → Bool) (ss : List (Option Entry)) → ((j : ℕ) → on_some q (slot_at ss j) ≡ false) → list_any q (live ss) ≡ false
any-none q [] h = refl
any-none q (None ∷ ss) h = any-none q ss (λ j. h (suc j))
any-none q (Some e ∷ ss) h = ap (λ b. b || list_any q (live ss)) (h 0) ∙ any-none q ss (λ j. h (suc j))

pub none-stands : (q : Entry → Bool) (ss : List (Option Entry)) → position (on_some q) ss ≡ None → list_any q (live ss) ≡ false
none-stands q ss h = any-none q ss (subst (IsOldest (λ j. on_some q (slot_at ss j))) h (position-oldest q ss))

any-middle : (q : Entry → Bool) (xs ys : List Entry) (e : Entry) → q e ≡ true → list_any q (xs ++ e ∷ ys) ≡ true
any-middle q [] ys e h = or_left (q e) _ h
any-middle q (x ∷ xs) ys e h = or_right (q x) _ (any-middle q xs ys e h)

pub first-any : (q : Entry → Bool) (ss : List (Option Entry)) (i : ℕ) (e : Entry) → IsFirst q ss i e → list_any q (live ss) ≡ true
first-any q ss i e f = ap (list_any q) (live-split ss i e f.at) ∙ any-middle q (live (take i ss)) (live (drop (suc i) ss)) e f.passes

replace-split : (q : Entry → Bool) (f : Entry → List Entry) (xs ys : List Entry) (e : Entry) → list_any q xs ≡ false → q e ≡ true
    → replace_first q f (xs ++ e ∷ ys) ≡ xs ++ (f e ++ ys)
replace-split q f [] ys e h t = rw t refl
replace-split q f (x ∷ xs) ys e h t =
    elim (cases_Bool (q x)) [
      | inl b ↦ absurd (let k = rw b at h in cc)
      | inr b ↦ let k = rw b at h in rw b (ap (λ (l : List Entry). x ∷ l) (replace-split q f xs ys e k t))
    ]

replace-none : (q : Entry → Bool) (f : Entry → List Entry) (xs : List Entry) → list_any q xs ≡ false → replace_first q f xs ≡ xs
replace-none q f [] h = refl
replace-none q f (x ∷ xs) h =
    elim (cases_Bool (q x)) [
      | inl b ↦ absurd (let k = rw b at h in cc)
      | inr b ↦ let k = rw b at h in rw b (ap (λ (l : List Entry). x ∷ l) (replace-none q f xs k))
    ]

pub freed-first : (n : LockName) (ss : List (Option Entry)) (i : ℕ) (e : Entry) → IsFirst (has_name n) ss i e
    → freed (live ss) n ≡ live (take i ss) ++ (lowered e ++ live (drop (suc i) ss))
freed-first n ss i e f = ap (λ es. freed es n) (live-split ss i e f.at) ∙ replace-split (has_name n) lowered (live (take i ss))
    (live (drop (suc i) ss)) e f.before f.passes

pub freed-none : (n : LockName) (es : List Entry) → list_any (has_name n) es ≡ false → freed es n ≡ es
freed-none n es h = replace-none (has_name n) lowered es h

map-none : (n : LockName) (f : Entry → Entry) → ((x : Entry) → has_name n x ≡ false → f x ≡ x) → (xs : List Entry) → list_any (has_name n) xs ≡ false
    → map f xs ≡ xs
map-none n f k [] h = refl
map-none n f k (x ∷ xs) h =
    elim (cases_Bool (has_name n x)) [
      | inl b ↦ absurd (let l = rw b at h in cc)
      | inr b ↦ let l = rw b at h in (λ i. k x b i ∷ map-none n f k xs l i)
    ]

pub none-after : (n : LockName) (xs ys : List Entry) (e : Entry) → has_distinct_names (xs ++ e ∷ ys) ≡ true → has_name n e ≡ true
    → list_any (has_name n) ys ≡ false
none-after n [] ys e h t = others ys (and_parts (list_all (names_differ e) ys) _ h).0
  where
    same : n ≡ name_of e
    same = same_name-same n (name_of e) t

    others : (zs : List Entry) → list_all (names_differ e) zs ≡ true → list_any (has_name n) zs ≡ false
    others [] k = refl
    others (z ∷ zs) k =
        let ks = and_parts (names_differ e z) (list_all (names_differ e) zs) k in
        let other : has_name n z ≡ false = ap (λ m. same_name m (name_of z)) same ∙ not-true (same_name (name_of e) (name_of z)) ks.0 in
        ap (λ b. b || list_any (has_name n) zs) other ∙ others zs ks.1
none-after n (x ∷ xs) ys e h t = none-after n xs ys e (and_parts (list_all (names_differ x) (xs ++ e ∷ ys)) _ h).1 t

-- an entry alone has its name, so a change of entries by that name changes this one
pub mapped-first : (n : LockName) (f : Entry → Entry) → ((x : Entry) → has_name n x ≡ false → f x ≡ x) → (ss : List (Option Entry)) (i : ℕ) (e : Entry)
    → has_distinct_names (live ss) ≡ true → IsFirst (has_name n) ss i e → live (set ss i (Some (f e))) ≡ map f (live ss)
mapped-first n f k ss i e h first =
    let xs = live (take i ss) in
    let ys = live (drop (suc i) ss) in
    let split = live-split ss i e first.at in
    let after : list_any (has_name n) ys ≡ false = none-after n xs ys e (sym (ap has_distinct_names split) ∙ h) first.passes in
    live-set ss i e (Some (f e)) first.at
    ∙ sym (ap (map f) split ∙ map-append f xs (e ∷ ys) ∙ (λ j. map-none n f k xs first.before j ++ f e ∷ map-none n f k ys after j))

pub mapped-none : (n : LockName) (f : Entry → Entry) → ((x : Entry) → has_name n x ≡ false → f x ≡ x) → (es : List Entry) → list_any (has_name n) es ≡ false
    → es ≡ map f es
mapped-none n f k es h = sym (map-none n f k es h)

-- where no entry has the name, none goes
pub without-none : (n : LockName) (es : List Entry) → list_any (has_name n) es ≡ false → without es n ≡ es
without-none n [] h = refl
without-none n (e ∷ es) h =
    elim (cases_Bool (has_name n e)) [
      | inl b ↦ absurd (let l = rw b at h in cc)
      | inr b ↦ let l = rw b at h in ap (λ a. cond (not a) (e ∷ without es n) (without es n)) b ∙ ap (λ (r : List Entry). e ∷ r) (without-none n es l)
    ]

-- the entry that alone has its name goes
pub without-first : (n : LockName) (ss : List (Option Entry)) (i : ℕ) (e : Entry) → has_distinct_names (live ss) ≡ true → IsFirst (has_name n) ss i e
    → live (set ss i None) ≡ without (live ss) n
without-first n ss i e h first =
    let xs = live (take i ss) in
    let ys = live (drop (suc i) ss) in
    let q : Entry → Bool = λ x. not (has_name n x) in
    let split = live-split ss i e first.at in
    let after : list_any (has_name n) ys ≡ false = none-after n xs ys e (sym (ap has_distinct_names split) ∙ h) first.passes in
    live-set ss i e None first.at
    ∙ sym (ap (filter q) split ∙ filter-append q xs (e ∷ ys)
    ∙ (λ j. without-none n xs first.before j ++ cond (not (first.passes j)) (e ∷ filter q ys) (filter q ys))
    ∙ ap (λ (l : List Entry). xs ++ l) (without-none n ys after))

find-split : (q : Entry → Bool) (xs ys : List Entry) (e : Entry) → list_any q xs ≡ false → q e ≡ true → find q (xs ++ e ∷ ys) ≡ Some e
find-split q [] ys e h t = ap (λ b. cond b (Some e) (find q ys)) t
find-split q (x ∷ xs) ys e h t =
    elim (cases_Bool (q x)) [
      | inl b ↦ absurd (let k = rw b at h in cc)
      | inr b ↦ let k = rw b at h in ap (λ a. cond a (Some x) (find q (xs ++ e ∷ ys))) b ∙ find-split q xs ys e k t
    ]

pub find-first : (q : Entry → Bool) (ss : List (Option Entry)) (i : ℕ) (e : Entry) → IsFirst q ss i e → find q (live ss) ≡ Some e
find-first q ss i e first = ap (find q) (live-split ss i e first.at) ∙ find-split q (live (take i ss)) (live (drop (suc i) ss)) e first.before first.passes

pub lowered-last : (e : Entry) → e.count ≤ 1 → lowered e ≡ []
lowered-last e h = cond-true (nat_le e.count 1) [] (record e { count = e.count - 1 } ∷ []) (le-leb e.count 1 h)

pub lowered-more : (e : Entry) → 1 < e.count → lowered e ≡ record e { count = e.count - 1 } ∷ []
lowered-more e h = cond-false (nat_le e.count 1) [] (record e { count = e.count - 1 } ∷ []) (lt-leb e.count 1 h)
