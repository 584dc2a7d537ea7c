-- The counts of named entries rise one half after another.
use Rattle.std.proofs.Common.{◌≡◌, ℕ, zero, suc, ◌+◌, ◌<◌, List, [], ◌∷◌, ◌++◌, Bool, true, false, cond, not, ◌||◌, length, map, get_or, set, Some, sym, ◌∙◌, ap, refl, arith, inl, inr}
use Rattle.std.specs.List.{list_all, find, position, position_or_len}
use Rattle.std.specs.Option.{option_map_or}
use Rattle.std.proofs.lemmas.Bool.{cases_Bool, and_parts, or_parts}
use Rattle.std.proofs.lemmas.List.Sums.{sum_by_push}
use Rattle.lock_entry.specs.declared.entry.Entry.{Entry}
use Rattle.lock_entry.specs.declared.entry.LockName.{LockName}
use Rattle.lock_entry.specs.Names.{same_name, has_name, stands, count_at, times, name_of, names_differ, has_distinct_names}
use Rattle.lock_entry.specs.Granting.{raised}
use Rattle.lock_entry.proofs.lemmas.Naming.{same_name-same, same_name-sym}
use Rattle.lock_entry.proofs.lemmas.Places.{position-Some}

pub times-push : (ns : List LockName) (n m : LockName) → times (ns ++ n ∷ []) m ≡ times ns m + cond (same_name m n) 1 0
times-push ns n m = sum_by_push (λ k. cond (same_name m k) 1 0) ns n

-- the entry with one more
abbrev pub one_more : Entry → Entry
one_more e = record e { count = e.count + 1 }

raised-here : (ns : List LockName) (n : LockName) (e : Entry) → has_name n e ≡ true → raised (ns ++ n ∷ []) e ≡ one_more (raised ns e)
raised-here ns n e h =
    let named : same_name (name_of e) n ≡ true = same_name-sym (name_of e) n ∙ h in
    let split : times (ns ++ n ∷ []) (name_of e) ≡ times ns (name_of e) + 1 = times-push ns n (name_of e) ∙ ap (λ b. times ns (name_of e) + cond b 1 0) named in
    ap (λ k. record e { count = k }) (let s : e.count + times (ns ++ n ∷ []) (name_of e) ≡ (e.count + times ns (name_of e)) + 1 = omega arith in s)

raised-other : (ns : List LockName) (n : LockName) (e : Entry) → has_name n e ≡ false → raised (ns ++ n ∷ []) e ≡ raised ns e
raised-other ns n e h =
    let other : same_name (name_of e) n ≡ false = same_name-sym (name_of e) n ∙ h in
    let split : times (ns ++ n ∷ []) (name_of e) ≡ times ns (name_of e) + 0 = times-push ns n (name_of e) ∙ ap (λ b. times ns (name_of e) + cond b 1 0) other in
    ap (λ k. record e { count = k }) (let s : e.count + times (ns ++ n ∷ []) (name_of e) ≡ e.count + times ns (name_of e) = omega arith in s)

-- where no entry has the name, none rises
pub raised-none : (ns : List LockName) (n : LockName) (es : List Entry) → stands es n ≡ false → map (raised (ns ++ n ∷ [])) es ≡ map (raised ns) es
raised-none ns n [] h = refl
raised-none ns n (e ∷ es) h =
    let hs = or_parts (has_name n e) (stands es n) h in
    ap (λ x. x ∷ map (raised (ns ++ n ∷ [])) es) (raised-other ns n e hs.0) ∙ ap (λ (xs : List Entry). raised ns e ∷ xs) (raised-none ns n es hs.1)

-- behind an entry of the name no other has it
named-alone : (n : LockName) (e : Entry) (es : List Entry) → has_name n e ≡ true → list_all (names_differ e) es ≡ true → stands es n ≡ false
named-alone n e [] h d = refl
named-alone n e (a ∷ es) h d =
    let ds = and_parts (names_differ e a) (list_all (names_differ e) es) d in
    let s : n ≡ name_of e = same_name-same n (name_of e) h in
    let other : has_name n a ≡ false = ap (λ (m : LockName). same_name m (name_of a)) s ∙ not_true (same_name (name_of e) (name_of a)) ds.0 in
    ap (λ b. b || stands es n) other ∙ named-alone n e es h ds.1
  where
    not_true : (b : Bool) → not b ≡ true → b ≡ false
    not_true true k = absurd (cc)
    not_true false k = refl

raised-at_place : (ns : List LockName) (n : LockName) (es added : List Entry) (i : ℕ) (d : Entry) → has_distinct_names es ≡ true
    → position_or_len (has_name n) es ≡ i → i < length es → set (map (raised ns) es ++ added) i (one_more (get_or (map (raised ns) es ++ added) i d)) ≡ map
    (raised (ns ++ n ∷ [])) es ++ added
raised-at_place ns n [] added i d u e h = absurd (omega arith)
raised-at_place ns n (x ∷ es) added zero d u e h =
    let us = and_parts (list_all (names_differ x) es) (has_distinct_names es) u in
    elim (cases_Bool (has_name n x)) [
      | inl t ↦
          let alone = named-alone n x es t us.0 in
          ap (λ y. y ∷ (map (raised ns) es ++ added)) (sym (raised-here ns n x t))
          ∙ ap (λ (ys : List Entry). raised (ns ++ n ∷ []) x ∷ (ys ++ added)) (sym (raised-none ns n es alone))
      | inr t ↦ let k = rw t at e in let none : 1 + position_or_len (has_name n) es ≡ 0 = k in absurd (omega arith)
    ]
raised-at_place ns n (x ∷ es) added (suc i) d u e h =
    let us = and_parts (list_all (names_differ x) es) (has_distinct_names es) u in
    elim (cases_Bool (has_name n x)) [
      | inl t ↦ let k = rw t at e in let none : 0 ≡ suc i = k in absurd (omega arith)
      | inr t ↦
          let k = rw t at e in
          let next : 1 + position_or_len (has_name n) es ≡ suc i = k in
          let here : position_or_len (has_name n) es ≡ i = omega arith in
          let within : i < length es = omega arith in
          ap (λ (ys : List Entry). raised ns x ∷ ys) (raised-at_place ns n es added i d us.1 here within)
          ∙ ap (λ y. y ∷ (map (raised (ns ++ n ∷ [])) es ++ added)) (sym (raised-other ns n x t))
    ]

-- the entry at the place of the name rises by one
pub raised-at : (ns : List LockName) (n : LockName) (es added : List Entry) (i : ℕ) (d : Entry) → has_distinct_names es ≡ true
    → position (has_name n) es ≡ Some i → set (map (raised ns) es ++ added) i (one_more (get_or (map (raised ns) es ++ added) i d)) ≡ map
    (raised (ns ++ n ∷ [])) es ++ added
raised-at ns n es added i d u h = let at = position-Some (has_name n) es i h in raised-at_place ns n es added i d u at.0 at.1

raised-count_place : (ns : List LockName) (n : LockName) (es added : List Entry) (i : ℕ) (d : Entry) → position_or_len (has_name n) es ≡ i → i < length es
    → (get_or (map (raised ns) es ++ added) i d).count ≡ count_at es n + times ns n
raised-count_place ns n [] added i d e h = absurd (omega arith)
raised-count_place ns n (x ∷ es) added zero d e h =
    elim (cases_Bool (has_name n x)) [
      | inl t ↦
          let s : n ≡ name_of x = same_name-same n (name_of x) t in
          ap (λ m. x.count + times ns m) (sym s)
          ∙ ap (λ b. option_map_or (λ (y : Entry). y.count) (cond b (Some x) (find (has_name n) es)) 0 + times ns n) (sym t)
      | inr t ↦ let k = rw t at e in let none : 1 + position_or_len (has_name n) es ≡ 0 = k in absurd (omega arith)
    ]
raised-count_place ns n (x ∷ es) added (suc i) d e h =
    elim (cases_Bool (has_name n x)) [
      | inl t ↦ let k = rw t at e in let none : 0 ≡ suc i = k in absurd (omega arith)
      | inr t ↦
          let k = rw t at e in
          let next : 1 + position_or_len (has_name n) es ≡ suc i = k in
          let here : position_or_len (has_name n) es ≡ i = omega arith in
          let within : i < length es = omega arith in
          raised-count_place ns n es added i d here within
          ∙ ap (λ b. option_map_or (λ (y : Entry). y.count) (cond b (Some x) (find (has_name n) es)) 0 + times ns n) (sym t)
    ]

-- its count so far
pub raised-count_at : (ns : List LockName) (n : LockName) (es added : List Entry) (i : ℕ) (d : Entry) → position (has_name n) es ≡ Some i
    → (get_or (map (raised ns) es ++ added) i d).count ≡ count_at es n + times ns n
raised-count_at ns n es added i d h = let at = position-Some (has_name n) es i h in raised-count_place ns n es added i d at.0 at.1
