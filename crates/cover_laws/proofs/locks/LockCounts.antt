-- The count of a name, where locks are granted, freed, left out or changed.
use Rattle.std.proofs.Common.{◌≡◌, ℕ, ◌+◌, ◌≤◌, Bool, true, false, cond, not, ◌&&◌, nat_le, List, [], ◌∷◌, ◌++◌, map, fold, Option, sym, ap, ◌∙◌, refl, arith, inl, inr}
use Rattle.std.specs.List.{filter, find, list_any}
use Rattle.std.specs.Option.{option_map_or}
use Rattle.std.proofs.lemmas.Bool.{cases_Bool, and_right, leb-true, or_parts, not_from_false}
use Rattle.std.proofs.lemmas.List.Sums.{sum_by-cons}
use Rattle.std.proofs.lemmas.Map.Views.{any-filter_same}
use Rattle.enq_base.specs.declared.owner.Owner.{Owner}
use Rattle.enq_base.specs.declared.owner.Owner.TheVariants.{Upd}
use Rattle.enq_base.specs.declared.owner.UnitKey.{UnitKey}
use Rattle.enq_server.specs.Server.{of_user, with_user}
use Rattle.mode_rules.specs.Modes.{same_mode}
use Rattle.mode_rules.specs.declared.Mode.TheVariants.{O}
use Rattle.lock_entry.specs.Freeing.{flagged, freed, handed_over, lowered, without_optimistic}
use Rattle.lock_entry.specs.Granting.{granted, new_entry, new_names, raised}
use Rattle.lock_entry.specs.Names.{count_at, has_name, is_of, name_of, same_name, stands, times}
use Rattle.lock_entry.specs.declared.entry.Entry.{Entry}
use Rattle.lock_entry.specs.declared.entry.LockName.{LockName}
use Rattle.lock_laws.proofs.EachOnce.{each_once-any}
use Rattle.lock_entry.proofs.lemmas.Lists.{count_by-none, find-none_from}
use Rattle.lock_entry.proofs.lemmas.Naming.{same_name-same}
use Rattle.cover_laws.proofs.locks.OftenAsked.{one_if}

abbrev counted : Option Entry → ℕ
counted found = option_map_or (λ (e : Entry). e.count) found 0

pub count-none : (es : List Entry) (n : LockName) → stands es n ≡ false → count_at es n ≡ 0
count-none es n h = ap counted (find-none_from (has_name n) es h)

-- ---- locks that are granted

count-raised : (names : List LockName) (n : LockName) (es more : List Entry) → stands es n ≡ true
    → count_at (map (raised names) es ++ more) n ≡ count_at es n + times names n
count-raised names n [] more h = absurd (cc)
count-raised names n (e ∷ es) more h =
    elim (cases_Bool (has_name n e)) [
      | inl here ↦ rw here (ap (λ (m : LockName). e.count + times names m) (sym (same_name-same n (name_of e) here)))
      | inr other ↦ rw other (count-raised names n es more (rw other at h))
    ]

count-behind : (names : List LockName) (n : LockName) (es more : List Entry) → stands es n ≡ false
    → count_at (map (raised names) es ++ more) n ≡ count_at more n
count-behind names n [] more h = refl
count-behind names n (e ∷ es) more h =
    let hs = or_parts (has_name n e) (stands es n) h in rw hs.0 (count-behind names n es more hs.1)

count-new : (user : List ℕ) (names : List LockName) (n : LockName) (ns : List LockName)
    → count_at (map (new_entry user names) ns) n ≡ cond (list_any (same_name n) ns) (times names n) 0
count-new user names n [] = refl
count-new user names n (m ∷ ms) =
    elim (cases_Bool (same_name n m)) [
      | inl here ↦ rw here (ap (times names) (sym (same_name-same n m here)))
      | inr other ↦ rw other (count-new user names n ms)
    ]

-- a name that isn't named is named no times
times-named : (names : List LockName) (n : LockName) → cond (list_any (same_name n) names) (times names n) 0 ≡ times names n
times-named names n =
    elim (cases_Bool (list_any (same_name n) names)) [
      | inl some ↦ rw some refl
      | inr none ↦ rw none (sym (count_by-none (same_name n) names none))
    ]

new_names-any : (es : List Entry) (names : List LockName) (n : LockName) → stands es n ≡ false
    → list_any (same_name n) (new_names es names) ≡ list_any (same_name n) names
new_names-any es names n absent =
    each_once-any n (filter (λ m. not (stands es m)) names)
    ∙ any-filter_same (same_name n) (λ m. not (stands es m)) true
    (λ m h. ap (λ (k : LockName). not (stands es k)) (sym (same_name-same n m h)) ∙ not_from_false (stands es n) absent) names

pub count-granted : (es : List Entry) (user : List ℕ) (names : List LockName) (n : LockName)
    → count_at (granted es user names) n ≡ count_at es n + times names n
count-granted es user names n =
    let new = map (new_entry user names) (new_names es names) in
    elim (cases_Bool (stands es n)) [
      | inl stood ↦ count-raised names n es new stood
      | inr absent ↦
          let old : count_at es n ≡ 0 = count-none es n absent in
          let behind : count_at (granted es user names) n ≡ count_at new n = count-behind names n es new absent in
          let added : count_at new n ≡ times names n =
          count-new user names n (new_names es names)
          ∙ ap (λ (b : Bool). cond b (times names n) 0) (new_names-any es names n absent)
          ∙ times-named names n in
          omega arith
    ]

-- ---- locks that are freed

count-lowered : (e : Entry) (es : List Entry) (n m : LockName) → has_name n e ≡ true
    → count_at (e ∷ es) m ≤ count_at (lowered e ++ es) m + one_if (same_name m n)
count-lowered e es n m named =
    elim (cases_Bool (has_name m e)) [
      | inl here ↦
          let same : same_name m n ≡ true = ap (same_name m) (same_name-same n (name_of e) named) ∙ here in
          elim (cases_Bool (nat_le e.count 1)) [
            | inl last ↦ let low : e.count ≤ 1 = leb-true e.count 1 last in rw (last, here, same) (omega arith)
            | inr more ↦ rw (more, here, same) (omega arith)
          ]
      | inr other ↦
          elim (cases_Bool (nat_le e.count 1)) [ inl last ↦ rw (last, other) (omega arith) | inr more ↦ rw (more, other) (omega arith) ]
    ]

count-freed : (es : List Entry) (n m : LockName) → count_at es m ≤ count_at (freed es n) m + one_if (same_name m n)
count-freed [] n m = omega arith
count-freed (e ∷ es) n m =
    let rest : count_at es m ≤ count_at (freed es n) m + one_if (same_name m n) = count-freed es n m in
    elim (cases_Bool (has_name n e)) [
      | inl named ↦ rw named (count-lowered e es n m named)
      | inr spared ↦
          elim (cases_Bool (has_name m e)) [ inl here ↦ rw (spared, here) (omega arith) | inr other ↦ rw (spared, other) rest ]
    ]

-- each name takes at most one
pub count-freed_all : (names : List LockName) (es : List Entry) (m : LockName) → count_at es m ≤ count_at (fold freed es names) m + times names m
count-freed_all [] es m = omega arith
count-freed_all (n ∷ ns) es m =
    let one : count_at es m ≤ count_at (freed es n) m + one_if (same_name m n) = count-freed es n m in
    let rest : count_at (freed es n) m ≤ count_at (fold freed (freed es n) ns) m + times ns m = count-freed_all ns (freed es n) m in
    let split : times (n ∷ ns) m ≡ one_if (same_name m n) + times ns m = sum_by-cons (λ k. one_if (same_name m k)) n ns in
    omega arith

-- ---- entries that are left out or changed

-- a filter that keeps all that passes the test
find-kept : {X : Type 0} (p q : X → Bool) → ((x : X) → p x ≡ true → q x ≡ true) → (xs : List X) → find p (filter q xs) ≡ find p xs
find-kept p q k [] = refl
find-kept p q k (x ∷ xs) =
    elim (cases_Bool (p x)) [
      | inl here ↦ rw (k x here, here) refl
      | inr other ↦
          elim (cases_Bool (q x)) [ inl stays ↦ rw (stays, other) (find-kept p q k xs) | inr goes ↦ rw (goes, other) (find-kept p q k xs) ]
    ]

pub count-filter : (n : LockName) (q : Entry → Bool) → ((e : Entry) → has_name n e ≡ true → q e ≡ true) → (es : List Entry)
    → count_at (filter q es) n ≡ count_at es n
count-filter n q k es = ap counted (find-kept (has_name n) q k es)

-- names and counts stay
count-map : (n : LockName) (f : Entry → Entry) → ((e : Entry) → has_name n (f e) ≡ has_name n e) → ((e : Entry) → (f e).count ≡ e.count)
    → (es : List Entry) → count_at (map f es) n ≡ count_at es n
count-map n f k c [] = refl
count-map n f k c (e ∷ es) =
    elim (cases_Bool (has_name n e)) [
      | inl here ↦ let new : has_name n (f e) ≡ true = k e ∙ here in rw (new, here) (c e)
      | inr other ↦ let new : has_name n (f e) ≡ false = k e ∙ other in rw (new, other) (count-map n f k c es)
    ]

-- under another user they are the same
pub count-user : (n : LockName) (user : List ℕ) (es : List Entry) → count_at (of_user user es) n ≡ count_at es n
count-user n user es = count-map n (with_user user) (λ e. refl) (λ e. refl) es

flagged-name : (owner : Owner) (n : LockName) (e : Entry) → has_name n (flagged owner e) ≡ has_name n e
flagged-name owner n e = elim (cases_Bool (is_of owner e)) [ inl own ↦ rw own refl | inr other ↦ rw other refl ]

flagged-count : (owner : Owner) (e : Entry) → (flagged owner e).count ≡ e.count
flagged-count owner e = elim (cases_Bool (is_of owner e)) [ inl own ↦ rw own refl | inr other ↦ rw other refl ]

-- all but optimistic locks are handed over with their counts
pub count-handed : (es : List Entry) (unit : UnitKey) (n : LockName) → same_mode n.asked.mode O ≡ false
    → count_at (handed_over es unit) n ≡ count_at es n
count-handed es unit n firm =
    let owner = Upd unit in
    count-map n (flagged owner) (flagged-name owner n) (flagged-count owner) (without_optimistic es owner)
    ∙ count-filter n (λ e. not (is_of owner e && same_mode e.mode O))
    (λ e h.
    let mode : same_mode e.mode O ≡ false = ap (λ (m : LockName). same_mode m.asked.mode O) (sym (same_name-same n (name_of e) h)) ∙ firm in
    not_from_false (is_of owner e && same_mode e.mode O) (and_right (is_of owner e) (same_mode e.mode O) mode))
    es
