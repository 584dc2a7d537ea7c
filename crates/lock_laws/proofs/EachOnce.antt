-- Names, each once, in order of first naming.
use Rattle.std.proofs.Common.{◌≡◌, List, [], ◌∷◌, ◌++◌, Bool, true, false, cond, not, ◌||◌, sym, ◌∙◌, ap, refl, inl, inr}
use Rattle.std.specs.List.{list_any, list_all, filter}
use Rattle.std.specs.Cmp.{both_ways}
use Rattle.std.proofs.lemmas.Bool.{cases_Bool, and_parts, and_from, or_cases, or_left, or_right, not_from_false}
use Rattle.std.proofs.lemmas.List.Elements.{filter-append}
use Rattle.lock_entry.specs.declared.entry.LockName.{LockName}
use Rattle.lock_entry.specs.Names.{same_name, each_once, all_pairs}
use Rattle.lock_entry.proofs.lemmas.Naming.{same_name-same, same_name-sym}
use Rattle.lock_entry.proofs.lemmas.Lists.{list_any-filter, list_any-kept, list_all-filter, list_all-filter_self, all_pairs-filter}

each_once-from : (n : LockName) (ns : List LockName) → list_any (same_name n) (each_once ns) ≡ true → list_any (same_name n) ns ≡ true
each_once-from n [] h = h
each_once-from n (m ∷ ms) h =
    elim (or_cases (same_name n m) (list_any (same_name n) (filter (λ k. not (same_name m k)) (each_once ms))) h) [
      | inl here ↦ or_left _ _ here
      | inr later ↦ or_right (same_name n m) _ (each_once-from n ms (list_any-filter (same_name n) (λ k. not (same_name m k)) (each_once ms) later))
    ]

each_once-to : (n : LockName) (ns : List LockName) → list_any (same_name n) ns ≡ true → list_any (same_name n) (each_once ns) ≡ true
each_once-to n [] h = h
each_once-to n (m ∷ ms) h =
    elim (cases_Bool (same_name n m)) [
      | inl here ↦ or_left _ _ here
      | inr other ↦
          let q : LockName → Bool = λ k. not (same_name m k) in
          let later : list_any (same_name n) ms ≡ true = rw other at h in
          or_right (same_name n m) _
          (list_any-kept (same_name n) q
          (λ k e. let s = same_name-same n k e in
          let t : same_name m k ≡ false = same_name-sym m k ∙ rw s at other in
          not_from_false (same_name m k) t)
          (each_once ms) (each_once-to n ms later))
    ]

-- the names, each once, have the same members
pub each_once-any : (n : LockName) (ns : List LockName) → list_any (same_name n) (each_once ns) ≡ list_any (same_name n) ns
each_once-any n ns = both_ways (list_any (same_name n) (each_once ns)) (list_any (same_name n) ns) (each_once-from n ns) (each_once-to n ns)

-- a filter over one name, or none
filter_one : (q : LockName → Bool) (n : LockName) (s l : Bool) → q n ≡ not s → filter q (cond l [] (n ∷ [])) ≡ cond (s || l) [] (n ∷ [])
filter_one q n true true e = refl
filter_one q n true false e = rw e refl
filter_one q n false true e = refl
filter_one q n false false e = rw e refl

-- one more name stands last, unless it was there
pub each_once-push : (ns : List LockName) (n : LockName) → each_once (ns ++ n ∷ []) ≡ each_once ns ++ cond (list_any (same_name n) ns) [] (n ∷ [])
each_once-push [] n = refl
each_once-push (m ∷ ms) n =
    let q : LockName → Bool = λ k. not (same_name m k) in
    let ih : filter q (each_once (ms ++ n ∷ [])) ≡ filter q (each_once ms) ++ filter q (cond (list_any (same_name n) ms) [] (n ∷ [])) =
    ap (filter q) (each_once-push ms n) ∙ filter-append q (each_once ms) (cond (list_any (same_name n) ms) [] (n ∷ [])) in
    let last : filter q (cond (list_any (same_name n) ms) [] (n ∷ [])) ≡ cond (same_name n m || list_any (same_name n) ms) [] (n ∷ []) =
    filter_one q n (same_name n m) (list_any (same_name n) ms) (ap not (same_name-sym m n)) in
    ap (λ (r : List LockName). m ∷ r) (ih ∙ ap (λ (r : List LockName). filter q (each_once ms) ++ r) last)

pub list_all-each_once : (p : LockName → Bool) (ns : List LockName) → list_all p ns ≡ true → list_all p (each_once ns) ≡ true
list_all-each_once p [] h = refl
list_all-each_once p (n ∷ ns) h =
    let hs = and_parts _ _ h in
    and_from _ _ hs.0 (list_all-filter p (λ m. not (same_name n m)) (each_once ns) (list_all-each_once p ns hs.1))

-- no two of them are one
pub all_pairs-each_once : (ns : List LockName) → all_pairs (λ n m. not (same_name n m)) (each_once ns) ≡ true
all_pairs-each_once [] = refl
all_pairs-each_once (n ∷ ns) =
    let r : LockName → LockName → Bool = λ a b. not (same_name a b) in
    and_from (list_all (r n) (filter (r n) (each_once ns))) (all_pairs r (filter (r n) (each_once ns)))
    (list_all-filter_self (r n) (each_once ns)) (all_pairs-filter r (r n) (each_once ns) (all_pairs-each_once ns))
