-- The names that are new to a table.
use Rattle.std.proofs.Common.{◌≡◌, ℕ, ◌+◌, Bool, true, false, cond, not, ◌&&◌, ◌||◌, List, [], ◌∷◌, ◌++◌, map, refl, sym, ap, ◌∙◌, inl, inr, arith}
use Rattle.std.specs.List.{filter, list_any, list_all, AllByRecursion}
use Rattle.std.proofs.lemmas.Bool.{false≢true, cases_Bool, and_from, or_left, or_right, or_parts, not_from_false, false_from_ne_true}
use Rattle.std.proofs.lemmas.List.Sums.{sum_by-cons}
use Rattle.lock_entry.specs.declared.entry.Entry.{Entry}
use Rattle.lock_entry.specs.declared.entry.LockName.{LockName}
use Rattle.lock_entry.specs.Names.{same_name, name_of, stands, all_pairs, names_differ, each_once, times}
use Rattle.lock_entry.specs.Granting.{new_names, new_entry, raised, granted}
use Rattle.lock_entry.proofs.lemmas.Naming.{same_name-same, same_name-sym}
use Rattle.lock_entry.proofs.lemmas.Lists.{all_pairs-append, all_pairs-map}
use Rattle.lock_laws.proofs.EachOnce.{list_all-each_once, all_pairs-each_once}
use Rattle.replica_link.proofs.lemmas.Drops.{filter_filter, filter_agree, everywhere, all_weaker}

abbrev pub is_in : LockName → List LockName → Bool
is_in n ns = list_any (same_name n) ns

-- the names that aren't known, each once, in order of first naming
abbrev pub newcomers : List LockName → List LockName → List LockName
newcomers known [] = []
newcomers known (n ∷ ns) = cond (is_in n known) (newcomers known ns) (n ∷ newcomers (known ++ n ∷ []) ns)

is_in-push : (m n : LockName) (known : List LockName) → is_in m (known ++ n ∷ []) ≡ (is_in m known || same_name m n)
is_in-push m n [] = or_nothing (same_name m n)
  where
    or_nothing : (b : Bool) → (b || false) ≡ b
    or_nothing true = refl
    or_nothing false = refl
is_in-push m n (k ∷ known) = ap (λ b. same_name m k || b) (is_in-push m n known) ∙ or_assoc (same_name m k) (is_in m known) (same_name m n)
  where
    or_assoc : (a b c : Bool) → (a || (b || c)) ≡ ((a || b) || c)
    or_assoc true b c = refl
    or_assoc false b c = refl

and_swap : (a b : Bool) → (a && b) ≡ (b && a)
and_swap true true = refl
and_swap true false = refl
and_swap false true = refl
and_swap false false = refl

filter_swap : (p q : LockName → Bool) (ns : List LockName) → filter p (filter q ns) ≡ filter q (filter p ns)
filter_swap p q ns =
    filter_filter p q ns
    ∙ filter_agree (λ m. q m && p m) (λ m. p m && q m) ns (everywhere _ (λ m. and_swap (q m) (p m)) ns)
    ∙ sym (filter_filter q p ns)

-- a name that doesn't pass is none of those that pass
passing : (p : LockName → Bool) (n m : LockName) → p n ≡ false → (not (same_name n m) && p m) ≡ p m
passing p n m h =
    elim (cases_Bool (same_name n m)) [
      | inl same ↦ ap (λ b. not b && p m) same ∙ sym (ap p (sym (same_name-same n m same)) ∙ h)
      | inr other ↦ ap (λ b. not b && p m) other
    ]

-- those that pass, each once
each_once-filter : (p : LockName → Bool) (ns : List LockName) → each_once (filter p ns) ≡ filter p (each_once ns)
each_once-filter p [] = refl
each_once-filter p (n ∷ ns) =
    let others : LockName → Bool = λ m. not (same_name n m) in
    elim (cases_Bool (p n)) [
      | inl passes ↦
          ap (λ b. each_once (cond b (n ∷ filter p ns) (filter p ns))) passes
          ∙ ap (λ (r : List LockName). n ∷ filter others r) (each_once-filter p ns)
          ∙ ap (λ (r : List LockName). n ∷ r) (filter_swap others p (each_once ns))
          ∙ sym (ap (λ b. cond b (n ∷ filter p (filter others (each_once ns))) (filter p (filter others (each_once ns)))) passes)
      | inr fails ↦
          ap (λ b. each_once (cond b (n ∷ filter p ns) (filter p ns))) fails
          ∙ each_once-filter p ns
          ∙ sym (ap (λ b. cond b (n ∷ filter p (filter others (each_once ns))) (filter p (filter others (each_once ns)))) fails
          ∙ filter_filter p others (each_once ns)
          ∙ filter_agree (λ m. others m && p m) p (each_once ns) (everywhere _ (λ m. passing p n m fails) (each_once ns)))
    ]

neither : (a c : Bool) → not (a || c) ≡ (not a && not c)
neither true c = refl
neither false c = refl

newcomers-filter : (known ns : List LockName) → newcomers known ns ≡ each_once (filter (λ m. not (is_in m known)) ns)
newcomers-filter known [] = refl
newcomers-filter known (n ∷ ns) =
    let new : LockName → Bool = λ m. not (is_in m known) in
    let others : LockName → Bool = λ m. not (same_name n m) in
    elim (cases_Bool (is_in n known)) [
      | inl old ↦
          ap (λ b. cond b (newcomers known ns) (n ∷ newcomers (known ++ n ∷ []) ns)) old
          ∙ newcomers-filter known ns
          ∙ sym (ap (λ b. each_once (cond (not b) (n ∷ filter new ns) (filter new ns))) old)
      | inr strange ↦
          ap (λ b. cond b (newcomers known ns) (n ∷ newcomers (known ++ n ∷ []) ns)) strange
          ∙ ap (λ (r : List LockName). n ∷ r)
          (newcomers-filter (known ++ n ∷ []) ns
          ∙ ap each_once
          (filter_agree (λ m. not (is_in m (known ++ n ∷ []))) (λ m. new m && others m) ns
          (everywhere _ (λ m. ap not (is_in-push m n known) ∙ ap (λ b. not (is_in m known || b)) (same_name-sym m n) ∙ neither (is_in m known) (same_name n m))
          ns)
          ∙ sym (filter_filter others new ns))
          ∙ each_once-filter others (filter new ns))
          ∙ sym (ap (λ b. each_once (cond (not b) (n ∷ filter new ns) (filter new ns))) strange)
    ]

pub is_in-stands : (n : LockName) (t : List Entry) → is_in n (map name_of t) ≡ stands t n
is_in-stands n [] = refl
is_in-stands n (e ∷ t) = ap (λ b. same_name n (name_of e) || b) (is_in-stands n t)

pub newcomers-new_names : (t : List Entry) (ns : List LockName) → newcomers (map name_of t) ns ≡ new_names t ns
newcomers-new_names t ns =
    newcomers-filter (map name_of t) ns
    ∙ ap each_once (filter_agree (λ m. not (is_in m (map name_of t))) (λ m. not (stands t m)) ns (everywhere _ (λ m. ap not (is_in-stands m t)) ns))

-- a name that isn't among them names none
pub times_none : (n : LockName) (ns : List LockName) → is_in n ns ≡ false → times ns n ≡ 0
times_none n [] h = refl
times_none n (m ∷ ns) h =
    let hs = or_parts (same_name n m) (is_in n ns) h in
    let split : times (m ∷ ns) n ≡ 0 + times ns n = sum_by-cons (λ k. cond (same_name n k) 1 0) m ns ∙ ap (λ b. cond b 1 0 + times ns n) hs.0 in
    let rest : times ns n ≡ 0 = times_none n ns hs.1 in
    omega arith

abbrev pub differ : LockName → LockName → Bool
differ a b = not (same_name a b)

all_kept : {X : Type 0} (p q : X → Bool) → ((x : X) → p x ≡ true → q x ≡ true) → (xs : List X) → list_all q (filter p xs) ≡ true
all_kept p q k [] = refl
all_kept {X} p q k (x ∷ xs) = kept (p x) refl (all_kept p q k xs)
  where
    kept : (b : Bool) → p x ≡ b → list_all q (filter p xs) ≡ true → list_all q (cond b (x ∷ filter p xs) (filter p xs)) ≡ true
    kept true h rest = and_from _ _ (k x h) rest
    kept false h rest = rest

all_named : (user : List ℕ) (names : List LockName) (n : LockName) (ns : List LockName)
    → list_all (λ e. differ n (name_of e)) (map (new_entry user names) ns) ≡ list_all (differ n) ns
all_named user names n [] = refl
all_named user names n (m ∷ ns) = ap (λ b. differ n m && b) (all_named user names n ns)

new-distinct : (user : List ℕ) (names ns : List LockName) → all_pairs differ ns ≡ true → all_pairs names_differ (map (new_entry user names) ns) ≡ true
new-distinct user names [] h = refl
new-distinct user names (n ∷ ns) h =
    let hs = two (list_all (differ n) ns) (all_pairs differ ns) h in
    and_from _ _ (all_named user names n ns ∙ hs.0) (new-distinct user names ns hs.1)
  where
    two : (a b : Bool) → (a && b) ≡ true → (a ≡ true) × (b ≡ true)
    two true b h = (refl, h)
    two false b h = absurd (false≢true h)

-- each entry stands
own_stands : (t : List Entry) → AllByRecursion (λ e. (m : LockName) → same_name m (name_of e) ≡ true → stands t m ≡ true) t
own_stands [] = tt
own_stands (x ∷ t) = (λ m h. or_left _ _ h, all_weaker _ _ (λ e so m h. or_right (same_name m (name_of x)) (stands t m) (so m h)) t (own_stands t))

new_differs : (t : List Entry) (user : List ℕ) (names : List LockName) (n : LockName) → ((m : LockName) → same_name m n ≡ true → stands t m ≡ true)
    → list_all (λ e. differ n (name_of e)) (map (new_entry user names) (new_names t names)) ≡ true
new_differs t user names n so =
    all_named user names n (new_names t names)
    ∙ list_all-each_once (differ n) (filter (λ m. not (stands t m)) names)
    (all_kept (λ m. not (stands t m)) (differ n)
    (λ m h. not_from_false (same_name n m)
    (false_from_ne_true (same_name n m) (λ same. absurd (false≢true (sym (ap not (so m (same_name-sym m n ∙ same))) ∙ h))))) names)

all_new_differ : (t xs : List Entry) (user : List ℕ) (names : List LockName)
    → AllByRecursion (λ e. (m : LockName) → same_name m (name_of e) ≡ true → stands t m ≡ true) xs
    → list_all (λ x. list_all (names_differ x) (map (new_entry user names) (new_names t names))) (map (raised names) xs) ≡ true
all_new_differ t [] user names all = refl
all_new_differ t (x ∷ xs) user names all = and_from _ _ (new_differs t user names (name_of x) all.0) (all_new_differ t xs user names all.1)

-- a grant keeps the names distinct
pub granted-distinct : (t : List Entry) (user : List ℕ) (names : List LockName) → all_pairs names_differ t ≡ true
    → all_pairs names_differ (granted t user names) ≡ true
granted-distinct t user names h =
    all_pairs-append names_differ (map (raised names) t) (map (new_entry user names) (new_names t names))
    (all_pairs-map names_differ (raised names) (λ a b. refl) t h)
    (new-distinct user names (new_names t names) (all_pairs-each_once (filter (λ m. not (stands t m)) names)))
    (all_new_differ t t user names (own_stands t))
