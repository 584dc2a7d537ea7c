-- What is granted may stand together with what stood.
use Rattle.std.proofs.Common.{◌≡◌, ℕ, ◌+◌, ◌≤◌, List, [], ◌∷◌, ◌++◌, Bool, true, false, cond, not, ◌&&◌, nat_eq, nat_lt, nat_le, length, map, Some, None, Ok}
use Rattle.std.proofs.Common.{Err, sym, ◌∙◌, ap, refl, arith, subst, inl, inr}
use Rattle.std.specs.List.{list_any, list_all, filter, find, count_by}
use Rattle.std.specs.Option.{option_or, option_map_or}
use Rattle.std.proofs.lemmas.Bool.{cases_Bool, and_parts, and_from, and_cases, or_parts, or_cases, or_left, or_right, not_from_false, not-true, ltb-false, leb-true, le-leb, eqb-true, eq-eqb}
use Rattle.std.proofs.lemmas.List.{length-map, length-append}
use Rattle.std.proofs.lemmas.List.Folds.{list_all-append}
use Rattle.enq_base.specs.Owners.{same_owner}
use Rattle.lock_entry.specs.declared.entry.Asker.{Asker}
use Rattle.lock_entry.specs.declared.entry.Request.{Request}
use Rattle.lock_entry.specs.declared.entry.Entry.{Entry}
use Rattle.lock_entry.specs.declared.entry.LockName.{LockName}
use Rattle.lock_entry.specs.declared.fault.AskFault.TheVariants.{Count}
use Rattle.lock_entry.specs.Names.{same_name, has_name, stands, count_at, halves, halves_of, times, each_once, name_of, names_differ, has_distinct_names, all_pairs}
use Rattle.lock_entry.specs.Pairs.{IsPair, in_pair}
use Rattle.lock_entry.specs.Barring.{bars}
use Rattle.lock_entry.specs.Sound.{has_count, are_apart, IsSound}
use Rattle.lock_entry.specs.Table.{Table, IsTable, with_entries}
use Rattle.lock_entry.specs.Granting.{asked, first_bar, new_names, new_entry, is_full, is_over, granted, raised, unless_barred, unless_full}
use Rattle.lock_entry.proofs.lemmas.Naming.{same_owner-refl, same_name-refl, same_name-same, same_name-sym}
use Rattle.lock_entry.proofs.lemmas.Lists.{list_all-both, list_all-true, list_all-weaken, list_all-filter, list_all-filter_self, find-None, option_or-None}
use Rattle.lock_entry.proofs.lemmas.Lists.{count_by-any, count_by-none, all_pairs-append, all_pairs-map}
use Rattle.lock_laws.proofs.EachOnce.{list_all-each_once, all_pairs-each_once}
use Rattle.lock_laws.proofs.Sounds.{sound-apart, sound-from}
use Rattle.lock_laws.proofs.Related.{pair-related, related-calm, apart-from, conflict-unbarred}
use Rattle.lock_laws.proofs.Grants.{unless_barred-Ok, unless_full-Ok}

-- no entry bars what the name asks for
abbrev unbarred : List Entry → Asker → LockName → Bool
unbarred es asker n = not (list_any (bars asker n.asked) es)

abbrev of_pair : Asker → LockName → Bool
of_pair asker n = in_pair asker n.owner

-- what is true of both owners' names is true of a request's halves
list_all-halves_of : (p : LockName → Bool) (asker : Asker) (r : Request) → p (record { owner = asker.dialogue; asked = r.asked }) ≡ true
    → p (record { owner = asker.update; asked = r.asked }) ≡ true → list_all p (halves_of asker r) ≡ true
list_all-halves_of p asker r d u =
    elim (cases_Bool r.dialogue) [
      | inl a ↦ elim (cases_Bool r.update) [ inl b ↦ rw (a, b) (and_from _ _ d (and_from _ _ u refl)) | inr b ↦ rw (a, b) (and_from _ _ d refl) ]
      | inr a ↦ elim (cases_Bool r.update) [ inl b ↦ rw (a, b) (and_from _ _ u refl) | inr b ↦ rw (a, b) refl ]
    ]

halves-unbarred : (es : List Entry) (asker : Asker) (rs : List Request) → first_bar es asker (map (λ r. r.asked) rs) ≡ None
    → list_all (unbarred es asker) (halves asker rs) ≡ true
halves-unbarred es asker [] h = refl
halves-unbarred es asker (r ∷ rs) h =
    let parts = option_or-None (find (bars asker r.asked) es) (first_bar es asker (map (λ k. k.asked) rs)) h in
    let free = not_from_false _ (find-None (bars asker r.asked) es parts.0) in
    list_all-append (unbarred es asker) (halves_of asker r) (halves asker rs)
    ∙ and_from _ _ (list_all-halves_of (unbarred es asker) asker r free free) (halves-unbarred es asker rs parts.1)

halves-of_pair : (asker : Asker) (rs : List Request) → list_all (of_pair asker) (halves asker rs) ≡ true
halves-of_pair asker [] = refl
halves-of_pair asker (r ∷ rs) =
    list_all-append (of_pair asker) (halves_of asker r) (halves asker rs)
    ∙ and_from _ _
    (list_all-halves_of (of_pair asker) asker r (or_left _ _ (same_owner-refl asker.dialogue))
    (or_right (same_owner asker.update asker.dialogue) _ (same_owner-refl asker.update)))
    (halves-of_pair asker rs)

-- what holds of all names holds of the new ones
list_all-new_names : (p : LockName → Bool) (es : List Entry) (ns : List LockName) → list_all p ns ≡ true → list_all p (new_names es ns) ≡ true
list_all-new_names p es ns h = list_all-each_once p (filter (λ n. not (stands es n)) ns) (list_all-filter p (λ n. not (stands es n)) ns h)

names-named : (all ns : List LockName) → ((n : LockName) → list_any (same_name n) ns ≡ true → list_any (same_name n) all ≡ true)
    → list_all (λ n. list_any (same_name n) all) ns ≡ true
names-named all [] k = refl
names-named all (n ∷ ns) k =
    and_from _ _ (k n (or_left _ _ (same_name-refl n))) (names-named all ns (λ m h. k m (or_right (same_name m n) _ h)))

not_over-Ok : (b : Bool) (xs ys : List Entry) → cond b (Err Count) (Ok xs) ≡ Ok ys → (b ≡ false) × (xs ≡ ys)
not_over-Ok true xs ys h = absurd (cc)
not_over-Ok false xs ys h = (refl, (cc))

-- the count of the entry of a name that is named stays within bounds
pub not_over-named : (es : List Entry) (all names : List LockName) (n : LockName) → list_any (λ m. nat_lt 9999 (count_at es m + times all m)) names ≡ false
    → list_any (same_name n) names ≡ true → count_at es n + times all n ≤ 9999
not_over-named es all [] n fine h = absurd (cc)
not_over-named es all (m ∷ ms) n fine h =
    let parts = or_parts (nat_lt 9999 (count_at es m + times all m)) (list_any (λ k. nat_lt 9999 (count_at es k + times all k)) ms) fine in
    elim (or_cases (same_name n m) (list_any (same_name n) ms) h) [
      | inl here ↦
          let s = same_name-same n m here in
          let low : count_at es m + times all m ≤ 9999 = ltb-false 9999 (count_at es m + times all m) parts.0 in
          rw s low
      | inr later ↦ not_over-named es all ms n parts.1 later
    ]

count_at-here : (e : Entry) (es : List Entry) → count_at (e ∷ es) (name_of e) ≡ e.count
count_at-here e es = ap (λ b. option_map_or (λ (x : Entry). x.count) (cond b (Some e) (find (has_name (name_of e)) es)) 0) (same_name-refl (name_of e))

count_at-later : (e a : Entry) (es : List Entry) → names_differ e a ≡ true → count_at (e ∷ es) (name_of a) ≡ count_at es (name_of a)
count_at-later e a es h =
    ap (λ b. option_map_or (λ (x : Entry). x.count) (cond b (Some e) (find (has_name (name_of a)) es)) 0)
    (same_name-sym (name_of a) (name_of e) ∙ not-true _ h)

-- where names are distinct, each entry is the one of its name
pub counts-own : (es : List Entry) → has_distinct_names es ≡ true → list_all (λ e. nat_eq (count_at es (name_of e)) e.count) es ≡ true
counts-own [] d = refl
counts-own (e ∷ es) d =
    let ds = and_parts (list_all (names_differ e) es) (has_distinct_names es) d in
    and_from _ _ (eq-eqb _ _ (count_at-here e es))
    (list_all-weaken (λ a. names_differ e a && nat_eq (count_at es (name_of a)) a.count) (λ a. nat_eq (count_at (e ∷ es) (name_of a)) a.count)
    (λ a h. let hs = and_parts (names_differ e a) _ h in eq-eqb _ _ (count_at-later e a es hs.0 ∙ eqb-true _ _ hs.1))
    es (list_all-both (names_differ e) (λ a. nat_eq (count_at es (name_of a)) a.count) es ds.0 (counts-own es ds.1)))

module _ (asker : Asker) (user : List ℕ) (all : List LockName) (pair : IsPair asker) where
  new-apart : (n m : LockName) → of_pair asker n ≡ true → of_pair asker m ≡ true → not (same_name n m) ≡ true
      → are_apart (new_entry user all n) (new_entry user all m) ≡ true
  new-apart n m hn hm d = apart-from (new_entry user all n) (new_entry user all m) d
      (related-calm (new_entry user all n) (new_entry user all m) (pair-related asker n.owner m.owner pair hn hm))

  new-apart_all : (n : LockName) (ns : List LockName) → of_pair asker n ≡ true → list_all (of_pair asker) ns ≡ true
      → list_all (λ m. not (same_name n m)) ns ≡ true → list_all (are_apart (new_entry user all n)) (map (new_entry user all) ns) ≡ true
  new-apart_all n [] hn hs d = refl
  new-apart_all n (m ∷ ms) hn hs d =
      let h' = and_parts (of_pair asker m) (list_all (of_pair asker) ms) hs in
      let d' = and_parts (not (same_name n m)) (list_all (λ k. not (same_name n k)) ms) d in
      and_from _ _ (new-apart n m hn h'.0 d'.0) (new-apart_all n ms hn h'.1 d'.1)

  all_pairs-new : (ns : List LockName) → list_all (of_pair asker) ns ≡ true → all_pairs (λ n m. not (same_name n m)) ns ≡ true
      → all_pairs are_apart (map (new_entry user all) ns) ≡ true
  all_pairs-new [] h d = refl
  all_pairs-new (n ∷ ns) h d =
      let h' = and_parts (of_pair asker n) (list_all (of_pair asker) ns) h in
      let d' = and_parts (list_all (λ m. not (same_name n m)) ns) (all_pairs (λ a b. not (same_name a b)) ns) d in
      and_from _ _ (new-apart_all n ns h'.0 h'.1 d'.0) (all_pairs-new ns h'.1 d'.1)

  -- a new entry stands apart from each that stood, risen or not
  old-apart : (es : List Entry) (n : LockName) → of_pair asker n ≡ true → list_any (has_name n) es ≡ false → list_any (bars asker n.asked) es ≡ false
      → list_all (λ e. are_apart (raised all e) (new_entry user all n)) es ≡ true
  old-apart [] n hn s b = refl
  old-apart (e ∷ es) n hn s b =
      let s' = or_parts (has_name n e) (list_any (has_name n) es) s in
      let b' = or_parts (bars asker n.asked e) (list_any (bars asker n.asked) es) b in
      and_from (are_apart (raised all e) (new_entry user all n)) (list_all (λ a. are_apart (raised all a) (new_entry user all n)) es)
      (apart-from e (new_entry user all n)
      (not_from_false (same_name (name_of e) n) (same_name-sym (name_of e) n ∙ s'.0))
      (conflict-unbarred asker e (new_entry user all n) pair hn b'.0))
      (old-apart es n hn s'.1 b'.1)

  old-apart_all : (es : List Entry) (ns : List LockName) → list_all (of_pair asker) ns ≡ true → list_all (λ n. not (stands es n)) ns ≡ true
      → list_all (unbarred es asker) ns ≡ true → list_all (λ e. list_all (are_apart (raised all e)) (map (new_entry user all) ns)) es ≡ true
  old-apart_all es [] h s b = list_all-true es
  old-apart_all es (n ∷ ns) h s b =
      let h' = and_parts (of_pair asker n) (list_all (of_pair asker) ns) h in
      let s' = and_parts (not (stands es n)) (list_all (λ m. not (stands es m)) ns) s in
      let b' = and_parts (unbarred es asker n) (list_all (unbarred es asker) ns) b in
      list_all-both (λ e. are_apart (raised all e) (new_entry user all n)) (λ e. list_all (are_apart (raised all e)) (map (new_entry user all) ns)) es
      (old-apart es n h'.0 (not-true _ s'.0) (not-true _ b'.0))
      (old-apart_all es ns h'.1 s'.1 b'.1)

  list_all-raised : (es : List Entry) (new : List Entry) → list_all (λ e. list_all (are_apart (raised all e)) new) es ≡ true
      → list_all (λ e. list_all (are_apart e) new) (map (raised all) es) ≡ true
  list_all-raised [] new h = refl
  list_all-raised (e ∷ es) new h = let hs = and_parts _ _ h in and_from _ _ hs.0 (list_all-raised es new hs.1)

-- good counts of those that stood, once the names are granted
raised-count : (es : List Entry) (names : List LockName) (e : Entry) → is_over es names ≡ false → has_count e ≡ true
    → nat_eq (count_at es (name_of e)) e.count ≡ true → has_count (raised names e) ≡ true
raised-count es names e fine good own =
    let hs = and_parts (nat_le 1 e.count) (nat_le e.count 9999) good in
    let low : 1 ≤ e.count = leb-true 1 e.count hs.0 in
    let high : e.count ≤ 9999 = leb-true e.count 9999 hs.1 in
    let is : count_at es (name_of e) ≡ e.count = eqb-true _ _ own in
    let n = times names (name_of e) in
    let within : e.count + n ≤ 9999 =
    elim (cases_Bool (list_any (same_name (name_of e)) names)) [
      | inl named ↦ let most : count_at es (name_of e) + n ≤ 9999 = not_over-named es names names (name_of e) fine named in omega arith
      | inr other ↦ let none : n ≡ 0 = count_by-none (same_name (name_of e)) names other in omega arith
    ] in
    and_from (nat_le 1 (e.count + n)) (nat_le (e.count + n) 9999) (le-leb 1 (e.count + n) (omega arith)) (le-leb (e.count + n) 9999 within)

counts-raised : (es : List Entry) (names : List LockName) (xs : List Entry) → is_over es names ≡ false → list_all has_count xs ≡ true
    → list_all (λ e. nat_eq (count_at es (name_of e)) e.count) xs ≡ true → list_all has_count (map (raised names) xs) ≡ true
counts-raised es names [] fine h o = refl
counts-raised es names (e ∷ xs) fine h o =
    let hs = and_parts (has_count e) (list_all has_count xs) h in
    let os = and_parts (nat_eq (count_at es (name_of e)) e.count) _ o in
    and_from _ _ (raised-count es names e fine hs.0 os.0) (counts-raised es names xs fine hs.1 os.1)

-- good counts of the new ones
counts-new : (es : List Entry) (names : List LockName) (user : List ℕ) (ns : List LockName) → is_over es names ≡ false
    → list_all (λ n. list_any (same_name n) names) ns ≡ true → list_all has_count (map (new_entry user names) ns) ≡ true
counts-new es names user [] fine h = refl
counts-new es names user (n ∷ ns) fine h =
    let hs = and_parts (list_any (same_name n) names) _ h in
    let many : 1 ≤ times names n = count_by-any (same_name n) names hs.0 in
    let most : count_at es n + times names n ≤ 9999 = not_over-named es names names n fine hs.0 in
    and_from (has_count (new_entry user names n)) _
    (and_from (nat_le 1 (times names n)) (nat_le (times names n) 9999) (le-leb 1 (times names n) many) (le-leb (times names n) 9999 (omega arith)))
    (counts-new es names user ns fine hs.1)

raised-apart : (names : List LockName) (a b : Entry) → are_apart (raised names a) (raised names b) ≡ are_apart a b
raised-apart names a b = refl

-- each new name is named
pub new_names-named : (es : List Entry) (names : List LockName) → list_all (λ n. list_any (same_name n) names) (new_names es names) ≡ true
new_names-named es names = list_all-new_names (λ n. list_any (same_name n) names) es names (names-named names names (λ n h. h))

module _ (t : Table) (asker : Asker) (user : List ℕ) (rs : List Request) (good : IsTable t) (pair : IsPair asker) where
  granted-sound : first_bar t.entries asker (map (λ r. r.asked) rs) ≡ None → is_over t.entries (halves asker rs) ≡ false
      → IsSound (granted t.entries user (halves asker rs))
  granted-sound free fine =
      let es = t.entries in
      let names = halves asker rs in
      let ns = new_names es names in
      let old = map (raised names) es in
      let new = map (new_entry user names) ns in
      let of = list_all-new_names (of_pair asker) es names (halves-of_pair asker rs) in
      let un = list_all-new_names (unbarred es asker) es names (halves-unbarred es asker rs free) in
      let named = new_names-named es names in
      let absent = list_all-each_once (λ n. not (stands es n)) (filter (λ n. not (stands es n)) names) (list_all-filter_self (λ n. not (stands es n)) names) in
      let counts : list_all has_count (old ++ new) ≡ true =
      list_all-append has_count old new
      ∙ and_from _ _ (counts-raised es names es fine good.sound.counts (counts-own es good.sound.names)) (counts-new es names user ns fine named) in
      let together : all_pairs are_apart (old ++ new) ≡ true =
      all_pairs-append are_apart old new
      (all_pairs-map are_apart (raised names) (raised-apart names) es (sound-apart es good.sound))
      (all_pairs-new asker user names pair ns of (all_pairs-each_once (filter (λ n. not (stands es n)) names)))
      (list_all-raised asker user names pair es new (old-apart_all asker user names pair es ns of absent un)) in
      sound-from (old ++ new) counts together

  granted-within : is_full t (length (new_names t.entries (halves asker rs))) ≡ false → length (granted t.entries user (halves asker rs)) ≤ t.limit
  granted-within fine =
      let names = halves asker rs in
      let ns = new_names t.entries names in
      let n = length ns in
      let within = good.within in
      let long : length (granted t.entries user names) ≡ length t.entries + n =
      length-append (map (raised names) t.entries) (map (new_entry user names) ns)
      ∙ ap (λ (k : ℕ). k + length (map (new_entry user names) ns)) (length-map t.entries (raised names))
      ∙ ap (λ (k : ℕ). length t.entries + k) (length-map ns (new_entry user names)) in
      elim (and_cases (nat_lt 0 n) (nat_lt t.limit (length t.entries + n)) fine) [
        | inl none ↦ let few : n ≤ 0 = ltb-false 0 n none in omega arith
        | inr room ↦ let fits : length t.entries + n ≤ t.limit = ltb-false t.limit (length t.entries + n) room in omega arith
      ]

  -- A granted call keeps the table good.
  pub IsTable-asked : (es : List Entry) → asked t asker user rs ≡ Ok es → IsTable (with_entries t es)
  unfolding asked
  IsTable-asked es h =
      let names = halves asker rs in
      let a = unless_barred-Ok (first_bar t.entries asker (map (λ r. r.asked) rs)) _ es h in
      let b = unless_full-Ok t (length (new_names t.entries names)) _ es a.1 in
      let c = not_over-Ok (is_over t.entries names) (granted t.entries user names) es b.1 in
      let P : List Entry → Type 0 = λ xs. IsTable (with_entries t xs) in
      subst P c.1 (record { sound = granted-sound a.0 c.0; within = granted-within b.0; limit_fits = good.limit_fits })
