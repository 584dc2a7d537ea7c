-- What stands after a conversion may stand together.
use Rattle.std.proofs.Common.{◌≡◌, ℕ, ◌+◌, ◌≤◌, List, [], ◌∷◌, Bool, true, false, cond, not, ◌&&◌, ◌||◌, nat_eq, nat_le, length, Option, Some, None, Result, Ok}
use Rattle.std.proofs.Common.{Err, sym, ◌∙◌, ap, refl, arith, subst, inl, inr, ◌⊎◌}
use Rattle.std.specs.Prelude.{min, option_and_then}
use Rattle.std.specs.List.{list_any, list_all, filter, filter_map, find, cons_option}
use Rattle.std.specs.Option.{option_map_or}
use Rattle.std.specs.Str.{bytes_eq}
use Rattle.std.specs.Cmp.Lexicographic.{pointwise}
use Rattle.std.proofs.lemmas.Bool.{cases_Bool, and_parts, and_from, and_left, and_right, or_parts, or_from, not_from_false, not_from_true, not-true, leb-true, le-leb}
use Rattle.std.proofs.lemmas.Bool.Decides.{nat_tests}
use Rattle.enq_base.specs.Owners.{same_owner}
use Rattle.mode_rules.specs.declared.Mode.{Mode}
use Rattle.mode_rules.specs.declared.Mode.TheVariants.{S, E, X, O}
use Rattle.mode_rules.specs.Modes.{same_mode}
use Rattle.lock_entry.specs.declared.entry.Asked.{Asked}
use Rattle.lock_entry.specs.declared.entry.Asker.{Asker}
use Rattle.lock_entry.specs.declared.entry.Entry.{Entry}
use Rattle.lock_entry.specs.declared.fault.AskFault.{AskFault}
use Rattle.lock_entry.specs.declared.fault.AskFault.TheVariants.{Lost, Count}
use Rattle.lock_entry.specs.Argument.{bytes_meet, meets}
use Rattle.lock_entry.specs.Names.{same_place, same_name, has_name, stands, name_of, asked_of, names_differ, all_pairs}
use Rattle.lock_entry.specs.Pairs.{IsPair, in_pair, are_related}
use Rattle.lock_entry.specs.Barring.{places_meet}
use Rattle.lock_entry.specs.Sound.{has_count, are_apart, in_conflict, IsSound}
use Rattle.lock_entry.specs.Table.{Table, IsTable, with_entries}
use Rattle.lock_entry.specs.Granting.{unless_barred}
use Rattle.lock_entry.specs.Turning.{name_in, with_count_of, turned_by, turned_entry, turned}
use Rattle.lock_entry.specs.Converting.{Conversion, converted, conversion, turns, gives_way, is_lost, withstands, first_withstanding, sum_exceeds}
use Rattle.lock_entry.proofs.lemmas.Naming.{bytes_eq-same, same_name-sym}
use Rattle.lock_entry.proofs.lemmas.Lists.{list_all-both, list_all-true, list_all-weaken, list_all-not_any, list_any-weaken, length-filter_map, length-filter_le, find-None, option_or-None}
use Rattle.lock_laws.proofs.Sounds.{sound-apart, sound-from}
use Rattle.lock_laws.proofs.Related.{pair-related, related-calm, apart-from}
use Rattle.lock_laws.proofs.Grants.{unless_barred-Ok}

pointwise-sym : (f : ℕ → ℕ → Bool) → ((a b : ℕ) → f a b ≡ f b a) → (xs ys : List ℕ) → pointwise f xs ys ≡ pointwise f ys xs
pointwise-sym f s [] [] = refl
pointwise-sym f s [] (y ∷ ys) = refl
pointwise-sym f s (x ∷ xs) [] = refl
pointwise-sym f s (x ∷ xs) (y ∷ ys) =
    ap (λ (b : Bool). b && pointwise f xs ys) (s x y) ∙ ap (λ (b : Bool). f y x && b) (pointwise-sym f s xs ys)

nat_eq-sym : (a b : ℕ) → nat_eq a b ≡ nat_eq b a
nat_eq-sym a b = grind (arith, nat_tests)

bytes_meet-sym : (a b : ℕ) → bytes_meet a b ≡ bytes_meet b a
bytes_meet-sym a b = grind (arith, nat_tests)

places_meet-sym : (a b : Asked) → places_meet a b ≡ places_meet b a
places_meet-sym a b =
    ap (λ (t : Bool). t && meets a.pattern b.pattern) (pointwise-sym nat_eq nat_eq-sym a.table b.table)
    ∙ ap (λ (t : Bool). bytes_eq b.table a.table && t) (pointwise-sym bytes_meet bytes_meet-sym a.pattern b.pattern)

-- what meets a place meets what is asked for there
places_meet-place : (b a k : Asked) → same_place k a ≡ true → places_meet b a ≡ true → places_meet b k ≡ true
places_meet-place b a k s m =
    let ss = and_parts (bytes_eq k.table a.table) (bytes_eq k.pattern a.pattern) s in
    let t : k.table ≡ a.table = bytes_eq-same k.table a.table ss.0 in
    let p : k.pattern ≡ a.pattern = bytes_eq-same k.pattern a.pattern ss.1 in
    ap (λ (x : List ℕ). bytes_eq b.table x && meets b.pattern k.pattern) t
    ∙ ap (λ (x : List ℕ). bytes_eq b.table a.table && meets b.pattern x) p
    ∙ m

-- a filter of what a filter_map keeps
filter-filter_map : {A B : Type 0} (q : B → Bool) (f : A → Option B) (xs : List A)
    → filter q (filter_map f xs) ≡ filter_map (λ x. option_and_then (λ y. cond (q y) (Some y) None) (f x)) xs
filter-filter_map q f [] = refl
filter-filter_map {A = A} {B = B} q f (x ∷ xs) = go (filter-filter_map q f xs) (f x)
  where
    put : (b : Bool) (y : B) (ys : List B) → cond b (y ∷ ys) ys ≡ cons_option (cond b (Some y) None) ys
    put true y ys = refl
    put false y ys = refl

    go : filter q (filter_map f xs) ≡ filter_map (λ z. option_and_then (λ y. cond (q y) (Some y) None) (f z)) xs → (o : Option B)
        → filter q (cons_option o (filter_map f xs)) ≡ cons_option (option_and_then (λ y. cond (q y) (Some y) None) o)
        (filter_map (λ z. option_and_then (λ y. cond (q y) (Some y) None) (f z)) xs)
    go rest None = rest
    go rest (Some y) = put (q y) y (filter q (filter_map f xs)) ∙ ap (λ (ys : List B). cons_option (cond (q y) (Some y) None) ys) rest

module _ (asker : Asker) (asked : List Asked) (pair : IsPair asker) where
  -- no argument is withstood by the entry
  abbrev steady : Entry → Bool
  steady b = not (list_any (λ k. withstands asker k b) asked)

  abbrev stays : Entry → Bool
  stays e = not (gives_way asker asked e)

  -- what becomes of an entry of the whole list
  abbrev after : List Entry → Entry → Option Entry
  after all e = option_and_then (λ y. cond (stays y) (Some y) None) (turned_entry (turns asker asked) all e)

  -- an entry outside the pair that stays doesn't meet one that turns
  turned-clear : (a b : Entry) → turns asker asked a ≡ true → in_pair asker b.owner ≡ false → stays b ≡ true → steady b ≡ true
      → places_meet (asked_of b) (asked_of a) ≡ false
  turned-clear a b turned out kept calm =
      let asks = (and_parts (in_pair asker a.owner) (list_any (λ k. same_place k (asked_of a)) asked) turned).1 in
      elim (cases_Bool (places_meet (asked_of b) (asked_of a))) [
        | inr clear ↦ clear
        | inl meet ↦
            let outside : not (in_pair asker b.owner) ≡ true = not_from_false (in_pair asker b.owner) out in
            elim (cases_Bool (same_mode b.mode O)) [
              | inl mild ↦
                  let some = list_any-weaken (λ k. same_place k (asked_of a)) (places_meet (asked_of b))
                  (λ k s. places_meet-place (asked_of b) (asked_of a) k s meet) asked asks in
                  absurd (let goes : gives_way asker asked b ≡ true = and_from _ _ outside (and_from _ _ mild some) in let k = not-true _ kept in cc)
              | inr strong ↦
                  let some = list_any-weaken (λ k. same_place k (asked_of a)) (λ k. withstands asker k b)
                  (λ k s. and_from (not (in_pair asker b.owner)) _ outside
                  (and_from (not (same_mode b.mode O)) _ (not_from_false (same_mode b.mode O) strong)
                  (places_meet-place (asked_of b) (asked_of a) k s meet))) asked asks in
                  absurd (let none = not-true _ calm in cc)
            ]
      ]

  -- an entry that stays, but for its count
  record Keeps (a a' : Entry) : Type 0 where
    n : ℕ
    is : record a { count = n } ≡ a'
    kept : stays a ≡ true
    good : has_count a ≡ true → has_count a' ≡ true

  -- an entry that turns, whose E entry doesn't stand
  record Turns (all : List Entry) (a a' : Entry) : Type 0 where
    is : record a { mode = E } ≡ a'
    mild : a.mode ≡ O
    turned : turns asker asked a ≡ true
    alone : stands all (name_in E a) ≡ false

  in_pair-stays : (a : Entry) → turns asker asked a ≡ true → stays a ≡ true
  in_pair-stays a h =
      let within = (and_parts (in_pair asker a.owner) _ h).0 in
      not_from_false (gives_way asker asked a) (and_left (not (in_pair asker a.owner)) _ (not_from_true (in_pair asker a.owner) within))

  same-Keeps : (a : Entry) → stays a ≡ true → Keeps a a
  same-Keeps a h = record { n = a.count; is = refl; kept = h; good = λ g. g }

  more-good : (a o : Entry) → has_count a ≡ true → has_count (with_count_of a o) ≡ true
  more-good a o h =
      let hs = and_parts (nat_le 1 a.count) (nat_le a.count 9999) h in
      let low : 1 ≤ a.count = leb-true 1 a.count hs.0 in
      and_from (nat_le 1 (min 9999 (a.count + o.count))) (nat_le (min 9999 (a.count + o.count)) 9999)
      (le-leb 1 (min 9999 (a.count + o.count)) (omega arith)) (le-leb (min 9999 (a.count + o.count)) 9999 (omega arith))

  -- what is kept of an entry that passes the test of staying
  kept-is : (y a' : Entry) → stays y ≡ true → cond (stays y) (Some y) None ≡ Some a' → y ≡ a'
  kept-is y a' h k = let l = rw h at k in cc

  by_mode : (all : List Entry) (a a' : Entry) (m : Mode) → a.mode ≡ m → turns asker asked a ≡ true
      → option_and_then (λ y. cond (stays y) (Some y) None) (turned_by m all a) ≡ Some a' → Keeps a a' ⊎ Turns all a a'
  by_mode all a a' S m t h = let s = kept-is a a' (in_pair-stays a t) h in inl (subst (Keeps a) s (same-Keeps a (in_pair-stays a t)))
  by_mode all a a' X m t h = let s = kept-is a a' (in_pair-stays a t) h in inl (subst (Keeps a) s (same-Keeps a (in_pair-stays a t)))
  by_mode all a a' E m t h = inl (go (find (has_name (name_in O a)) all) h)
    where
      go : (o : Option Entry) → option_and_then (λ y. cond (stays y) (Some y) None) (Some (option_map_or (with_count_of a) o a)) ≡ Some a' → Keeps a a'
      go None k = subst (Keeps a) (kept-is a a' (in_pair-stays a t) k) (same-Keeps a (in_pair-stays a t))
      go (Some o) k =
          let s : with_count_of a o ≡ a' = kept-is (with_count_of a o) a' (in_pair-stays a t) k in
          subst (Keeps a) s (record { n = min 9999 (a.count + o.count); is = refl; kept = in_pair-stays a t; good = more-good a o })
  by_mode all a a' O m t h =
      elim (cases_Bool (stands all (name_in E a))) [
        | inl twin ↦ absurd (let k = rw twin at h in cc)
        | inr alone ↦
            let k = rw alone at h in
            let b : Entry = record a { mode = E } in
            let s : b ≡ a' = kept-is b a' (in_pair-stays b t) k in
            inr (record { is = s; mild = m; turned = t; alone = alone })
      ]

  after-cases : (all : List Entry) (a a' : Entry) → after all a ≡ Some a' → Keeps a a' ⊎ Turns all a a'
  after-cases all a a' h =
      elim (cases_Bool (turns asker asked a)) [
        | inl t ↦ by_mode all a a' a.mode refl t (rw t at h)
        | inr f ↦
            let k : cond (stays a) (Some a) None ≡ Some a' = rw f at h in
            elim (cases_Bool (stays a)) [
              | inl s ↦ let e = kept-is a a' s k in inl (subst (Keeps a) e (same-Keeps a s))
              | inr g ↦ absurd (let l = rw g at k in cc)
            ]
      ]

  unmet-calm : (a b : Entry) → places_meet (asked_of a) (asked_of b) ≡ false → in_conflict a b ≡ false
  unmet-calm a b m = and_right (not (are_related a.owner b.owner)) _ (and_left (places_meet (asked_of a) (asked_of b)) _ m)

  -- one that turns and one that stays
  conflict-turned : (a b : Entry) → turns asker asked a ≡ true → stays b ≡ true → steady b ≡ true → (in_conflict (record a { mode = E }) b ≡ false)
      × (in_conflict b (record a { mode = E }) ≡ false)
  conflict-turned a b t kept calm =
      let within = (and_parts (in_pair asker a.owner) _ t).0 in
      elim (cases_Bool (in_pair asker b.owner)) [
        | inl inside ↦ (
          related-calm (record a { mode = E }) b (pair-related asker a.owner b.owner pair within inside),
          related-calm b (record a { mode = E }) (pair-related asker b.owner a.owner pair inside within),
        )
        | inr outside ↦
            let clear = turned-clear a b t outside kept calm in (
              unmet-calm (record a { mode = E }) b (places_meet-sym (asked_of a) (asked_of b) ∙ clear),
              unmet-calm b (record a { mode = E }) clear,
            )
      ]

  through : (x y a' b' : Entry) → x ≡ a' → y ≡ b' → are_apart x y ≡ true → are_apart a' b' ≡ true
  through x y a' b' ex ey h = sym (ap (λ (z : Entry). are_apart z y) ex ∙ ap (are_apart a') ey) ∙ h

  both-turn : (a b : Entry) → a.mode ≡ O → b.mode ≡ O → same_name (name_of a) (name_of b) ≡ same_name (name_in E a) (name_in E b)
  both-turn a b ma mb =
      ap (λ (m : Mode). same_owner a.owner b.owner && (same_place (asked_of a) (asked_of b) && same_mode m b.mode)) ma
      ∙ ap (λ (m : Mode). same_owner a.owner b.owner && (same_place (asked_of a) (asked_of b) && same_mode O m)) mb

  pair-apart : (all : List Entry) (a b a' b' : Entry) → Keeps a a' ⊎ Turns all a a' → Keeps b b' ⊎ Turns all b b' → are_apart a b ≡ true
      → (stands all (name_in E a) ≡ false → has_name (name_in E a) b ≡ false) → (stands all (name_in E b) ≡ false → has_name (name_in E b) a ≡ false)
      → steady a ≡ true → steady b ≡ true → are_apart a' b' ≡ true
  pair-apart all a b a' b' (inl ka) (inl kb) h na nb sa sb = through (record a { count = ka.n }) (record b { count = kb.n }) a' b' ka.is kb.is h
  pair-apart all a b a' b' (inr ka) (inr kb) h na nb sa sb =
      let parts = and_parts (names_differ a b) (not (in_conflict a b)) h in
      let wa = (and_parts (in_pair asker a.owner) _ ka.turned).0 in
      let wb = (and_parts (in_pair asker b.owner) _ kb.turned).0 in
      through (record a { mode = E }) (record b { mode = E }) a' b' ka.is kb.is
      (apart-from (record a { mode = E }) (record b { mode = E })
      (ap not (sym (both-turn a b ka.mild kb.mild)) ∙ parts.0)
      (related-calm (record a { mode = E }) (record b { mode = E }) (pair-related asker a.owner b.owner pair wa wb)))
  pair-apart all a b a' b' (inr ka) (inl kb) h na nb sa sb =
      through (record a { mode = E }) (record b { count = kb.n }) a' b' ka.is kb.is
      (apart-from (record a { mode = E }) (record b { count = kb.n }) (not_from_false (has_name (name_in E a) b) (na ka.alone))
      (conflict-turned a b ka.turned kb.kept sb).0)
  pair-apart all a b a' b' (inl ka) (inr kb) h na nb sa sb =
      through (record a { count = ka.n }) (record b { mode = E }) a' b' ka.is kb.is
      (apart-from (record a { count = ka.n }) (record b { mode = E })
      (not_from_false (same_name (name_of a) (name_in E b)) (same_name-sym (name_of a) (name_in E b) ∙ nb kb.alone))
      (conflict-turned b a kb.turned ka.kept sa).1)

  -- what no entry of all passes, none of these passes
  abbrev Sub : List Entry → List Entry → Type 0
  Sub all es = (p : Entry → Bool) → list_any p all ≡ false → list_any p es ≡ false

  sub-tail : (all : List Entry) (a : Entry) (es : List Entry) → Sub all (a ∷ es) → Sub all es
  sub-tail all a es s p h = (or_parts (p a) (list_any p es) (s p h)).1

  sub-skip : (all : List Entry) (a b : Entry) (es : List Entry) → Sub all (a ∷ b ∷ es) → Sub all (a ∷ es)
  sub-skip all a b es s p h =
      let parts = or_parts (p a) (list_any p (b ∷ es)) (s p h) in
      or_from (p a) (list_any p es) parts.0 (or_parts (p b) (list_any p es) parts.1).1

  from-one : (all : List Entry) (a a' : Entry) (es : List Entry) → Keeps a a' ⊎ Turns all a a' → list_all (are_apart a) es ≡ true → Sub all (a ∷ es)
      → steady a ≡ true → list_all steady es ≡ true → list_all (are_apart a') (filter_map (after all) es) ≡ true
  from-one all a a' [] k h s sa ss = refl
  from-one all a a' (b ∷ es) k h s sa ss = go (from-one all a a' es k hs.1 (sub-skip all a b es s) sa ts.1) (after all b) refl
    where
      hs : (are_apart a b ≡ true) × (list_all (are_apart a) es ≡ true)
      hs = and_parts (are_apart a b) (list_all (are_apart a) es) h

      ts : (steady b ≡ true) × (list_all steady es ≡ true)
      ts = and_parts (steady b) (list_all steady es) ss

      first : (p : Entry → Bool) → list_any p all ≡ false → p a ≡ false
      first p n = (or_parts (p a) (list_any p (b ∷ es)) (s p n)).0

      second : (p : Entry → Bool) → list_any p all ≡ false → p b ≡ false
      second p n = (or_parts (p b) (list_any p es) (or_parts (p a) (list_any p (b ∷ es)) (s p n)).1).0

      go : list_all (are_apart a') (filter_map (after all) es) ≡ true → (o : Option Entry) → after all b ≡ o
          → list_all (are_apart a') (cons_option o (filter_map (after all) es)) ≡ true
      go rest None e = rest
      go rest (Some b') e =
          and_from (are_apart a' b') _
          (pair-apart all a b a' b' k (after-cases all b b' e) hs.0 (second (has_name (name_in E a))) (first (has_name (name_in E b))) sa ts.0)
          rest

  all_pairs-after : (all es : List Entry) → Sub all es → all_pairs are_apart es ≡ true → list_all steady es ≡ true
      → all_pairs are_apart (filter_map (after all) es) ≡ true
  all_pairs-after all [] s h ss = refl
  all_pairs-after all (a ∷ es) s h ss = go (all_pairs-after all es (sub-tail all a es s) hs.1 ts.1) (after all a) refl
    where
      hs : (list_all (are_apart a) es ≡ true) × (all_pairs are_apart es ≡ true)
      hs = and_parts (list_all (are_apart a) es) (all_pairs are_apart es) h

      ts : (steady a ≡ true) × (list_all steady es ≡ true)
      ts = and_parts (steady a) (list_all steady es) ss

      go : all_pairs are_apart (filter_map (after all) es) ≡ true → (o : Option Entry) → after all a ≡ o
          → all_pairs are_apart (cons_option o (filter_map (after all) es)) ≡ true
      go rest None e = rest
      go rest (Some a') e = and_from _ _ (from-one all a a' es (after-cases all a a' e) hs.0 s ts.0 ts.1) rest

  counts-after : (all es : List Entry) → list_all has_count es ≡ true → list_all has_count (filter_map (after all) es) ≡ true
  counts-after all [] h = refl
  counts-after all (a ∷ es) h = go (counts-after all es hs.1) (after all a) refl
    where
      hs : (has_count a ≡ true) × (list_all has_count es ≡ true)
      hs = and_parts (has_count a) (list_all has_count es) h

      one : (a' : Entry) → Keeps a a' ⊎ Turns all a a' → has_count a' ≡ true
      one a' (inl k) = k.good hs.0
      one a' (inr k) = sym (ap has_count k.is) ∙ hs.0

      go : list_all has_count (filter_map (after all) es) ≡ true → (o : Option Entry) → after all a ≡ o
          → list_all has_count (cons_option o (filter_map (after all) es)) ≡ true
      go rest None e = rest
      go rest (Some a') e = and_from (has_count a') _ (one a' (after-cases all a a' e)) rest

  -- where no argument is withstood, no entry withstands one
  not_or : (x y : Bool) → not x && not y ≡ true → not (x || y) ≡ true
  not_or x y h =
      let hs = and_parts (not x) (not y) h in not_from_false (x || y) (or_from x y (not-true x hs.0) (not-true y hs.1))

  all-steady : (all : List Entry) (ks : List Asked) → first_withstanding all asker ks ≡ None
      → list_all (λ b. not (list_any (λ k. withstands asker k b) ks)) all ≡ true
  all-steady all [] h = list_all-true all
  all-steady all (k ∷ ks) h =
      let parts = option_or-None (find (withstands asker k) all) (first_withstanding all asker ks) h in
      list_all-weaken (λ b. not (withstands asker k b) && not (list_any (λ j. withstands asker j b) ks))
      (λ b. not (withstands asker k b || list_any (λ j. withstands asker j b) ks))
      (λ b. not_or (withstands asker k b) (list_any (λ j. withstands asker j b) ks)) all
      (list_all-both (λ b. not (withstands asker k b)) (λ b. not (list_any (λ j. withstands asker j b) ks)) all
      (list_all-not_any (withstands asker k) all (find-None (withstands asker k) all parts.0))
      (all-steady all ks parts.1))

  conversion-sound : (es : List Entry) → IsSound es → first_withstanding es asker asked ≡ None → IsSound (conversion es asker asked).entries
  conversion-sound es good none =
      let same : (conversion es asker asked).entries ≡ filter_map (after es) es = filter-filter_map stays (turned_entry (turns asker asked) es) es in
      rw same (sound-from (filter_map (after es) es)
      (counts-after es es good.counts)
      (all_pairs-after es es (λ p k. k) (sound-apart es good) (all-steady es asked none)))

not_lost-Ok : (b : Bool) (r : Result Conversion AskFault) (d : Conversion) → cond b (Err Lost) r ≡ Ok d → r ≡ Ok d
not_lost-Ok true r d h = absurd (cc)
not_lost-Ok false r d h = h

not_over-Ok : (b : Bool) (c d : Conversion) → cond b (Err Count) (Ok c) ≡ Ok d → c ≡ d
not_over-Ok true c d h = absurd (cc)
not_over-Ok false c d h = cc

-- A conversion keeps the table good.
pub IsTable-converted : (t : Table) (asker : Asker) (asked : List Asked) (c : Conversion) → IsTable t → IsPair asker → converted t.entries asker asked ≡ Ok c
    → IsTable (with_entries t c.entries)
unfolding converted
IsTable-converted t asker asked c good pair h =
    let es = t.entries in
    let new = conversion es asker asked in
    let a = not_lost-Ok (is_lost es asker asked) _ c h in
    let b = unless_barred-Ok (first_withstanding es asker asked) _ c a in
    let d = not_over-Ok (sum_exceeds es asker asked) new c b.1 in
    let within = good.within in
    let fewer : length (turned es (turns asker asked)) ≤ length es = length-filter_map (turned_entry (turns asker asked) es) es in
    let short : length new.entries ≤ length (turned es (turns asker asked)) =
    length-filter_le (λ e. not (gives_way asker asked e)) (turned es (turns asker asked)) in
    let P : Conversion → Type 0 = λ x. IsTable (with_entries t x.entries) in
    subst P d (record { sound = conversion-sound asker asked pair es good.sound b.0; within = omega arith; limit_fits = good.limit_fits })
