-- Entries turn by one test after another as by both at once.
use Rattle.std.proofs.Common.{◌≡◌, ℕ, List, [], ◌∷◌, ◌++◌, Bool, true, false, cond, not, ◌&&◌, ◌||◌, Option, Some, None, sym, ◌∙◌, ap, refl, inl, inr}
use Rattle.std.specs.Prelude.{option_and_then, is_some, min, ◌+◌}
use Rattle.std.specs.List.{list_any, filter_map, find, cons_option}
use Rattle.std.specs.Option.{option_map_or}
use Rattle.std.proofs.lemmas.Bool.{cases_Bool, or_from}
use Rattle.std.proofs.lemmas.List.Folds.{list_any-append}
use Rattle.enq_base.specs.Owners.{same_owner}
use Rattle.mode_rules.specs.declared.Mode.{Mode}
use Rattle.mode_rules.specs.declared.Mode.TheVariants.{S, E, X, O}
use Rattle.mode_rules.specs.Modes.{same_mode}
use Rattle.lock_entry.specs.declared.entry.Asked.{Asked}
use Rattle.lock_entry.specs.declared.entry.Asker.{Asker}
use Rattle.lock_entry.specs.declared.entry.Entry.{Entry}
use Rattle.lock_entry.specs.Names.{has_name, stands, name_of, asked_of, same_place}
use Rattle.lock_entry.specs.Pairs.{in_pair}
use Rattle.lock_entry.specs.Turning.{name_in, with_count_of, turned_by, turned_entry, turned, is_at}
use Rattle.lock_entry.specs.Converting.{turns}
use Rattle.lock_entry.proofs.lemmas.Naming.{same_owner-sym, same_name-same}
use Rattle.lock_entry.proofs.lemmas.Lists.{find-none_from}

-- a test that looks at owner, table and argument alone
pub record IsPlaceTest (p : Entry → Bool) : Type 0 where
  pub mode : (e : Entry) (m : Mode) → p (record e { mode = m }) ≡ p e
  pub count : (e : Entry) (n : ℕ) → p (record e { count = n }) ≡ p e
  pub place : (e x : Entry) → e.owner ≡ x.owner → e.table ≡ x.table → e.pattern ≡ x.pattern → p e ≡ p x

pub turns-IsPlaceTest : (asker : Asker) (asked : List Asked) → IsPlaceTest (turns asker asked)
turns-IsPlaceTest asker asked = record { mode = λ e m. refl; count = λ e n. refl; place = λ e x o t p. rw (o, t, p) refl }

filter_map-then : {A B C : Type 0} (f : A → Option B) (g : B → Option C) (xs : List A)
    → filter_map g (filter_map f xs) ≡ filter_map (λ x. option_and_then g (f x)) xs
filter_map-then f g [] = refl
filter_map-then {A = A} {B = B} {C = C} f g (x ∷ xs) = go (filter_map-then f g xs) (f x)
  where
    go : filter_map g (filter_map f xs) ≡ filter_map (λ z. option_and_then g (f z)) xs → (o : Option B)
        → filter_map g (cons_option o (filter_map f xs)) ≡ cons_option (option_and_then g o) (filter_map (λ z. option_and_then g (f z)) xs)
    go rest None = rest
    go rest (Some y) = ap (λ (zs : List C). cons_option (g y) zs) rest

filter_map-agree : {A B : Type 0} (f g : A → Option B) → ((x : A) → f x ≡ g x) → (xs : List A) → filter_map f xs ≡ filter_map g xs
filter_map-agree f g k [] = refl
filter_map-agree {B = B} f g k (x ∷ xs) = ap (λ (o : Option B). cons_option o (filter_map f xs)) (k x)
    ∙ ap (λ (ys : List B). cons_option (g x) ys) (filter_map-agree f g k xs)

filter_map-some : {X : Type 0} (xs : List X) → filter_map (λ x. Some x) xs ≡ xs
filter_map-some [] = refl
filter_map-some (x ∷ xs) = ap (λ ys. x ∷ ys) (filter_map-some xs)

list_any-find : {X : Type 0} (p : X → Bool) (xs : List X) → list_any p xs ≡ is_some (find p xs)
list_any-find p [] = refl
list_any-find p (x ∷ xs) = elim (cases_Bool (p x)) [ inl e ↦ rw e refl | inr e ↦ rw e (list_any-find p xs) ]

-- the place of an entry stays where it turns
record SamePlace (x y : Entry) : Type 0 where
  owner : x.owner ≡ y.owner
  table : x.table ≡ y.table
  pattern : x.pattern ≡ y.pattern

turned_by-place : (m : Mode) (es : List Entry) (x y : Entry) → turned_by m es x ≡ Some y → SamePlace x y
turned_by-place S es x y h = let s : x ≡ y = cc in record { owner = ap (λ z. z.owner) s; table = ap (λ z. z.table) s; pattern = ap (λ z. z.pattern) s }
turned_by-place X es x y h = let s : x ≡ y = cc in record { owner = ap (λ z. z.owner) s; table = ap (λ z. z.table) s; pattern = ap (λ z. z.pattern) s }
turned_by-place E es x y h = go (find (has_name (name_in O x)) es) h
  where
    go : (o : Option Entry) → Some (option_map_or (with_count_of x) o x) ≡ Some y → SamePlace x y
    go None e = let s : x ≡ y = cc in record { owner = ap (λ z. z.owner) s; table = ap (λ z. z.table) s; pattern = ap (λ z. z.pattern) s }
    go (Some o) e = let s : with_count_of x o ≡ y = cc in record { owner = ap (λ z. z.owner) s; table = ap (λ z. z.table) s; pattern = ap (λ z. z.pattern) s }
turned_by-place O es x y h =
    elim (cases_Bool (stands es (name_in E x))) [
      | inl twin ↦ absurd (let k = rw twin at h in cc)
      | inr alone ↦
          let k = rw alone at h in
          let s : record x { mode = E } ≡ y = cc in
          record { owner = ap (λ z. z.owner) s; table = ap (λ z. z.table) s; pattern = ap (λ z. z.pattern) s }
    ]

-- what turned isn't optimistic
turned_by-mode : (m : Mode) (es : List Entry) (x y : Entry) → x.mode ≡ m → turned_by m es x ≡ Some y → same_mode O y.mode ≡ false
turned_by-mode S es x y m h = let s : x ≡ y = cc in ap (λ z. same_mode O z.mode) (sym s) ∙ ap (same_mode O) m
turned_by-mode X es x y m h = let s : x ≡ y = cc in ap (λ z. same_mode O z.mode) (sym s) ∙ ap (same_mode O) m
turned_by-mode E es x y m h = go (find (has_name (name_in O x)) es) h
  where
    go : (o : Option Entry) → Some (option_map_or (with_count_of x) o x) ≡ Some y → same_mode O y.mode ≡ false
    go None e = let s : x ≡ y = cc in ap (λ z. same_mode O z.mode) (sym s) ∙ ap (same_mode O) m
    go (Some o) e = let s : with_count_of x o ≡ y = cc in ap (λ z. same_mode O z.mode) (sym s) ∙ ap (same_mode O) m
turned_by-mode O es x y m h =
    elim (cases_Bool (stands es (name_in E x))) [
      | inl twin ↦ absurd (let k = rw twin at h in cc)
      | inr alone ↦
          let k = rw alone at h in
          let s : record x { mode = E } ≡ y = cc in
          ap (λ z. same_mode O z.mode) (sym s)
    ]

-- an entry with a name of e's place is at e's place
named-place : (m : Mode) (e x : Entry) → has_name (name_in m e) x ≡ true → SamePlace e x
named-place m e x h =
    let s : name_in m e ≡ name_of x = same_name-same (name_in m e) (name_of x) h in
    record { owner = ap (λ n. n.owner) s; table = ap (λ n. n.asked.table) s; pattern = ap (λ n. n.asked.pattern) s }

module _ (p : Entry → Bool) (is : IsPlaceTest p) (es : List Entry) where
  -- an entry of another place has no name of this one
  elsewhere : (m : Mode) (e x : Entry) (b : Bool) → p e ≡ not b → p x ≡ b → has_name (name_in m e) x ≡ false
  elsewhere m e x b he hx =
      elim (cases_Bool (has_name (name_in m e) x)) [
        | inr other ↦ other
        | inl named ↦
            let s = named-place m e x named in
            let k : not b ≡ b = sym he ∙ is.place e x s.owner s.table s.pattern ∙ hx in
            absurd (not_same b k)
      ]
    where
      not_same : (b : Bool) → not b ≡ b → ⊥
      not_same true h = cc
      not_same false h = cc

  -- no O entry is left where they turned
  turned_entry-gone : (e x y : Entry) → p e ≡ true → turned_entry p es x ≡ Some y → has_name (name_in O e) y ≡ false
  turned_entry-gone e x y he h =
      elim (cases_Bool (p x)) [
        | inr away ↦
            let k = rw away at h in
            let s : x ≡ y = cc in
            ap (has_name (name_in O e)) (sym s) ∙ elsewhere O e x false he away
        | inl at ↦
            let k : turned_by x.mode es x ≡ Some y = rw at at h in
            let mild : same_mode O y.mode ≡ false = turned_by-mode x.mode es x y refl k in
            no_mode (same_owner e.owner y.owner) (same_place (asked_of e) (asked_of y)) (same_mode O y.mode) mild
      ]
    where
      no_mode : (a b c : Bool) → c ≡ false → (a && (b && c)) ≡ false
      no_mode true true c h = h
      no_mode true false c h = refl
      no_mode false b c h = refl

  gone : (e : Entry) (xs : List Entry) → p e ≡ true → list_any (has_name (name_in O e)) (filter_map (turned_entry p es) xs) ≡ false
  gone e [] he = refl
  gone e (x ∷ xs) he = go (gone e xs he) (turned_entry p es x) refl
    where
      go : list_any (has_name (name_in O e)) (filter_map (turned_entry p es) xs) ≡ false → (o : Option Entry) → turned_entry p es x ≡ o
          → list_any (has_name (name_in O e)) (cons_option o (filter_map (turned_entry p es) xs)) ≡ false
      go rest None h = rest
      go rest (Some y) h = or_from _ _ (turned_entry-gone e x y he h) rest

  -- what is found elsewhere stays
  found_elsewhere : (m : Mode) (e : Entry) (xs : List Entry) → p e ≡ false
      → find (has_name (name_in m e)) (filter_map (turned_entry p es) xs) ≡ find (has_name (name_in m e)) xs
  found_elsewhere m e [] he = refl
  found_elsewhere m e (x ∷ xs) he =
      let n = name_in m e in
      let rest = found_elsewhere m e xs he in
      elim (cases_Bool (p x)) [
        | inr away ↦
            ap (λ (o : Option Entry). find (has_name n) (cons_option o (filter_map (turned_entry p es) xs)))
            (ap (λ b. cond b (turned_by x.mode es x) (Some x)) away)
            ∙ ap (λ (f : Option Entry). cond (has_name n x) (Some x) f) rest
        | inl at ↦
            skipped m e x xs he at rest (turned_by x.mode es x) refl
      ]
    where
      skipped : (m : Mode) (e x : Entry) (xs : List Entry) → p e ≡ false → p x ≡ true
          → find (has_name (name_in m e)) (filter_map (turned_entry p es) xs) ≡ find (has_name (name_in m e)) xs → (o : Option Entry)
          → turned_by x.mode es x ≡ o
          → find (has_name (name_in m e)) (cons_option (cond (p x) (turned_by x.mode es x) (Some x)) (filter_map (turned_entry p es) xs)) ≡ cond
          (has_name (name_in m e) x) (Some x) (find (has_name (name_in m e)) xs)
      skipped m e x xs he at rest None h =
          ap (λ b. find (has_name (name_in m e)) (cons_option (cond b (turned_by x.mode es x) (Some x)) (filter_map (turned_entry p es) xs))) at
          ∙ ap (λ (o : Option Entry). find (has_name (name_in m e)) (cons_option o (filter_map (turned_entry p es) xs))) h
          ∙ rest
          ∙ sym (ap (λ b. cond b (Some x) (find (has_name (name_in m e)) xs)) (elsewhere m e x true he at))
      skipped m e x xs he at rest (Some y) h =
          let s = turned_by-place x.mode es x y h in
          let also : p y ≡ true = sym (is.place x y s.owner s.table s.pattern) ∙ at in
          ap (λ b. find (has_name (name_in m e)) (cons_option (cond b (turned_by x.mode es x) (Some x)) (filter_map (turned_entry p es) xs))) at
          ∙ ap (λ (o : Option Entry). find (has_name (name_in m e)) (cons_option o (filter_map (turned_entry p es) xs))) h
          ∙ ap (λ b. cond b (Some y) (find (has_name (name_in m e)) (filter_map (turned_entry p es) xs))) (elsewhere m e y true he also)
          ∙ rest
          ∙ sym (ap (λ b. cond b (Some x) (find (has_name (name_in m e)) xs)) (elsewhere m e x true he at))

module _ (p q : Entry → Bool) (is : IsPlaceTest p) (es : List Entry) where
  abbrev after : List Entry
  after = turned es p

  none_there : (e : Entry) → p e ≡ true → find (has_name (name_in O e)) after ≡ None
  none_there e he = find-none_from (has_name (name_in O e)) after (gone p is es e es he)

  -- an entry that turned doesn't turn again
  once : (m : Mode) (e : Entry) → e.mode ≡ m → p e ≡ true → option_and_then (turned_entry q after) (turned_by m es e) ≡ turned_by m es e
  once S e m he = same_kept (q e) e m
    where
      same_kept : (b : Bool) (e : Entry) → e.mode ≡ S → cond b (turned_by e.mode after e) (Some e) ≡ Some e
      same_kept true e m = ap (λ k. turned_by k after e) m
      same_kept false e m = refl
  once X e m he = same_kept (q e) e m
    where
      same_kept : (b : Bool) (e : Entry) → e.mode ≡ X → cond b (turned_by e.mode after e) (Some e) ≡ Some e
      same_kept true e m = ap (λ k. turned_by k after e) m
      same_kept false e m = refl
  once E e m he = go (find (has_name (name_in O e)) es)
    where
      kept : (b : Bool) (y : Entry) → y.mode ≡ E → p y ≡ true → cond b (turned_by y.mode after y) (Some y) ≡ Some y
      kept false y my hy = refl
      kept true y my hy = ap (λ k. turned_by k after y) my ∙ ap (λ (o : Option Entry). Some (option_map_or (with_count_of y) o y)) (none_there y hy)

      go : (o : Option Entry) → turned_entry q after (option_map_or (with_count_of e) o e) ≡ Some (option_map_or (with_count_of e) o e)
      go None = kept (q e) e m he
      go (Some o) = kept (q (with_count_of e o)) (with_count_of e o) m (is.count e (min 9999 (e.count + o.count)) ∙ he)
  once O e m he =
      elim (cases_Bool (stands es (name_in E e))) [
        | inl twin ↦ rw twin refl
        | inr alone ↦ rw alone (kept (q (record e { mode = E })))
      ]
    where
      kept : (b : Bool) → cond b (turned_by E after (record e { mode = E })) (Some (record e { mode = E })) ≡ Some (record e { mode = E })
      kept false = refl
      kept true = ap (λ (o : Option Entry). Some (option_map_or (with_count_of (record e { mode = E })) o (record e { mode = E })))
          (none_there (record e { mode = E }) (is.mode e E ∙ he))

  -- an entry elsewhere turns as it would have
  unmoved : (m : Mode) (e : Entry) → p e ≡ false → turned_by m after e ≡ turned_by m es e
  unmoved S e he = refl
  unmoved X e he = refl
  unmoved E e he = ap (λ (o : Option Entry). Some (option_map_or (with_count_of e) o e)) (found_elsewhere p is es O e es he)
  unmoved O e he =
      ap (λ b. cond b None (Some (record e { mode = E })))
      (list_any-find (has_name (name_in E e)) after
      ∙ ap is_some (found_elsewhere p is es E e es he)
      ∙ sym (list_any-find (has_name (name_in E e)) es))

  both : (e : Entry) → option_and_then (turned_entry q after) (turned_entry p es e) ≡ turned_entry (λ x. p x || q x) es e
  both e =
      elim (cases_Bool (p e)) [
        | inl here ↦
            ap (λ b. option_and_then (turned_entry q after) (cond b (turned_by e.mode es e) (Some e))) here
            ∙ once e.mode e refl here
            ∙ sym (ap (λ b. cond (b || q e) (turned_by e.mode es e) (Some e)) here)
        | inr away ↦
            ap (λ b. option_and_then (turned_entry q after) (cond b (turned_by e.mode es e) (Some e))) away
            ∙ ap (λ (o : Option Entry). cond (q e) o (Some e)) (unmoved e.mode e away)
            ∙ sym (ap (λ b. cond (b || q e) (turned_by e.mode es e) (Some e)) away)
      ]

  -- Turning by one test and then by another is turning by both.
  pub turned-turned : turned (turned es p) q ≡ turned es (λ e. p e || q e)
  turned-turned =
      filter_map-then (turned_entry p es) (turned_entry q after) es
      ∙ filter_map-agree (λ e. option_and_then (turned_entry q after) (turned_entry p es e)) (turned_entry (λ x. p x || q x) es) both es

pub turned-agree : (p q : Entry → Bool) → ((e : Entry) → p e ≡ q e) → (es : List Entry) → turned es p ≡ turned es q
turned-agree p q k es =
    filter_map-agree (turned_entry p es) (turned_entry q es) (λ e. ap (λ b. cond b (turned_by e.mode es e) (Some e)) (k e)) es

-- none turns by a test that none passes
pub turned-nothing : (p : Entry → Bool) → ((e : Entry) → p e ≡ false) → (es : List Entry) → turned es p ≡ es
turned-nothing p k es = filter_map-agree (turned_entry p es) (λ e. Some e) (λ e. ap (λ b. cond b (turned_by e.mode es e) (Some e)) (k e)) es
    ∙ filter_map-some es

-- the tests of one more argument
turns-bits : (x y l s : Bool) → ((((x || y) && l) || (x && s)) || (y && s)) ≡ ((x || y) && (l || (s || false)))
turns-bits true true true s = refl
turns-bits true true false true = refl
turns-bits true true false false = refl
turns-bits true false true s = elim s as (λ b. ((true || (true && b)) || (false && b)) ≡ true) [ true ↦ refl | false ↦ refl ]
turns-bits true false false true = refl
turns-bits true false false false = refl
turns-bits false true true s = refl
turns-bits false true false true = refl
turns-bits false true false false = refl
turns-bits false false l s = refl

turns-push : (asker : Asker) (ks : List Asked) (a : Asked) (e : Entry) →
    ((turns asker ks e || is_at asker.dialogue a.table a.pattern e) || is_at asker.update a.table a.pattern e) ≡ turns asker (ks ++ a ∷ []) e
turns-push asker ks a e =
    let l = list_any (λ k. same_place k (asked_of e)) ks in
    let s = same_place a (asked_of e) in
    ap (λ x. ((turns asker ks e || (x && s)) || is_at asker.update a.table a.pattern e)) (same_owner-sym asker.dialogue e.owner)
    ∙ ap (λ y. ((turns asker ks e || (same_owner e.owner asker.dialogue && s)) || (y && s))) (same_owner-sym asker.update e.owner)
    ∙ turns-bits (same_owner e.owner asker.dialogue) (same_owner e.owner asker.update) l s
    ∙ ap (λ b. in_pair asker e.owner && b) (sym (list_any-append (λ k. same_place k (asked_of e)) ks (a ∷ [])))

-- The turns of one more argument, the dialogue owner's and the update owner's.
pub turned-push : (es : List Entry) (asker : Asker) (ks : List Asked) (a : Asked)
    → turned (turned (turned es (turns asker ks)) (is_at asker.dialogue a.table a.pattern)) (is_at asker.update a.table a.pattern) ≡ turned es
    (turns asker (ks ++ a ∷ []))
turned-push es asker ks a =
    let p = turns asker ks in
    let d = is_at asker.dialogue a.table a.pattern in
    let u = is_at asker.update a.table a.pattern in
    let pd : IsPlaceTest (λ e. p e || d e) = record { mode = λ e m. refl; count = λ e n. refl; place = λ e x o t k. rw (o, t, k) refl } in
    ap (λ (xs : List Entry). turned xs u) (turned-turned p d (turns-IsPlaceTest asker ks) es)
    ∙ turned-turned (λ e. p e || d e) u pd es
    ∙ turned-agree (λ e. (p e || d e) || u e) (turns asker (ks ++ a ∷ [])) (turns-push asker ks a) es
