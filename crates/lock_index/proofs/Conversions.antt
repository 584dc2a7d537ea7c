-- Conversions, entry by entry.
use Rattle.std.proofs.Common.{◌≡◌, ℕ, ◌+◌, ◌<◌, List, [], ◌∷◌, Bool, true, false, true≢false, cond, not, ◌&&◌, ◌||◌, nat_lt, length, take, get_or, filter}
use Rattle.std.proofs.Common.{Option, Some, None, sym, ◌∙◌, ap, refl, inl, inr}
use Rattle.std.specs.List.{cons_option, filter_map, find, list_any}
use Rattle.std.specs.Option.{option_map_or}
use Rattle.std.specs.Str.{bytes_eq}
use Rattle.std.proofs.lemmas.Bool.{cases_Bool, and_parts, and_left, or_parts, not_from_true, not_from_false}
use Rattle.enq_base.specs.declared.owner.Owner.{Owner}
use Rattle.enq_base.specs.Owners.{same_owner}
use Rattle.mode_rules.specs.declared.Mode.{Mode}
use Rattle.mode_rules.specs.declared.Mode.TheVariants.{S, E, X, O}
use Rattle.mode_rules.specs.Modes.{same_mode}
use Rattle.lock_entry.specs.declared.entry.Asked.{Asked}
use Rattle.lock_entry.specs.declared.entry.Asker.{Asker}
use Rattle.lock_entry.specs.declared.entry.Entry.{Entry}
use Rattle.lock_entry.specs.declared.entry.LockName.{LockName}
use Rattle.lock_entry.specs.Barring.{places_meet}
use Rattle.lock_entry.specs.Converting.{conversion, gives_way, sum_exceeds, turns}
use Rattle.lock_entry.specs.Names.{asked_of, count_at, has_distinct_names, has_name, name_of, same_place, stands}
use Rattle.lock_entry.specs.Pairs.{in_pair}
use Rattle.lock_entry.specs.Turning.{is_at, name_at, name_in, turned, turned_by, turned_entry, with_count_of}
use Rattle.lock_entry.proofs.lemmas.Naming.{bytes_eq-same, same_name-same, same_owner-same, same_owner-sym}
use Rattle.lock_index.specs.Conversions.{exceeds_at}
use Rattle.lock_index.specs.Searches.{yields}
use Rattle.lock_index.specs.Slots.{on_some}
use Rattle.lock_index.proofs.Changed.{none-after}
use Rattle.lock_index.proofs.Filters.{any-either}
use Rattle.lock_index.proofs.Numbers.{any-more}

spread : (x y l m : Bool) → (x && (y && (l || m))) ≡ ((x && (y && l)) || (x && (y && m)))
spread false y l m = refl
spread true false l m = refl
spread true true l m = refl

-- one argument more
pub gives-more : (asker : Asker) (ks : List Asked) (i : ℕ) (a : Asked) → i < length ks → a ≡ get_or ks i a → (o : Option Entry)
    → on_some (gives_way asker (take (i + 1) ks)) o ≡ (on_some (gives_way asker (take i ks)) o || on_some (yields asker a) o)
gives-more asker ks i a below read None = refl
gives-more asker ks i a below read (Some e) =
    ap (λ b. not (in_pair asker e.owner) && (same_mode e.mode O && b)) (any-more (places_meet (asked_of e)) ks i a below read)
    ∙ spread (not (in_pair asker e.owner)) (same_mode e.mode O) (list_any (places_meet (asked_of e)) (take i ks)) (places_meet (asked_of e) a)

pub gives-nothing : (asker : Asker) (o : Option Entry) → false ≡ on_some (gives_way asker []) o
gives-nothing asker None = refl
gives-nothing asker (Some e) = none (not (in_pair asker e.owner)) (same_mode e.mode O)
  where
    none : (x y : Bool) → false ≡ (x && (y && false))
    none false y = refl
    none true false = refl
    none true true = refl

-- what is found among all is found among those that stay
find-kept : (p q : Entry → Bool) → ((x : Entry) → p x ≡ true → q x ≡ true) → (xs : List Entry) → find p xs ≡ find p (filter q xs)
find-kept p q k [] = refl
find-kept p q k (x ∷ xs) =
    elim (cases_Bool (q x)) [
      | inl h ↦ ap (λ (o : Option Entry). cond (p x) (Some x) o) (find-kept p q k xs) ∙ sym (ap (λ b. find p (cond b (x ∷ filter q xs) (filter q xs))) h)
      | inr h ↦
          let away : p x ≡ false = elim (cases_Bool (p x)) [ inl t ↦ absurd (true≢false (sym (k x t) ∙ h)) | inr t ↦ t ] in
          ap (λ b. cond b (Some x) (find p xs)) away ∙ find-kept p q k xs ∙ sym (ap (λ b. find p (cond b (x ∷ filter q xs) (filter q xs))) h)
    ]

any-kept : (p q : Entry → Bool) → ((x : Entry) → p x ≡ true → q x ≡ true) → (xs : List Entry) → list_any p xs ≡ list_any p (filter q xs)
any-kept p q k [] = refl
any-kept p q k (x ∷ xs) =
    elim (cases_Bool (q x)) [
      | inl h ↦ ap (λ b. p x || b) (any-kept p q k xs) ∙ sym (ap (λ b. list_any p (cond b (x ∷ filter q xs) (filter q xs))) h)
      | inr h ↦
          let away : p x ≡ false = elim (cases_Bool (p x)) [ inl t ↦ absurd (true≢false (sym (k x t) ∙ h)) | inr t ↦ t ] in
          ap (λ b. b || list_any p xs) away ∙ any-kept p q k xs ∙ sym (ap (λ b. list_any p (cond b (x ∷ filter q xs) (filter q xs))) h)
    ]

-- a filter before a change of the elements that stay is one behind it
filter-changed : (f g : Entry → Option Entry) (q : Entry → Bool) → ((x : Entry) → q x ≡ true → f x ≡ g x) → ((x : Entry) → q x ≡ false → f x ≡ Some x)
    → ((x y : Entry) → q x ≡ true → f x ≡ Some y → q y ≡ true) → (xs : List Entry) → filter_map g (filter q xs) ≡ filter q (filter_map f xs)
filter-changed f g q same away kept [] = refl
filter-changed f g q same away kept (x ∷ xs) =
    let rest : filter_map g (filter q xs) ≡ filter q (filter_map f xs) = filter-changed f g q same away kept xs in
    elim (cases_Bool (q x)) [
      | inr h ↦
          ap (λ b. filter_map g (cond b (x ∷ filter q xs) (filter q xs))) h ∙ rest
          ∙ sym (ap (λ (o : Option Entry). filter q (cons_option o (filter_map f xs))) (away x h)
          ∙ ap (λ b. cond b (x ∷ filter q (filter_map f xs)) (filter q (filter_map f xs))) h)
      | inl h ↦
          ap (λ b. filter_map g (cond b (x ∷ filter q xs) (filter q xs))) h
          ∙ ap (λ (o : Option Entry). cons_option o (filter_map g (filter q xs))) (sym (same x h))
          ∙ ap (λ (l : List Entry). cons_option (f x) l) rest
          ∙ go (f x) (λ y t. kept x y h t)
    ]
  where
    go : (o : Option Entry) → ((y : Entry) → o ≡ Some y → q y ≡ true) → cons_option o (filter q (filter_map f xs)) ≡ filter q (cons_option o (filter_map f xs))
    go None k = refl
    go (Some y) k = sym (ap (λ b. cond b (y ∷ filter q (filter_map f xs)) (filter q (filter_map f xs))) (k y refl))

module _ (es : List Entry) (asker : Asker) (asked : List Asked) where
  abbrev stays : Entry → Bool
  stays e = not (gives_way asker asked e)

  within-stays : (e : Entry) → in_pair asker e.owner ≡ true → stays e ≡ true
  within-stays e h = not_from_false (gives_way asker asked e) (and_left (not (in_pair asker e.owner)) _ (not_from_true (in_pair asker e.owner) h))

  named-owner : (m : Mode) (e x : Entry) → has_name (name_in m e) x ≡ true → e.owner ≡ x.owner
  named-owner m e x h = ap (λ (n : LockName). n.owner) (same_name-same (name_in m e) (name_of x) h)

  named-stays : (m : Mode) (e : Entry) → in_pair asker e.owner ≡ true → (x : Entry) → has_name (name_in m e) x ≡ true → stays x ≡ true
  named-stays m e h x n = within-stays x (ap (in_pair asker) (sym (named-owner m e x n)) ∙ h)

  by-mode : (m : Mode) (e : Entry) → in_pair asker e.owner ≡ true → turned_by m es e ≡ turned_by m (filter stays es) e
  by-mode S e h = refl
  by-mode X e h = refl
  by-mode E e h = ap (λ (o : Option Entry). Some (option_map_or (with_count_of e) o e)) (find-kept (has_name (name_in O e)) stays (named-stays O e h) es)
  by-mode O e h = ap (λ b. cond b None (Some (record e { mode = E }))) (any-kept (has_name (name_in E e)) stays (named-stays E e h) es)

  owner-kept : (m : Mode) (e y : Entry) → turned_by m es e ≡ Some y → e.owner ≡ y.owner
  owner-kept S e y h = let s : e ≡ y = cc in ap (λ (z : Entry). z.owner) s
  owner-kept X e y h = let s : e ≡ y = cc in ap (λ (z : Entry). z.owner) s
  owner-kept E e y h = go (find (has_name (name_in O e)) es) h
    where
      go : (o : Option Entry) → Some (option_map_or (with_count_of e) o e) ≡ Some y → e.owner ≡ y.owner
      go None k = let s : e ≡ y = cc in ap (λ (z : Entry). z.owner) s
      go (Some o) k = let s : with_count_of e o ≡ y = cc in ap (λ (z : Entry). z.owner) s
  owner-kept O e y h = go (stands es (name_in E e)) h
    where
      go : (b : Bool) → cond b None (Some (record e { mode = E })) ≡ Some y → e.owner ≡ y.owner
      go true k = absurd (cc)
      go false k = let s : record e { mode = E } ≡ y = cc in ap (λ (z : Entry). z.owner) s

  same : (x : Entry) → stays x ≡ true → turned_entry (turns asker asked) es x ≡ turned_entry (turns asker asked) (filter stays es) x
  same x h =
      elim (cases_Bool (turns asker asked x)) [
        | inl t ↦
            let inside = (and_parts (in_pair asker x.owner) _ t).0 in
            ap (λ (o : Option Entry). cond (turns asker asked x) o (Some x)) (by-mode x.mode x inside)
        | inr t ↦ ap (λ b. cond b (turned_by x.mode es x) (Some x)) t ∙ sym (ap (λ b. cond b (turned_by x.mode (filter stays es) x) (Some x)) t)
      ]

  away : (x : Entry) → stays x ≡ false → turned_entry (turns asker asked) es x ≡ Some x
  away x h =
      elim (cases_Bool (turns asker asked x)) [
        | inl t ↦ absurd (true≢false (sym (within-stays x (and_parts (in_pair asker x.owner) _ t).0) ∙ h))
        | inr t ↦ ap (λ b. cond b (turned_by x.mode es x) (Some x)) t
      ]

  kept : (x y : Entry) → stays x ≡ true → turned_entry (turns asker asked) es x ≡ Some y → stays y ≡ true
  kept x y h k =
      elim (cases_Bool (turns asker asked x)) [
        | inl t ↦
            let l : turned_by x.mode es x ≡ Some y = sym (ap (λ b. cond b (turned_by x.mode es x) (Some x)) t) ∙ k in
            within-stays y (ap (in_pair asker) (sym (owner-kept x.mode x y l)) ∙ (and_parts (in_pair asker x.owner) _ t).0)
        | inr t ↦
            let l : Some x ≡ Some y = sym (ap (λ b. cond b (turned_by x.mode es x) (Some x)) t) ∙ k in
            let s : x ≡ y = cc in
            ap stays (sym s) ∙ h
      ]

  -- Those that give way may go before the others turn.
  pub turned-kept : turned (filter (λ e. not (gives_way asker asked e)) es) (turns asker asked) ≡ (conversion es asker asked).entries
  turned-kept = filter-changed (turned_entry (turns asker asked) es) (turned_entry (turns asker asked) (filter stays es)) stays same away kept es

mode-turned : (m : Mode) → same_mode m E ≡ same_mode E m
mode-turned S = refl
mode-turned E = refl
mode-turned X = refl
mode-turned O = refl

and_assoc : (a b c : Bool) → (a && (b && c)) ≡ ((a && b) && c)
and_assoc true b c = refl
and_assoc false b c = refl

has_name-at : (m : Mode) (owner : Owner) (table pattern : List ℕ) (e : Entry)
    → has_name (name_at m owner table pattern) e ≡ (is_at owner table pattern e && same_mode m e.mode)
has_name-at m owner table pattern e = and_assoc (same_owner owner e.owner) (bytes_eq table e.table && bytes_eq pattern e.pattern) (same_mode m e.mode)

name_in-at : (m : Mode) (owner : Owner) (table pattern : List ℕ) (e : Entry) → is_at owner table pattern e ≡ true → name_in m e ≡ name_at m owner table pattern
name_in-at m owner table pattern e h =
    let hs = and_parts (same_owner owner e.owner) _ h in
    let ps = and_parts (bytes_eq table e.table) (bytes_eq pattern e.pattern) hs.1 in
    let o : owner ≡ e.owner = same_owner-same owner e.owner hs.0 in
    let t : table ≡ e.table = bytes_eq-same table e.table ps.0 in
    let p : pattern ≡ e.pattern = bytes_eq-same pattern e.pattern ps.1 in
    λ i. name_at m (sym o i) (sym t i) (sym p i)

and-false : (a : Bool) → (a && false) ≡ false
and-false true = refl
and-false false = refl

-- of distinct names one entry at most has this one
one-named : (n : LockName) (q : Entry → Bool) (es : List Entry) → has_distinct_names es ≡ true
    → list_any (λ e. has_name n e && q e) es ≡ option_map_or q (find (has_name n) es) false
one-named n q [] h = refl
one-named n q (e ∷ es) h =
    elim (cases_Bool (has_name n e)) [
      | inl t ↦
          ap (λ b. (b && q e) || list_any (λ x. has_name n x && q x) es) t
          ∙ ap (λ b. q e || b) (none es (none-after n [] es e h t)) ∙ last (q e)
          ∙ sym (ap (λ b. option_map_or q (cond b (Some e) (find (has_name n) es)) false) t)
      | inr t ↦
          ap (λ b. (b && q e) || list_any (λ x. has_name n x && q x) es) t
          ∙ one-named n q es (and_parts _ (has_distinct_names es) h).1
          ∙ sym (ap (λ b. option_map_or q (cond b (Some e) (find (has_name n) es)) false) t)
    ]
  where
    last : (b : Bool) → (b || false) ≡ b
    last true = refl
    last false = refl

    none : (xs : List Entry) → list_any (has_name n) xs ≡ false → list_any (λ x. has_name n x && q x) xs ≡ false
    none [] k = refl
    none (x ∷ xs) k =
        let ks = or_parts (has_name n x) (list_any (has_name n) xs) k in
        ap (λ b. (b && q x) || list_any (λ y. has_name n y && q y) xs) ks.0 ∙ none xs ks.1

module _ (es : List Entry) (asker : Asker) (distinct : has_distinct_names es ≡ true) where
  -- the entry's count would exceed 9,999
  abbrev over : Entry → Bool
  over e = same_mode e.mode E && nat_lt 9999 (e.count + count_at es (name_in O e))

  abbrev more : Owner → Asked → Entry → Bool
  more owner a e = nat_lt 9999 (e.count + count_at es (name_at O owner a.table a.pattern))

  owner-exceeds : (owner : Owner) (a : Asked) → list_any (λ e. is_at owner a.table a.pattern e && over e) es ≡ exceeds_at es owner a
  owner-exceeds owner a =
      agree (λ e. is_at owner a.table a.pattern e && over e) (λ e. has_name (name_at E owner a.table a.pattern) e && more owner a e) each es
      ∙ one-named (name_at E owner a.table a.pattern) (more owner a) es distinct
    where
      agree : (p q : Entry → Bool) → ((e : Entry) → p e ≡ q e) → (xs : List Entry) → list_any p xs ≡ list_any q xs
      agree p q k [] = refl
      agree p q k (x ∷ xs) = λ i. k x i || agree p q k xs i

      each : (e : Entry) → (is_at owner a.table a.pattern e && over e) ≡ (has_name (name_at E owner a.table a.pattern) e && more owner a e)
      each e =
          elim (cases_Bool (is_at owner a.table a.pattern e)) [
            | inl t ↦
                ap (λ b. b && over e) t
                ∙ (λ i. mode-turned e.mode i && nat_lt 9999 (e.count + count_at es (name_in-at O owner a.table a.pattern e t i)))
                ∙ sym (ap (λ b. b && more owner a e) (has_name-at E owner a.table a.pattern e ∙ ap (λ b. b && same_mode E e.mode) t))
            | inr t ↦
                ap (λ b. b && over e) t
                ∙ sym (ap (λ b. b && more owner a e) (has_name-at E owner a.table a.pattern e ∙ ap (λ b. b && same_mode E e.mode) t))
          ]

  nothing : (xs : List Entry) → list_any (λ e. turns asker [] e && over e) xs ≡ false
  nothing [] = refl
  nothing (x ∷ xs) = ap (λ b. b || list_any (λ e. turns asker [] e && over e) xs) (none (in_pair asker x.owner) (over x)) ∙ nothing xs
    where
      none : (a b : Bool) → ((a && false) && b) ≡ false
      none true b = refl
      none false b = refl

  -- The counts are tested name by name.
  pub exceeds-is : (asked : List Asked) → list_any (λ a. exceeds_at es asker.dialogue a || exceeds_at es asker.update a) asked ≡ sum_exceeds es asker asked
  exceeds-is [] = sym (nothing es)
  exceeds-is (a ∷ rest) =
      let d : Entry → Bool = λ e. is_at asker.dialogue a.table a.pattern e && over e in
      let u : Entry → Bool = λ e. is_at asker.update a.table a.pattern e && over e in
      let r : Entry → Bool = λ e. turns asker rest e && over e in
      (λ i. (sym (owner-exceeds asker.dialogue a) i || sym (owner-exceeds asker.update a) i) || exceeds-is rest i)
      ∙ ap (λ b. b || list_any r es) (sym (any-either (λ e. d e || u e) d u (λ e. refl) es))
      ∙ sym (any-either (λ e. turns asker (a ∷ rest) e && over e) (λ e. d e || u e) r each es)
    where
      shape : (x y s l v : Bool) → (((x || y) && (s || l)) && v) ≡ ((((x && s) && v) || ((y && s) && v)) || (((x || y) && l) && v))
      shape x y s l false =
          and-false ((x || y) && (s || l))
          ∙ sym (λ i. (and-false (x && s) i || and-false (y && s) i) || and-false ((x || y) && l) i)
      shape true true true l true = refl
      shape true true false true true = refl
      shape true true false false true = refl
      shape true false true l true = refl
      shape true false false true true = refl
      shape true false false false true = refl
      shape false true true l true = refl
      shape false true false true true = refl
      shape false true false false true = refl
      shape false false s l true = refl

      each : (e : Entry)
          → (turns asker (a ∷ rest) e && over e)
          ≡ (((is_at asker.dialogue a.table a.pattern e && over e) || (is_at asker.update a.table a.pattern e && over e)) || (turns asker rest e && over e))
      each e =
          shape (same_owner e.owner asker.dialogue) (same_owner e.owner asker.update) (same_place a (asked_of e))
          (list_any (λ k. same_place k (asked_of e)) rest) (over e)
          ∙ (λ i. (((same_owner-sym e.owner asker.dialogue i && same_place a (asked_of e)) && over e)
          || ((same_owner-sym e.owner asker.update i && same_place a (asked_of e)) && over e)) || (turns asker rest e && over e))
