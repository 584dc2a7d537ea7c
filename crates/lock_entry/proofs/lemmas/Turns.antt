-- The entries of one owner, table and argument turn.
use Rattle.std.proofs.Common.{◌≡◌, ℕ, List, [], ◌∷◌, Bool, true, false, cond, not, ◌&&◌, map, Option, Some, None, sym, ◌∙◌, ap, refl, inl, inr}
use Rattle.std.specs.List.{list_any, filter, filter_map, find, cons_option}
use Rattle.std.specs.Option.{option_map_or}
use Rattle.std.specs.Str.{bytes_eq}
use Rattle.std.proofs.lemmas.Bool.{cases_Bool, and_parts, and_left, or_parts}
use Rattle.enq_base.specs.declared.owner.Owner.{Owner}
use Rattle.enq_base.specs.Owners.{same_owner}
use Rattle.mode_rules.specs.declared.Mode.{Mode}
use Rattle.mode_rules.specs.declared.Mode.TheVariants.{S, E, X, O}
use Rattle.mode_rules.specs.Modes.{same_mode}
use Rattle.lock_entry.specs.declared.entry.Entry.{Entry}
use Rattle.lock_entry.specs.declared.entry.LockName.{LockName}
use Rattle.lock_entry.specs.Names.{has_name, stands}
use Rattle.lock_entry.specs.Freeing.{without}
use Rattle.lock_entry.specs.Turning.{name_at, name_in, with_count_of, turned_by, turned_entry, turned, is_at, joined, made_exclusive}
use Rattle.lock_entry.proofs.lemmas.Naming.{same_owner-same, bytes_eq-same}
use Rattle.lock_entry.proofs.lemmas.Lists.{find-None}

-- where each element but those that pass the test stays, as f makes it
filter_map-map : {X Y : Type 0} (q : X → Bool) (g : X → Option Y) (f : X → Y) → ((x : X) → q x ≡ false → g x ≡ Some (f x)) → (xs : List X)
    → list_any q xs ≡ false → filter_map g xs ≡ map f xs
filter_map-map q g f k [] h = refl
filter_map-map {Y = Y} q g f k (x ∷ xs) h =
    let hs = or_parts (q x) (list_any q xs) h in
    ap (λ (o : Option Y). cons_option o (filter_map g xs)) (k x hs.0) ∙ ap (λ (ys : List Y). f x ∷ ys) (filter_map-map q g f k xs hs.1)

cons_kept : {X Y : Type 0} (b : Bool) (x : X) (y : Y) (f : X → Y) (xs : List X) → f x ≡ y
    → cons_option (cond b (Some y) None) (map f xs) ≡ map f (cond b (x ∷ xs) xs)
cons_kept true x y f xs e = ap (λ z. z ∷ map f xs) (sym e)
cons_kept false x y f xs e = refl

-- where each element goes, or stays as f makes it
filter_map-filter : {X Y : Type 0} (p : X → Bool) (g : X → Option Y) (f : X → Y) → ((x : X) → g x ≡ cond (p x) (Some (f x)) None) → (xs : List X)
    → filter_map g xs ≡ map f (filter p xs)
filter_map-filter p g f k [] = refl
filter_map-filter {Y = Y} p g f k (x ∷ xs) =
    ap (λ (o : Option Y). cons_option o (filter_map g xs)) (k x)
    ∙ ap (λ (ys : List Y). cons_option (cond (p x) (Some (f x)) None) ys) (filter_map-filter p g f k xs)
    ∙ cons_kept (p x) x (f x) f (filter p xs) refl

map_same : {X : Type 0} (xs : List X) → map (λ x. x) xs ≡ xs
map_same [] = refl
map_same (x ∷ xs) = ap (λ ys. x ∷ ys) (map_same xs)

and_assoc : (a b c : Bool) → (a && (b && c)) ≡ ((a && b) && c)
and_assoc true b c = refl
and_assoc false b c = refl

-- one test of the name and of the place
has_name-at : (m : Mode) (owner : Owner) (table pattern : List ℕ) (e : Entry)
    → has_name (name_at m owner table pattern) e ≡ (is_at owner table pattern e && same_mode m e.mode)
has_name-at m owner table pattern e = and_assoc (same_owner owner e.owner) (bytes_eq table e.table && bytes_eq pattern e.pattern) (same_mode m e.mode)

-- an entry of this owner, table and argument has the names of the place
name_in-at : (m : Mode) (owner : Owner) (table pattern : List ℕ) (e : Entry) → is_at owner table pattern e ≡ true → name_in m e ≡ name_at m owner table pattern
name_in-at m owner table pattern e h =
    let hs = and_parts (same_owner owner e.owner) _ h in
    let ps = and_parts (bytes_eq table e.table) (bytes_eq pattern e.pattern) hs.1 in
    let o : owner ≡ e.owner = same_owner-same owner e.owner hs.0 in
    let t : table ≡ e.table = bytes_eq-same table e.table ps.0 in
    let p : pattern ≡ e.pattern = bytes_eq-same pattern e.pattern ps.1 in
    λ i. name_at m (sym o i) (sym t i) (sym p i)

module _ (es : List Entry) (owner : Owner) (table pattern : List ℕ) where
  abbrev optimistic : LockName
  optimistic = name_at O owner table pattern

  abbrev exclusive : LockName
  exclusive = name_at E owner table pattern

  abbrev here : Entry → Bool
  here e = is_at owner table pattern e

  -- what becomes of an entry there, by its mode
  abbrev after_turn : Option Entry → (twin : Bool) → Mode → Entry → Option Entry
  after_turn found twin O e = cond twin None (Some (record e { mode = E }))
  after_turn found twin E e = Some (option_map_or (with_count_of e) found e)
  after_turn found twin S e = Some e
  after_turn found twin X e = Some e

  after-here : (m : Mode) (e : Entry) → here e ≡ true → turned_by m es e ≡ after_turn (find (has_name optimistic) es) (stands es exclusive) m e
  after-here S e h = refl
  after-here X e h = refl
  after-here E e h = ap (λ n. Some (option_map_or (with_count_of e) (find (has_name n) es) e)) (name_in-at O owner table pattern e h)
  after-here O e h = ap (λ n. cond (stands es n) None (Some (record e { mode = E }))) (name_in-at E owner table pattern e h)

  -- an entry elsewhere stays
  turned-elsewhere : (e : Entry) → here e ≡ false → turned_entry here es e ≡ Some e
  turned-elsewhere e h = ap (λ b. cond b (turned_by e.mode es e) (Some e)) h

  turned-here : (e : Entry) → here e ≡ true → turned_entry here es e ≡ after_turn (find (has_name optimistic) es) (stands es exclusive) e.mode e
  turned-here e h = ap (λ b. cond b (turned_by e.mode es e) (Some e)) h ∙ after-here e.mode e h

  unnamed : (m : Mode) (e : Entry) → here e ≡ false → has_name (name_at m owner table pattern) e ≡ false
  unnamed m e h = has_name-at m owner table pattern e ∙ and_left (here e) _ h

  named-by_mode : (m : Mode) (e : Entry) → here e ≡ true → has_name (name_at m owner table pattern) e ≡ same_mode m e.mode
  named-by_mode m e h = has_name-at m owner table pattern e ∙ ap (λ b. b && same_mode m e.mode) h

  -- no O entry stands there
  stays-mode : (m : Mode) (e : Entry) (twin : Bool) → same_mode O m ≡ false → after_turn None twin m e ≡ Some e
  stays-mode S e twin h = refl
  stays-mode E e twin h = refl
  stays-mode X e twin h = refl
  stays-mode O e twin h = absurd (cc)

  stays : find (has_name optimistic) es ≡ None → (e : Entry) → has_name optimistic e ≡ false → turned_entry here es e ≡ Some e
  stays none e h =
      elim (cases_Bool (here e)) [
        | inr away ↦ turned-elsewhere e away
        | inl at ↦
            turned-here e at
            ∙ ap (λ (o : Option Entry). after_turn o (stands es exclusive) e.mode e) none
            ∙ stays-mode e.mode e (stands es exclusive) (sym (named-by_mode O e at) ∙ h)
      ]

  pub turned-none : find (has_name optimistic) es ≡ None → es ≡ turned es here
  turned-none none =
      sym (filter_map-map (has_name optimistic) (turned_entry here es) (λ e. e) (stays none) es (find-None (has_name optimistic) es none) ∙ map_same es)

  -- the E entry stands there too
  joins-mode : (m : Mode) (e o : Entry) → after_turn (Some o) true m e ≡ cond (not (same_mode O m)) (Some (cond (same_mode E m) (with_count_of e o) e)) None
  joins-mode S e o = refl
  joins-mode E e o = refl
  joins-mode X e o = refl
  joins-mode O e o = refl

  joins : (o : Entry) → find (has_name optimistic) es ≡ Some o → stands es exclusive ≡ true → (e : Entry)
      → turned_entry here es e ≡ cond (not (has_name optimistic e)) (Some (joined exclusive o e)) None
  joins o found twin e =
      elim (cases_Bool (here e)) [
        | inr away ↦
            turned-elsewhere e away
            ∙ sym (ap (λ b. cond (not b) (Some (joined exclusive o e)) None) (unnamed O e away)
            ∙ ap (λ b. Some (cond b (with_count_of e o) e)) (unnamed E e away))
        | inl at ↦
            turned-here e at
            ∙ ap (λ (f : Option Entry). after_turn f (stands es exclusive) e.mode e) found
            ∙ ap (λ b. after_turn (Some o) b e.mode e) twin
            ∙ joins-mode e.mode e o
            ∙ sym (ap (λ b. cond (not b) (Some (joined exclusive o e)) None) (named-by_mode O e at)
            ∙ ap (λ b. cond (not (same_mode O e.mode)) (Some (cond b (with_count_of e o) e)) None) (named-by_mode E e at))
      ]

  pub turned-joined : (o : Entry) → find (has_name optimistic) es ≡ Some o → stands es exclusive ≡ true
      → map (joined exclusive o) (without es optimistic) ≡ turned es here
  turned-joined o found twin = sym (filter_map-filter (λ e. not (has_name optimistic e)) (turned_entry here es) (joined exclusive o) (joins o found twin) es)

  -- the E entry doesn't stand there
  makes-mode : (m : Mode) (e o : Entry) → same_mode E m ≡ false → after_turn (Some o) false m e ≡ Some (cond (same_mode O m) (record e { mode = E }) e)
  makes-mode S e o h = refl
  makes-mode E e o h = absurd (cc)
  makes-mode X e o h = refl
  makes-mode O e o h = refl

  makes : (o : Entry) → find (has_name optimistic) es ≡ Some o → stands es exclusive ≡ false → (e : Entry) → has_name exclusive e ≡ false
      → turned_entry here es e ≡ Some (made_exclusive optimistic e)
  makes o found alone e h =
      elim (cases_Bool (here e)) [
        | inr away ↦ turned-elsewhere e away ∙ sym (ap (λ b. Some (cond b (record e { mode = E }) e)) (unnamed O e away))
        | inl at ↦
            turned-here e at
            ∙ ap (λ (f : Option Entry). after_turn f (stands es exclusive) e.mode e) found
            ∙ ap (λ b. after_turn (Some o) b e.mode e) alone
            ∙ makes-mode e.mode e o (sym (named-by_mode E e at) ∙ h)
            ∙ sym (ap (λ b. Some (cond b (record e { mode = E }) e)) (named-by_mode O e at))
      ]

  pub turned-made : (o : Entry) → find (has_name optimistic) es ≡ Some o → stands es exclusive ≡ false → map (made_exclusive optimistic) es ≡ turned es here
  turned-made o found alone = sym (filter_map-map (has_name exclusive) (turned_entry here es) (made_exclusive optimistic) (makes o found alone) es alone)
