-- Lemmas on a key's place among sorted entries.
use Rattle.std.proofs.Common.{Result, Ok, Err, IsOk, is_ok, if◌then◌else◌, ◌≡◌, ◌⊎◌, ◌&&◌, IsTrue, inl, inr, ℕ, suc, zero, ◌<◌, Bool, true, false, cond, not}
use Rattle.std.proofs.Common.{List, [], ◌∷◌, ◌++◌, map, length, take, drop, get_or, set, Option, Some, None, refl, sym, ap, ◌∙◌, arith}
use Rattle.std.specs.List.{insert, remove}
use Rattle.std.specs.Ordering.{eq_by_cmp, ordering_reverse, is_eq, is_lt}
use Rattle.std.specs.declared.cmp.Ordering.{Ordering}
use Rattle.std.specs.declared.cmp.Ordering.TheVariants.{Less, Equal, Greater}
use Rattle.std.specs.FinMap.Entries.{by_order, put, find, where_key, below_all, is_sorted}
use Rattle.std.proofs.lemmas.List.{map-append}
use Rattle.keeper_api.specs.Rows.{Spot, spot_cmp, row_of}
use Rattle.keeper_api.specs.RowLaws.{spots_total}
use Rattle.keeper_api.specs.declared.rows.Row.{Row}
use Rattle.sorted_rows.specs.Places.{Entry, entry_in, entries_in, AreSorted, next, place_in}
use Rattle.sorted_rows.specs.declared.table.Place.{Place}
use Rattle.sorted_rows.specs.declared.table.Place.TheVariants.{At, Before}

-- the value of the entry at a place is new
abbrev pub with_value : List Entry → ℕ → List ℕ → List Entry
with_value [] i v = []
with_value (e ∷ es) zero v = (e.0, v) ∷ es
with_value (e ∷ es) (suc i) v = e ∷ with_value es i v

abbrev pub put_at : Place → Spot → List ℕ → List Entry → List Entry
put_at (At i) spot v es = with_value es i v
put_at (Before i) spot v es = insert es i (spot, v)

put_next : (p : Place) (spot : Spot) (v : List ℕ) (e : Entry) (es : List Entry) → put_at (next p) spot v (e ∷ es) ≡ e ∷ put_at p spot v es
put_next (At i) spot v e es = refl
put_next (Before i) spot v e es = refl

pub put_is : (spot : Spot) (v : List ℕ) (es : List Entry) → put spot_cmp spot v es ≡ put_at (place_in spot es) spot v es
put_is spot v [] = refl
put_is spot v (e ∷ es) =
    elim (spot_cmp e.0 spot)
    as (λ r. spot_cmp e.0 spot ≡ r → by_order (spot_cmp spot e.0) ((spot, v) ∷ e ∷ es) ((e.0, v) ∷ es) (e ∷ put spot_cmp spot v es) ≡ put_at
    (by_order r (next (place_in spot es)) (At 0) (Before 0)) spot v (e ∷ es)) [
      | Less ↦ λ h. ap (λ r. by_order r ((spot, v) ∷ e ∷ es) ((e.0, v) ∷ es) (e ∷ put spot_cmp spot v es))
          (spots_total.antisymm spot e.0 ∙ ap ordering_reverse h)
          ∙ ap (λ rest. e ∷ rest) (put_is spot v es) ∙ sym (put_next (place_in spot es) spot v e es)
      | Equal ↦ λ h. ap (λ r. by_order r ((spot, v) ∷ e ∷ es) ((e.0, v) ∷ es) (e ∷ put spot_cmp spot v es))
          (spots_total.antisymm spot e.0 ∙ ap ordering_reverse h)
      | Greater ↦ λ h. ap (λ r. by_order r ((spot, v) ∷ e ∷ es) ((e.0, v) ∷ es) (e ∷ put spot_cmp spot v es))
          (spots_total.antisymm spot e.0 ∙ ap ordering_reverse h)
    ] refl

abbrev pub remove_at : Place → List Entry → List Entry
remove_at (At i) es = remove es i
remove_at (Before i) es = es

remove_next : (p : Place) (e : Entry) (es : List Entry) → remove_at (next p) (e ∷ es) ≡ e ∷ remove_at p es
remove_next (At i) e es = refl
remove_next (Before i) e es = refl

pub first_true : (a b : Bool) → IsTrue (a && b) → IsTrue a
first_true true b h = refl
first_true false b h = h

pub second_true : (a b : Bool) → IsTrue (a && b) → IsTrue b
second_true true b h = h
second_true false b h = cc

pub less_of : (r : Ordering) → IsTrue (is_lt r) → r ≡ Less
less_of Less h = refl
less_of Equal h = cc
less_of Greater h = cc

pub below_too : (a x y : Spot) → (spot_cmp a x ≡ Less) ⊎ (spot_cmp a x ≡ Equal) → spot_cmp x y ≡ Less → spot_cmp a y ≡ Less
below_too a x y h above = elim h [ inl l ↦ spots_total.trans a x y l above | inr e ↦ spots_total.congr a x y e ∙ above ]

-- no entry above x ties with a key that isn't above x
none_tied : (spot x : Spot) (es : List Entry) → IsTrue (below_all spot_cmp x es) → (spot_cmp spot x ≡ Less) ⊎ (spot_cmp spot x ≡ Equal)
    → where_key spot_cmp (λ k. not (eq_by_cmp spot_cmp spot k)) es ≡ es
none_tied spot x [] h at_most = refl
none_tied spot x (e ∷ es) h at_most =
    let above : spot_cmp x e.0 ≡ Less = less_of _ (first_true _ _ h) in
    let apart : spot_cmp spot e.0 ≡ Less = below_too spot x e.0 at_most above in
    ap (λ r. cond (not (is_eq r)) (e ∷ where_key spot_cmp (λ k. not (eq_by_cmp spot_cmp spot k)) es)
    (where_key spot_cmp (λ k. not (eq_by_cmp spot_cmp spot k)) es)) apart
    ∙ ap (λ rest. e ∷ rest) (none_tied spot x es (second_true _ _ h) at_most)

pub remove_is : (spot : Spot) (es : List Entry) → IsTrue (is_sorted spot_cmp es)
    → where_key spot_cmp (λ k. not (eq_by_cmp spot_cmp spot k)) es ≡ remove_at (place_in spot es) es
remove_is spot [] h = refl
remove_is spot (e ∷ es) h =
    let others = where_key spot_cmp (λ k. not (eq_by_cmp spot_cmp spot k)) es in
    let kept : (spot_cmp spot e.0 ≡ Less) ⊎ (spot_cmp spot e.0 ≡ Equal) → others ≡ es = none_tied spot e.0 es (first_true _ _ h) in
    elim (spot_cmp e.0 spot)
    as (λ r. spot_cmp e.0 spot ≡ r → cond (not (is_eq (spot_cmp spot e.0))) (e ∷ others) others ≡ remove_at
    (by_order r (next (place_in spot es)) (At 0) (Before 0)) (e ∷ es)) [
      | Less ↦ λ l. ap (λ r. cond (not (is_eq r)) (e ∷ others) others) (spots_total.antisymm spot e.0 ∙ ap ordering_reverse l)
          ∙ ap (λ rest. e ∷ rest) (remove_is spot es (second_true _ _ h)) ∙ sym (remove_next (place_in spot es) e es)
      | Equal ↦ λ l. let tied : spot_cmp spot e.0 ≡ Equal = spots_total.antisymm spot e.0 ∙ ap ordering_reverse l in
          ap (λ r. cond (not (is_eq r)) (e ∷ others) others) tied ∙ kept (inr tied)
      | Greater ↦ λ l. let under : spot_cmp spot e.0 ≡ Less = spots_total.antisymm spot e.0 ∙ ap ordering_reverse l in
          ap (λ r. cond (not (is_eq r)) (e ∷ others) others) under ∙ ap (λ rest. e ∷ rest) (kept (inl under))
    ] refl

-- the value of the entry at a place
abbrev pub value_from : ℕ → List Entry → Option (List ℕ)
value_from i [] = None
value_from zero (e ∷ es) = Some e.1
value_from (suc i) (e ∷ es) = value_from i es

abbrev pub value_at : Place → List Entry → Option (List ℕ)
value_at (At i) es = value_from i es
value_at (Before i) es = None

value_next : (p : Place) (e : Entry) (es : List Entry) → value_at (next p) (e ∷ es) ≡ value_at p es
value_next (At i) e es = refl
value_next (Before i) e es = refl

-- no entry above x has a key below x
none_found : (spot x : Spot) (es : List Entry) → IsTrue (below_all spot_cmp x es) → spot_cmp spot x ≡ Less → find spot_cmp spot es ≡ None
none_found spot x [] h under = refl
none_found spot x (e ∷ es) h under =
    let apart : spot_cmp spot e.0 ≡ Less = below_too spot x e.0 (inl under) (less_of _ (first_true _ _ h)) in
    ap (λ r. cond (is_eq r) (Some e.1) (find spot_cmp spot es)) apart ∙ none_found spot x es (second_true _ _ h) under

pub find_is : (spot : Spot) (es : List Entry) → AreSorted es → find spot_cmp spot es ≡ value_at (place_in spot es) es
find_is spot [] h = refl
find_is spot (e ∷ es) h =
    elim (spot_cmp e.0 spot)
    as (λ r. spot_cmp e.0 spot ≡ r → cond (is_eq (spot_cmp spot e.0)) (Some e.1) (find spot_cmp spot es) ≡ value_at
    (by_order r (next (place_in spot es)) (At 0) (Before 0)) (e ∷ es)) [
      | Less ↦ λ l. ap (λ r. cond (is_eq r) (Some e.1) (find spot_cmp spot es)) (spots_total.antisymm spot e.0 ∙ ap ordering_reverse l)
          ∙ find_is spot es (second_true _ _ h) ∙ sym (value_next (place_in spot es) e es)
      | Equal ↦ λ l. ap (λ r. cond (is_eq r) (Some e.1) (find spot_cmp spot es)) (spots_total.antisymm spot e.0 ∙ ap ordering_reverse l)
      | Greater ↦ λ l. let under : spot_cmp spot e.0 ≡ Less = spots_total.antisymm spot e.0 ∙ ap ordering_reverse l in
          ap (λ r. cond (is_eq r) (Some e.1) (find spot_cmp spot es)) under ∙ none_found spot e.0 es (first_true _ _ h) under
    ] refl

-- ---- entries of the rows of a table

pub value_row : (table : ℕ) (rows : List Row) (i : ℕ) (row : Row) → i < length rows → row ≡ get_or rows i row
    → value_from i (entries_in table rows) ≡ Some row.value
value_row table [] i row h is = absurd (omega arith)
value_row table (r ∷ rows) zero row h is = ap (λ (x : Row). Some x.value) (sym is)
value_row table (r ∷ rows) (suc i) row h is = value_row table rows i row (omega arith) is

pub entries-set : (table : ℕ) (rows : List Row) (i : ℕ) (v : List ℕ) (row : Row) → i < length rows → row ≡ get_or rows i row
    → entries_in table (set rows i (record row { value = v })) ≡ with_value (entries_in table rows) i v
entries-set table [] i v row h is = absurd (omega arith)
entries-set table (r ∷ rows) zero v row h is = ap (λ (x : Row). ((table, x.key), v) ∷ entries_in table rows) is
entries-set table (r ∷ rows) (suc i) v row h is = ap (λ rest. entry_in table r ∷ rest) (entries-set table rows i v row (omega arith) is)

pub entries-take : (table : ℕ) (rows : List Row) (i : ℕ) → entries_in table (take i rows) ≡ take i (entries_in table rows)
entries-take table rows zero = refl
entries-take table [] (suc i) = refl
entries-take table (r ∷ rows) (suc i) = ap (λ rest. entry_in table r ∷ rest) (entries-take table rows i)

pub entries-drop : (table : ℕ) (rows : List Row) (i : ℕ) → entries_in table (drop i rows) ≡ drop i (entries_in table rows)
entries-drop table rows zero = refl
entries-drop table [] (suc i) = refl
entries-drop table (r ∷ rows) (suc i) = entries-drop table rows i

pub entries-insert : (table : ℕ) (rows : List Row) (i : ℕ) (row : Row) → entries_in table (insert rows i row) ≡ insert (entries_in table rows) i
    (entry_in table row)
entries-insert table rows i row = map-append (entry_in table) (take i rows) (row ∷ drop i rows)
    ∙ ap (λ a. a ++ entry_in table row ∷ entries_in table (drop i rows)) (entries-take table rows i)
    ∙ ap (λ b. take i (entries_in table rows) ++ entry_in table row ∷ b) (entries-drop table rows i)

pub entries-remove : (table : ℕ) (rows : List Row) (i : ℕ) → entries_in table (remove rows i) ≡ remove (entries_in table rows) i
entries-remove table rows i = map-append (entry_in table) (take i rows) (drop (suc i) rows)
    ∙ ap (λ a. a ++ entries_in table (drop (suc i) rows)) (entries-take table rows i)
    ∙ ap (λ b. take i (entries_in table rows) ++ b) (entries-drop table rows (suc i))

pub rows_again : (table : ℕ) (rows : List Row) → map row_of (entries_in table rows) ≡ rows
rows_again table [] = refl
rows_again table (r ∷ rows) = ap (λ rest. r ∷ rest) (rows_again table rows)

-- a put at the place that was found
pub put_here : (spot : Spot) (es : List Entry) (v : List ℕ) (p : Place) (new : List Entry) → p ≡ place_in spot es → new ≡ put_at p spot v es
    → new ≡ put spot_cmp spot v es
put_here spot es v p new is done = done ∙ ap (λ q. put_at q spot v es) is ∙ sym (put_is spot v es)

pub remove_here : (spot : Spot) (es : List Entry) (p : Place) (new : List Entry) → AreSorted es → p ≡ place_in spot es → new ≡ remove_at p es
    → new ≡ where_key spot_cmp (λ k. not (eq_by_cmp spot_cmp spot k)) es
remove_here spot es p new sorted is done = done ∙ ap (λ q. remove_at q es) is ∙ sym (remove_is spot es sorted)

pub find_here : (spot : Spot) (es : List Entry) (p : Place) (value : Option (List ℕ)) → AreSorted es → p ≡ place_in spot es → value_at p es ≡ value
    → find spot_cmp spot es ≡ value
find_here spot es p value sorted is there = find_is spot es sorted ∙ ap (λ q. value_at q es) (sym is) ∙ there

-- what an insert that succeeds leaves
pub inserted : {X E : Type 0} {A : Type 0} (r : Result X E) (new old : List A) → IsOk r → (if is_ok r then new else old) ≡ new
inserted (Ok x) new old h = refl
inserted (Err e) new old h = cc
