-- The rows of a table: their keys rise, each is found under its key, and a row that is put stands in its place.
use Rattle.std.proofs.Common.{◌≡◌, ℕ, ◌≤◌, Bool, true, false, cond, ◌&&◌, nat_eq, T, List, [], ◌∷◌, map, length, Option, Some, None, refl, sym, ap, subst, ◌∙◌, arith}
use Rattle.std.proofs.lemmas.Bool.{eqb-true}
use Rattle.std.specs.List.{filter}
use Rattle.std.specs.Ordering.{nat_cmp, is_eq, is_lt, ordering_reverse, ordering_then, eq_by_cmp}
use Rattle.std.specs.declared.cmp.Ordering.{Ordering}
use Rattle.std.specs.declared.cmp.Ordering.TheVariants.{Less, Equal, Greater}
use Rattle.std.specs.Cmp.{nat_cmp_total, tied_itself, eq_by_cmp_equiv}
use Rattle.std.specs.Cmp.Lexicographic.{slice_cmp, nat_list_cmp_total, bytes_decides}
use Rattle.std.specs.Str.{bytes_eq}
use Rattle.std.specs.FinMap.{entries, entries_sorted, entries-insert, get-entries, insert, is_sorted}
use Rattle.std.specs.FinMap as map_of
use Rattle.std.specs.FinMap.Entries.{below_all, by_order}
use Rattle.keeper_api.specs.declared.rows.Row.{Row}
use Rattle.keeper_api.specs.Rows.{Spot, spot_cmp, Rows, is_below, is_behind, row_of, RiseFrom, value_at}
use Rattle.keeper_api.specs.RowLaws.{same_spot, spots_total}
use Rattle.table_reading.specs.Tables.{rows_in}

abbrev Entries : Type 0
Entries = List (Spot × List ℕ)

-- the rows of table 0 among these
abbrev pub shown : Entries → List Row
shown es = map row_of (filter (is_behind 0 []) es)

-- ---- tests

true_of : (b : Bool) → T b → b ≡ true
true_of true h = refl
true_of false h = absurd h

pub first_true : (a b : Bool) → (a && b) ≡ true → a ≡ true
first_true true b h = refl
first_true false b h = h

pub second_true : (a b : Bool) → (a && b) ≡ true → b ≡ true
second_true true b h = h
second_true false b h = cc

both : (a b : Bool) → a ≡ true → b ≡ true → (a && b) ≡ true
both true b h k = k
both false b h k = h

not_both : (b : Bool) → b ≡ true → b ≡ false → ⊥
not_both true h k = cc
not_both false h k = cc

off : (b : Bool) → (b ≡ true → ⊥) → b ≡ false
off true h = absurd (h refl)
off false h = refl

-- ---- the order of keys

pub less_of : (r : Ordering) → is_lt r ≡ true → r ≡ Less
less_of Less h = refl
less_of Equal h = cc
less_of Greater h = cc

pub below_trans : (a b c : List ℕ) → is_below a b ≡ true → is_below b c ≡ true → is_below a c ≡ true
below_trans a b c ab bc = ap is_lt (nat_list_cmp_total.trans a b c (less_of _ ab) (less_of _ bc))

pub tied : (a : List ℕ) → slice_cmp nat_cmp a a ≡ Equal
tied a = tied_itself nat_list_cmp_total a

not_below_itself : (a : List ℕ) → is_below a a ≡ false
not_below_itself a = ap is_lt (tied a)

-- what is above is compared as such
pub above_is : (a b : List ℕ) → is_below a b ≡ true → slice_cmp nat_cmp b a ≡ Greater
above_is a b h = nat_list_cmp_total.antisymm b a ∙ back (slice_cmp nat_cmp a b) (less_of _ h)
  where
    back : (r : Ordering) → r ≡ Less → ordering_reverse r ≡ Greater
    back r is = ap ordering_reverse is

pub same_bytes : (a b : List ℕ) → bytes_eq a b ≡ true → a ≡ b
same_bytes a b h = (bytes_decides a b).0 h

is_same : (a b : List ℕ) → a ≡ b → bytes_eq a b ≡ true
is_same a b h = (bytes_decides a b).1 h

-- no key is one that is below it
pub other_key : (a b : List ℕ) → is_below a b ≡ true → bytes_eq a b ≡ false
other_key a b h = off (bytes_eq a b) (λ same. not_both (is_below a a) (subst (λ k. is_below a k ≡ true) (sym (same_bytes a b same)) h) (not_below_itself a))

pub same_key : (a : List ℕ) → bytes_eq a a ≡ true
same_key a = is_same a a refl

pub has_bytes : (key : List ℕ) → 1 ≤ length key → is_below [] key ≡ true
has_bytes [] h = absurd (omega arith)
has_bytes (b ∷ bs) h = refl

-- ---- the keys rise

same_cmp : (n : ℕ) → nat_cmp n n ≡ Equal
same_cmp n = tied_itself nat_cmp_total n

-- in one table the keys alone are compared
key_cmp : (low : List ℕ) (spot : Spot) → spot.0 ≡ 0 → spot_cmp (0, low) spot ≡ slice_cmp nat_cmp low spot.1
key_cmp low spot same = ap (λ r. ordering_then r (slice_cmp nat_cmp low spot.1)) (ap (nat_cmp 0) same ∙ same_cmp 0)

rises_above : (low : List ℕ) (es : Entries) → below_all spot_cmp (0, low) es ≡ true → is_sorted spot_cmp es ≡ true → RiseFrom low (shown es)
rises_above low [] below sorted = tt
rises_above low (e ∷ es) below sorted =
    elim (is_behind 0 [] e) as (λ b. is_behind 0 [] e ≡ b → RiseFrom low (map row_of (cond b (e ∷ filter (is_behind 0 []) es) (filter (is_behind 0 []) es)))) [
      | true ↦ λ h.
          let same : e.0.0 ≡ 0 = eqb-true _ _ (first_true _ _ h) in
          let spot : e.0 ≡ (0, e.0.1) = λ i. (same i, e.0.1) in (
            sym (ap is_lt (key_cmp low e.0 same))
                ∙ first_true _ _ below,
            rises_above e.0.1 es (subst (λ s. below_all spot_cmp s es ≡ true) spot (first_true _ _ sorted)) (second_true _ _ sorted),
          )
      | false ↦ λ h. rises_above low es (second_true _ _ below) (second_true _ _ sorted)
    ] refl

rises : (es : Entries) → is_sorted spot_cmp es ≡ true → RiseFrom [] (shown es)
rises [] sorted = tt
rises (e ∷ es) sorted =
    elim (is_behind 0 [] e) as (λ b. is_behind 0 [] e ≡ b → RiseFrom [] (map row_of (cond b (e ∷ filter (is_behind 0 []) es) (filter (is_behind 0 []) es)))) [
      | true ↦ λ h.
          let same : e.0.0 ≡ 0 = eqb-true _ _ (first_true _ _ h) in
          let spot : e.0 ≡ (0, e.0.1) = λ i. (same i, e.0.1) in
          (second_true _ _ h, rises_above e.0.1 es (subst (λ s. below_all spot_cmp s es ≡ true) spot (first_true _ _ sorted)) (second_true _ _ sorted))
      | false ↦ λ h. rises es (second_true _ _ sorted)
    ] refl

sorted_of : (rows : Rows) → is_sorted spot_cmp (entries rows) ≡ true
sorted_of rows = true_of _ (entries_sorted rows)

pub rows_rise : (rows : Rows) → RiseFrom [] (rows_in rows 0)
rows_rise rows = rises (entries rows) (sorted_of rows)

-- ---- a row is found under its key

-- the value of the first row with this key
abbrev pub found : List ℕ → List Row → Option (List ℕ)
found key [] = None
found key (row ∷ rows) = cond (bytes_eq row.key key) (Some row.value) (found key rows)

one_found : (hit behind same : Bool) (key : List ℕ) (e : Spot × List ℕ) (xs : Entries) (rest : Option (List ℕ)) → bytes_eq e.0.1 key ≡ same
    → (hit ≡ true → (behind ≡ true) × (same ≡ true)) → (behind ≡ true → same ≡ true → hit ≡ true) → rest ≡ found key (map row_of xs)
    → cond hit (Some e.1) rest ≡ found key (map row_of (cond behind (e ∷ xs) xs))
one_found true true true key e xs rest test on back is = sym (ap (λ b. cond b (Some e.1) (found key (map row_of xs))) test)
one_found true true false key e xs rest test on back is = let odd = (on refl).1 in cc
one_found true false same key e xs rest test on back is = let odd = (on refl).0 in cc
one_found false true true key e xs rest test on back is = let odd = back refl refl in cc
one_found false true false key e xs rest test on back is = is ∙ sym (ap (λ b. cond b (Some e.1) (found key (map row_of xs))) test)
one_found false false same key e xs rest test on back is = is

is_hit : (key : List ℕ) (spot : Spot) → is_below [] key ≡ true → eq_by_cmp spot_cmp (0, key) spot ≡ true
    → ((nat_eq spot.0 0 && is_below [] spot.1) ≡ true) × (bytes_eq spot.1 key ≡ true)
is_hit key spot long h =
    let same = same_spot (0, key) spot h in (
      subst (λ s. (nat_eq s.0 0 && is_below [] s.1) ≡ true) same (both (nat_eq 0 0) (is_below [] key) refl long),
      subst (λ s. bytes_eq s.1 key ≡ true) same (same_key key),
    )

hits : (key : List ℕ) (spot : Spot) → (nat_eq spot.0 0 && is_below [] spot.1) ≡ true → bytes_eq spot.1 key ≡ true → eq_by_cmp spot_cmp (0, key) spot ≡ true
hits key spot behind same =
    let at : spot.0 ≡ 0 = eqb-true _ _ (first_true _ _ behind) in
    let is : spot.1 ≡ key = same_bytes spot.1 key same in
    let whole : (0, key) ≡ spot = λ k. (sym at k, sym is k) in
    subst (λ s. eq_by_cmp spot_cmp (0, key) s ≡ true) whole ((eq_by_cmp_equiv spots_total).refl (0, key))

found_in_entries : (key : List ℕ) (es : Entries) → is_below [] key ≡ true → map_of.find spot_cmp (0, key) es ≡ found key (shown es)
found_in_entries key [] long = refl
found_in_entries key (e ∷ es) long =
    one_found (eq_by_cmp spot_cmp (0, key) e.0) (is_behind 0 [] e) (bytes_eq e.0.1 key) key e (filter (is_behind 0 []) es)
    (map_of.find spot_cmp (0, key) es) refl
    (is_hit key e.0 long) (hits key e.0) (found_in_entries key es long)

-- a key with at least one byte is found there
pub value_found : (rows : Rows) (key : List ℕ) → 1 ≤ length key → value_at rows 0 key ≡ found key (rows_in rows 0)
value_found rows key long = get-entries rows (0, key) ∙ found_in_entries key (entries rows) (has_bytes key long)

-- ---- a row that is put

abbrev pub row_with : List ℕ → List ℕ → Row
row_with key value = record { key = key; value = value }

-- the rows with a row in its place
abbrev pub put_row : List ℕ → List ℕ → List Row → List Row
put_row key value [] = row_with key value ∷ []
put_row key value (row ∷ rows) =
    by_order (slice_cmp nat_cmp key row.key) (row_with key value ∷ row ∷ rows) (row_with row.key value ∷ rows) (row ∷ put_row key value rows)

put_first : (key value : List ℕ) (rows : List Row) → RiseFrom key rows → put_row key value rows ≡ row_with key value ∷ rows
put_first key value [] rise = refl
put_first key value (row ∷ rows) rise =
    ap (λ r. by_order r (row_with key value ∷ row ∷ rows) (row_with row.key value ∷ rows) (row ∷ put_row key value rows)) (less_of _ rise.0)

below_more : (x y : Spot) (es : Entries) → spot_cmp x y ≡ Less → below_all spot_cmp y es ≡ true → below_all spot_cmp x es ≡ true
below_more x y [] h below = refl
below_more x y (e ∷ es) h below =
    both _ _ (ap is_lt (spots_total.trans x y e.0 h (less_of _ (first_true _ _ below)))) (below_more x y es h (second_true _ _ below))

put_over : (b : ℕ) (bs value old : List ℕ) (spot : Spot) (es : Entries) → (0, b ∷ bs) ≡ spot
    → shown ((spot, value) ∷ es) ≡ put_row (b ∷ bs) value (shown ((spot, old) ∷ es))
put_over b bs value old spot es same =
    subst (λ s. shown ((s, value) ∷ es) ≡ put_row (b ∷ bs) value (shown ((s, old) ∷ es))) same
    (sym (ap (λ r. by_order r (row_with (b ∷ bs) value ∷ row_with (b ∷ bs) old ∷ shown es) (row_with (b ∷ bs) value ∷ shown es)
    (row_with (b ∷ bs) old ∷ put_row (b ∷ bs) value (shown es))) (tied (b ∷ bs))))

put_behind : (behind : Bool) (key value : List ℕ) (e : Spot × List ℕ) (xs ys : Entries) → (behind ≡ true → slice_cmp nat_cmp key e.0.1 ≡ Greater)
    → map row_of ys ≡ put_row key value (map row_of xs) → map row_of (cond behind (e ∷ ys) ys) ≡ put_row key value (map row_of (cond behind (e ∷ xs) xs))
put_behind true key value e xs ys test is =
    ap (row_of e ∷◌) is
    ∙ sym (ap (λ r. by_order r (row_with key value ∷ row_of e ∷ map row_of xs) (row_with e.0.1 value ∷ map row_of xs)
    (row_of e ∷ put_row key value (map row_of xs))) (test refl))
put_behind false key value e xs ys test is = is

put_in_entries : (b : ℕ) (bs value : List ℕ) (es : Entries) → is_sorted spot_cmp es ≡ true
    → shown (map_of.put spot_cmp (0, b ∷ bs) value es) ≡ put_row (b ∷ bs) value (shown es)
put_in_entries b bs value [] sorted = refl
put_in_entries b bs value (e ∷ es) sorted =
    let rest = put_in_entries b bs value es (second_true _ _ sorted) in
    elim (spot_cmp (0, b ∷ bs) e.0) as (λ r. spot_cmp (0, b ∷ bs) e.0 ≡ r
    → shown (by_order r (((0, b ∷ bs), value) ∷ e ∷ es) ((e.0, value) ∷ es) (e ∷ map_of.put spot_cmp (0, b ∷ bs) value es)) ≡ put_row (b ∷ bs) value
    (shown (e ∷ es))) [
      | Less ↦ λ h. sym (put_first (b ∷ bs) value (shown (e ∷ es))
          (rises_above (b ∷ bs) (e ∷ es) (both _ _ (ap is_lt h) (below_more (0, b ∷ bs) e.0 es h (first_true _ _ sorted))) sorted))
      | Equal ↦ λ h. put_over b bs value e.1 e.0 es (same_spot (0, b ∷ bs) e.0 (ap is_eq h))
      | Greater ↦ λ h. put_behind (is_behind 0 [] e) (b ∷ bs) value e (filter (is_behind 0 []) es)
          (filter (is_behind 0 []) (map_of.put spot_cmp (0, b ∷ bs) value es))
          (λ behind. sym (key_cmp (b ∷ bs) e.0 (eqb-true _ _ (first_true _ _ behind))) ∙ h) rest
    ] refl

rows_put_at : (rows : Rows) (key value : List ℕ) → 1 ≤ length key
    → shown (map_of.put spot_cmp (0, key) value (entries rows)) ≡ put_row key value (rows_in rows 0)
rows_put_at rows [] value long = absurd (omega arith)
rows_put_at rows (b ∷ bs) value long = put_in_entries b bs value (entries rows) (sorted_of rows)

-- the rows of the table, with a row put
pub rows_put : (rows : Rows) (key value : List ℕ) → 1 ≤ length key → rows_in (insert rows (0, key) value) 0 ≡ put_row key value (rows_in rows 0)
rows_put rows key value long = ap shown (entries-insert spots_total rows (0, key) value) ∙ rows_put_at rows key value long
