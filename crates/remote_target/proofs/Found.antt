-- What stands under a key, found among the rows of its table.
use Rattle.std.proofs.Common.{◌≡◌, ℕ, ◌≤◌, Bool, true, false, cond, ◌&&◌, nat_eq, map, List, [], ◌∷◌, length, Option, Some, None, refl, sym, ap, subst, ◌∙◌, arith}
use Rattle.std.proofs.lemmas.Bool.{eqb-true}
use Rattle.std.proofs.lemmas.Bool.Decides.{nat_tests}
use Rattle.std.specs.List.{filter}
use Rattle.std.specs.List as list
use Rattle.std.specs.Ordering.{eq_by_cmp}
use Rattle.std.specs.Str.{bytes_eq}
use Rattle.std.specs.FinMap.{entries, get-entries}
use Rattle.std.specs.FinMap as map_of
use Rattle.keeper_api.specs.declared.rows.Row.{Row}
use Rattle.keeper_api.specs.Rows.{Spot, spot_cmp, Rows, is_below, is_behind, row_of, RiseFrom, value_at}
use Rattle.keeper_api.specs.RowLaws.{same_spot}
use Rattle.remote_target.specs.Reading.{value_if}
use Rattle.table_reading.specs.Tables.{rows_in}
use Rattle.remote_target.proofs.Executions.{same_bytes, is_same}
use Rattle.table_reading.proofs.lemmas.Pages.{first_true, lower, not_below_itself, not_both, off}
use Rattle.remote_target.proofs.Stands.{same_spot-Decides}

-- the value of the first row with this key
abbrev pub found : List ℕ → List Row → Option (List ℕ)
found key [] = None
found key (row ∷ rows) = cond (bytes_eq row.key key) (Some row.value) (found key rows)

-- ---- in the rows of a table

one_found : (hit behind same : Bool) (key : List ℕ) (e : Spot × List ℕ) (xs : List (Spot × List ℕ)) (rest : Option (List ℕ)) → bytes_eq e.0.1 key ≡ same
    → (hit ≡ true → (behind ≡ true) × (same ≡ true)) → (behind ≡ true → same ≡ true → hit ≡ true) → rest ≡ found key (map row_of xs)
    → cond hit (Some e.1) rest ≡ found key (map row_of (cond behind (e ∷ xs) xs))
one_found true true true key e xs rest test on back is = sym (ap (λ b. cond b (Some e.1) (found key (map row_of xs))) test)
one_found true true false key e xs rest test on back is = let odd = (on refl).1 in cc
one_found true false same key e xs rest test on back is = let odd = (on refl).0 in cc
one_found false true true key e xs rest test on back is = let odd = back refl refl in cc
one_found false true false key e xs rest test on back is = is ∙ sym (ap (λ b. cond b (Some e.1) (found key (map row_of xs))) test)
one_found false false same key e xs rest test on back is = is

both : (a b : Bool) → a ≡ true → b ≡ true → (a && b) ≡ true
both true b h k = k
both false b h k = h

pub same_number : (n : ℕ) → nat_eq n n ≡ true
same_number n = grind (arith, nat_tests)

is_hit : (table : ℕ) (key : List ℕ) (spot : Spot) → is_below [] key ≡ true → eq_by_cmp spot_cmp (table, key) spot ≡ true
    → ((nat_eq spot.0 table && is_below [] spot.1) ≡ true) × (bytes_eq spot.1 key ≡ true)
is_hit table key spot long h =
    let same = same_spot (table, key) spot h in (
      subst (λ s. (nat_eq s.0 table && is_below [] s.1) ≡ true) same (both (nat_eq table table) (is_below [] key) (same_number table) long),
      subst (λ s. bytes_eq s.1 key ≡ true) same (is_same key key refl),
    )

hits : (table : ℕ) (key : List ℕ) (spot : Spot) → (nat_eq spot.0 table && is_below [] spot.1) ≡ true → bytes_eq spot.1 key ≡ true
    → eq_by_cmp spot_cmp (table, key) spot ≡ true
hits table key spot behind same =
    let at : spot.0 ≡ table = eqb-true _ _ (first_true _ _ behind) in
    let is : spot.1 ≡ key = same_bytes spot.1 key same in
    (same_spot-Decides (table, key) spot).1 (λ k. (sym at k, sym is k))

found_in_entries : (table : ℕ) (key : List ℕ) (es : List (Spot × List ℕ)) → is_below [] key ≡ true
    → map_of.find spot_cmp (table, key) es ≡ found key (map row_of (filter (is_behind table []) es))
found_in_entries table key [] long = refl
found_in_entries table key (e ∷ es) long =
    one_found (eq_by_cmp spot_cmp (table, key) e.0) (is_behind table [] e) (bytes_eq e.0.1 key) key e (filter (is_behind table []) es)
    (map_of.find spot_cmp (table, key) es) refl
    (is_hit table key e.0 long) (hits table key e.0) (found_in_entries table key es long)

has_bytes : (key : List ℕ) → 1 ≤ length key → is_below [] key ≡ true
has_bytes [] h = absurd (omega arith)
has_bytes (b ∷ bs) h = refl

-- a key with at least one byte is found there
pub value_found : (rows : Rows) (table : ℕ) (key : List ℕ) → 1 ≤ length key → value_at rows table key ≡ found key (rows_in rows table)
value_found rows table key long = get-entries rows (table, key) ∙ found_in_entries table key (entries rows) (has_bytes key long)

-- ---- among keys that rise

-- a key below the first isn't found
pub not_found : (low : List ℕ) (rows : List Row) → RiseFrom low rows → found low rows ≡ None
not_found low [] rise = refl
not_found low (row ∷ rows) rise =
    let other : bytes_eq row.key low ≡ false =
    off (bytes_eq row.key low)
    (λ same. not_both (is_below low low) (subst (λ k. is_below low k ≡ true) (same_bytes row.key low same) rise.0) (not_below_itself low)) in
    ap (λ b. cond b (Some row.value) (found low rows)) other ∙ not_found low rows (lower low row.key rows rise.0 rise.1)

-- ---- found by a test

one_value : (b : Bool) (row : Row) (rest : Option Row) (more : Option (List ℕ)) → value_if rest ≡ more
    → value_if (cond b (Some row) rest) ≡ cond b (Some row.value) more
one_value true row rest more is = refl
one_value false row rest more is = is

pub value_by_test : (key : List ℕ) (rows : List Row) → value_if (list.find (λ row. bytes_eq row.key key) rows) ≡ found key rows
value_by_test key [] = refl
value_by_test key (row ∷ rows) = one_value (bytes_eq row.key key) row (list.find (λ row. bytes_eq row.key key) rows) (found key rows) (value_by_test key rows)
