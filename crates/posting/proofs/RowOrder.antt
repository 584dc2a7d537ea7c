-- Intervals in the order of the keys of their rows: look-ups by name, and the search for a place.
use Rattle.std.proofs.Common.{T, ◌≡◌, ℕ, zero, suc, ◌<◌, Bool, true, false, cond, ◌&&◌, List, [], ◌∷◌, map, length, get_or, Option, Some, None, Decides, refl, sym, ap, ◌∙◌, arith}
use Rattle.std.specs.Cmp.Lexicographic.{slice_cmp, nat_list_cmp_total}
use Rattle.std.specs.FinMap.{entries, find, from_entries, from_sorted, get, values, entries-from_sorted, get-entries, get-from_entries, get-from_sorted, same_map}
use Rattle.std.specs.FinMap.Entries.{below_all}
use Rattle.std.specs.List.{find as first}
use Rattle.std.specs.List.Sorted.{IsPartitionedBy}
use Rattle.std.specs.Option.{option_map}
use Rattle.std.specs.Ordering.{eq_by_cmp, is_gt, is_lt, nat_cmp, ordering_reverse, ordering_then}
use Rattle.std.specs.Str.{bytes_eq}
use Rattle.std.specs.declared.cmp.Ordering.{Ordering}
use Rattle.std.specs.declared.cmp.Ordering.TheVariants.{Less, Equal, Greater}
use Rattle.std.proofs.lemmas.Bool.Decides.{Decides-and, Decides-like, same_from_decides}
use Rattle.std.proofs.lemmas.Slice.Eq.{bytes_eq-Decides}
use Rattle.module_effects.proofs.lemmas.Tables.{rows_total, same_row, same_row-Decides}
use Rattle.module_effects.specs.Rows.{RowName, row_cmp}
use Rattle.store_reading.proofs.lemmas.TextOrder.{name_cmp}
use Rattle.record_laws.proofs.Keyed.{unname, unname_name}
use Rattle.update_records.specs.Intervals.{entry_of, level_of, levels_of, named}
use Rattle.update_records.specs.RecordRows.{Level, row_name}
use Rattle.update_records.specs.declared.stored.StoredInterval.{StoredInterval}
use Rattle.ledger_steps.specs.Intervals.{AreInOrder, in_row_order, interval_of_entry, is_before, is_called, key_cmp, keyed}
use Rattle.draw_laws.proofs.RowNames.{Bytes, exact_bytes, first_called, key-Decides}

-- how the code compares two names
pub keys_compared : (a b : RowName) → ordering_then (ordering_then (nat_cmp (length a.0) (length b.0)) (slice_cmp nat_cmp a.0 b.0))
    (slice_cmp nat_cmp a.1 b.1) ≡ key_cmp a b
keys_compared a b = name_cmp a.0 b.0 a.1 b.1

-- ---- names and their keys

-- whether bytes are the key of a name
abbrev is_key : Bytes → Bool
is_key k = bytes_eq k (row_name (unname k))

spelt-Decides : (k : Bytes) (r : RowName) → Decides (is_key k && same_row (unname k) r) (k ≡ row_name r)
spelt-Decides k r =
    Decides-like (is_key k && same_row (unname k) r) (λ p. p.0 ∙ ap row_name p.1)
    (λ e. let is : unname k ≡ r = ap unname e ∙ unname_name r in (e ∙ ap row_name (sym is), is))
    (Decides-and _ _ (bytes_eq-Decides k (row_name (unname k))) (same_row-Decides (unname k) r))

spelt : (k : Bytes) (r : RowName) → eq_by_cmp (slice_cmp nat_cmp) k (row_name r) ≡ (is_key k && same_row (unname k) r)
spelt k r = same_from_decides _ _ (key-Decides k (row_name r)) (spelt-Decides k r)

-- ---- the interval of a name

abbrev at_key : Bytes → Option Level → Option StoredInterval
at_key k level = cond (is_key k) (option_map (λ (l : Level). interval_of_entry (unname k, l)) level) None

key_found : (k : Bytes) (e : RowName × Level) (rest : Option Level) (b c : Bool) → (c ≡ true → unname k ≡ e.0)
    → cond (b && c) (Some (interval_of_entry e)) (cond b (option_map (λ (l : Level). interval_of_entry (unname k, l)) rest) None)
    ≡ cond b (option_map (λ (l : Level). interval_of_entry (unname k, l)) (cond c (Some e.1) rest)) None
key_found k e rest true true is = ap (λ (r : RowName). Some (interval_of_entry (r, e.1))) (sym (is refl))
key_found k e rest true false is = refl
key_found k e rest false c is = refl

nothing_behind : (b : Bool) (g : Level → StoredInterval) → None ≡ cond b (option_map g None) None
nothing_behind true g = refl
nothing_behind false g = refl

-- what stands behind the key of a row
behind_key : (k : Bytes) (es : List (RowName × Level)) → find (slice_cmp nat_cmp) k (map keyed (map interval_of_entry es)) ≡ at_key k
    (find row_cmp (unname k) es)
behind_key k [] = nothing_behind (is_key k) (λ (l : Level). interval_of_entry (unname k, l))
behind_key k (e ∷ es) =
    ap (λ b. cond b (Some (interval_of_entry e)) (find (slice_cmp nat_cmp) k (map keyed (map interval_of_entry es)))) (spelt k e.0)
    ∙ ap (cond (is_key k && same_row (unname k) e.0) (Some (interval_of_entry e))) (behind_key k es)
    ∙ key_found k e (find row_cmp (unname k) es) (is_key k) (same_row (unname k) e.0) ((same_row-Decides (unname k) e.0).0)

same_intervals : (items : List StoredInterval) → map interval_of_entry (map entry_of items) ≡ items
same_intervals [] = refl
same_intervals (j ∷ items) = ap (λ is. j ∷ is) (same_intervals items)

same_values : (items : List StoredInterval) → map (λ (e : Bytes × StoredInterval). e.1) (map keyed items) ≡ items
same_values [] = refl
same_values (j ∷ items) = ap (λ is. j ∷ is) (same_values items)

-- intervals that are kept in order are those of their map in order
pub in_order : (items : List StoredInterval) → AreInOrder items → in_row_order (levels_of items) ≡ items
in_order items h =
    ap (λ m. values m)
    (same_map nat_list_cmp_total exact_bytes (from_entries {R = slice_cmp nat_cmp} (map keyed (map interval_of_entry (entries (levels_of items)))))
    (from_sorted (map keyed items)) (λ k.
    get-from_entries nat_list_cmp_total (map keyed (map interval_of_entry (entries (levels_of items)))) k
    ∙ behind_key k (entries (levels_of items))
    ∙ ap (at_key k) (sym (get-entries (levels_of items) (unname k)) ∙ get-from_entries rows_total (map entry_of items) (unname k))
    ∙ sym (behind_key k (map entry_of items))
    ∙ ap (λ is. find (slice_cmp nat_cmp) k (map keyed is)) (same_intervals items)
    ∙ sym (get-from_sorted (slice_cmp nat_cmp) (map keyed items) k h)))
    ∙ ap (map (λ (e : Bytes × StoredInterval). e.1)) (entries-from_sorted (slice_cmp nat_cmp) (map keyed items) h)
    ∙ same_values items

pub level_called : (name : RowName) (items : List StoredInterval) → get (levels_of items) name ≡ option_map level_of (first (is_called name) items)
level_called name items = get-from_entries rows_total (map entry_of items) name ∙ first_called name items

-- ---- the place of a name

pub first_below : (a b : Bool) → T (a && b) → T a
first_below true b h = tt
first_below false b h = h

pub rest_below : (a b : Bool) → T (a && b) → T b
rest_below true b h = h
rest_below false b h = absurd h

pub less_of : (o : Ordering) → T (is_lt o) → o ≡ Less
less_of Less h = refl
less_of Equal h = absurd h
less_of Greater h = absurd h

greater_of : (o : Ordering) → is_gt o ≡ true → o ≡ Greater
greater_of Less h = cc
greater_of Equal h = cc
greater_of Greater h = refl

-- a key that is below all is below each
below_at : (k : Bytes) (items : List StoredInterval) (i : ℕ) (d : StoredInterval) → T (below_all (slice_cmp nat_cmp) k (map keyed items)) → i < length items
    → slice_cmp nat_cmp k (row_name (named (get_or items i d))) ≡ Less
below_at k [] i d h within = absurd (omega arith)
below_at k (j ∷ items) zero d h within = less_of (slice_cmp nat_cmp k (row_name (named j))) (first_below _ _ h)
below_at k (j ∷ items) (suc i) d h within = below_at k items i d (rest_below _ _ h) (omega arith)

less_back : (k l : Bytes) → slice_cmp nat_cmp k l ≡ Greater → slice_cmp nat_cmp l k ≡ Less
less_back k l e = nat_list_cmp_total.antisymm l k ∙ ap ordering_reverse e

greater_back : (k l : Bytes) → slice_cmp nat_cmp k l ≡ Less → slice_cmp nat_cmp l k ≡ Greater
greater_back k l e = nat_list_cmp_total.antisymm l k ∙ ap ordering_reverse e

-- those before a name stand in front of the others
pub parted : (name : RowName) (items : List StoredInterval) → AreInOrder items → IsPartitionedBy (is_before name) items
parted name [] h i j d low within t = absurd (omega arith)
parted name (x ∷ items) h zero zero d low within t = t
parted name (x ∷ items) h zero (suc j) d low within t =
    let y = get_or items j d in
    let far = below_at (row_name (named x)) items j d (first_below _ _ h) (omega arith) in
    let near = less_back (row_name name) (row_name (named y)) (greater_of (key_cmp name (named y)) t) in
    ap is_gt (greater_back (row_name (named x)) (row_name name) (nat_list_cmp_total.trans (row_name (named x)) (row_name (named y)) (row_name name) far near))
parted name (x ∷ items) h (suc i) zero d low within t = absurd (omega arith)
parted name (x ∷ items) h (suc i) (suc j) d low within t = parted name items (rest_below _ _ h) i j d (omega arith) (omega arith) t
