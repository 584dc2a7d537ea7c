-- Intervals that are kept in the order of the keys of their rows.
use Rattle.std.proofs.Common.{T, ◌≡◌, ℕ, zero, suc, ◌+◌, ◌≤◌, ◌<◌, Bool, true, false, cond, not, nat_eq, ◌-◌, if◌then◌else◌, List, [], ◌∷◌, map, length, take}
use Rattle.std.proofs.Common.{get_or, Option, Some, None, refl, sym, ap, subst, ◌∙◌, arith}
use Rattle.std.specs.Cmp.Lexicographic.{slice_cmp, nat_list_cmp_total}
use Rattle.std.specs.FinMap.{find, get, get-insert, insert, is_sorted, put, same_map}
use Rattle.std.specs.FinMap.Entries.{below_all, by_order, find-put, is_sorted-put}
use Rattle.std.specs.List.{find as first, position_or_len, slice_get, slice_set, insert as list_insert}
use Rattle.std.specs.List.Sorted.{IsPartitionPoint}
use Rattle.std.specs.Option.{option_map, option_map_or}
use Rattle.std.specs.Ordering.{is_eq, is_gt, nat_cmp}
use Rattle.std.specs.declared.cmp.Ordering.{Ordering}
use Rattle.std.specs.declared.cmp.Ordering.TheVariants.{Less, Equal, Greater}
use Rattle.std.proofs.lemmas.Bool.{eqb-true}
use Rattle.module_effects.proofs.lemmas.Tables.{exact_rows, rows_total}
use Rattle.module_effects.specs.Rows.{RowName}
use Rattle.update_records.specs.Intervals.{level_of, levels_of, named}
use Rattle.update_records.specs.Ledger.{Levels}
use Rattle.update_records.specs.RecordRows.{Level, row_name}
use Rattle.update_records.specs.declared.stored.StoredInterval.{StoredInterval}
use Rattle.draw_laws.proofs.RowNames.{called_row, exact_bytes}
use Rattle.posting.proofs.RowOrder.{first_below, in_order, less_of, level_called, rest_below}
use Rattle.ledger_steps.specs.Intervals.{AreInOrder, if_called, in_row_order, is_before, is_called, is_past, key_cmp, keyed, with_levels}
use Rattle.ledger_steps.specs.Steps.{at_place}

abbrev Keyed : Type 0
Keyed = List ℕ × StoredInterval

abbrev pub place : StoredInterval → List StoredInterval → ℕ
place new items = position_or_len (is_past (named new)) items

abbrev pub put_in : StoredInterval → List StoredInterval → List Keyed
put_in new items = put (slice_cmp nat_cmp) (row_name (named new)) new (map keyed items)

abbrev place_by : Ordering → ℕ → ℕ
place_by r n = cond (not (not (is_gt r))) (1 + n) 0

abbrev pub Here : StoredInterval → List StoredInterval → ℕ → Bool
Here new items n = option_map_or (is_called (named new)) (slice_get items n) false

one_on : (n : ℕ) → 1 + n ≡ suc n
one_on n = omega arith

-- ---- a search

past_none : (name : RowName) (j : StoredInterval) (items : List StoredInterval) → is_before name j ≡ false → position_or_len (is_past name) (j ∷ items) ≡ 0
past_none name j items e = ap (λ b. cond (not (not b)) (1 + position_or_len (is_past name) items) 0) e

past_one : (name : RowName) (j : StoredInterval) (items : List StoredInterval) → is_before name j ≡ true
    → position_or_len (is_past name) (j ∷ items) ≡ 1 + position_or_len (is_past name) items
past_one name j items e = ap (λ b. cond (not (not b)) (1 + position_or_len (is_past name) items) 0) e

-- the place between the intervals before a name and the others
pub place_found : (name : RowName) (items : List StoredInterval) (n : ℕ) → n ≤ length items
    → IsPartitionPoint (λ j. is_before name j ≡ true) (λ j. is_before name j ≡ false) items n → n ≡ position_or_len (is_past name) items
place_found name [] n within parts = omega (arith, within)
place_found name (j ∷ items) zero within parts = sym (past_none name j items (parts.1 0 j (omega arith) (omega arith)))
place_found name (j ∷ items) (suc n) within parts =
    let rest = place_found name items n (omega arith)
    ((λ k d low high. parts.0 (suc k) d (omega arith) (omega arith)), (λ k d low high. parts.1 (suc k) d (omega arith) (omega arith))) in
    let past = past_one name j items (parts.0 0 j (omega arith) (omega arith)) in
    omega (arith, rest, past)

-- what stands at the place of a name, where it has the name
abbrev pub called_of : RowName → Option StoredInterval → Option StoredInterval
called_of name None = None
called_of name (Some j) = if_called name j

none_called : (name : RowName) (k : List ℕ) (items : List StoredInterval) → slice_cmp nat_cmp (row_name name) k ≡ Less
    → T (below_all (slice_cmp nat_cmp) k (map keyed items)) → first (is_called name) items ≡ None
none_called name k [] e h = refl
none_called name k (j ∷ items) e h =
    let less = nat_list_cmp_total.trans (row_name name) k (row_name (named j)) e (less_of (slice_cmp nat_cmp k (row_name (named j))) (first_below _ _ h)) in
    ap (λ r. cond (is_eq r) (Some j) (first (is_called name) items)) less ∙ none_called name k items e (rest_below _ _ h)

-- the search by place finds what a walk through the list would
pub called_at : (name : RowName) (items : List StoredInterval) → AreInOrder items
    → called_of name (slice_get items (position_or_len (is_past name) items)) ≡ first (is_called name) items
called_at name [] h = refl
called_at name (j ∷ items) h =
    elim (key_cmp name (named j))
    as (λ r. key_cmp name (named j) ≡ r → called_of name (slice_get (j ∷ items) (place_by r (position_or_len (is_past name) items))) ≡ cond (is_eq r)
    (Some j) (first (is_called name) items)) [
      | Less ↦ λ e. ap (λ r. cond (is_eq r) (Some j) None) e ∙ sym (none_called name (row_name (named j)) items e (first_below _ _ h))
      | Equal ↦ λ e. ap (λ r. cond (is_eq r) (Some j) None) e
      | Greater ↦ λ e. subst (λ m. called_of name (slice_get (j ∷ items) m) ≡ first (is_called name) items)
          (sym (one_on (position_or_len (is_past name) items))) (called_at name items (rest_below _ _ h))
    ] refl

-- ---- a put

-- an interval of a new name comes in at its place
pub inserted : (new : StoredInterval) (items : List StoredInterval) → Here new items (place new items) ≡ false
    → map keyed (list_insert items (place new items) new) ≡ put_in new items
inserted new [] h = refl
inserted new (j ∷ items) h =
    let rest = map keyed items in
    elim (key_cmp (named new) (named j)) as (λ r. key_cmp (named new) (named j) ≡ r → Here new (j ∷ items) (place_by r (place new items)) ≡ false
    → map keyed (list_insert (j ∷ items) (place_by r (place new items)) new) ≡ by_order r (keyed new ∷ keyed j ∷ rest) ((row_name (named j), new) ∷ rest)
    (keyed j ∷ put_in new items)) [
      | Less ↦ λ e k. refl
      | Equal ↦ λ e k. let wrong : true ≡ false = sym (ap is_eq e) ∙ k in cc
      | Greater ↦ λ e k. subst (λ m. map keyed (list_insert (j ∷ items) m new) ≡ keyed j ∷ put_in new items) (sym (one_on (place new items)))
          (ap (λ t. keyed j ∷ t) (inserted new items (subst (λ m. Here new (j ∷ items) m ≡ false) (one_on (place new items)) k)))
    ] refl h

-- one of a known name takes the place of the old one
pub replaced : (new : StoredInterval) (items : List StoredInterval) → Here new items (place new items) ≡ true
    → map keyed (slice_set items (place new items) new) ≡ put_in new items
replaced new [] h = cc
replaced new (j ∷ items) h =
    let rest = map keyed items in
    elim (key_cmp (named new) (named j)) as (λ r. key_cmp (named new) (named j) ≡ r → Here new (j ∷ items) (place_by r (place new items)) ≡ true
    → map keyed (slice_set (j ∷ items) (place_by r (place new items)) new) ≡ by_order r (keyed new ∷ keyed j ∷ rest) ((row_name (named j), new) ∷ rest)
    (keyed j ∷ put_in new items)) [
      | Less ↦ λ e k. let wrong : false ≡ true = sym (ap is_eq e) ∙ k in cc
      | Equal ↦ λ e k. ap (λ k. (k, new) ∷ rest) (exact_bytes (row_name (named new)) (row_name (named j)) e)
      | Greater ↦ λ e k. subst (λ m. map keyed (slice_set (j ∷ items) m new) ≡ keyed j ∷ put_in new items) (sym (one_on (place new items)))
          (ap (λ t. keyed j ∷ t) (replaced new items (subst (λ m. Here new (j ∷ items) m ≡ true) (one_on (place new items)) k)))
    ] refl h

pub kept_put : (new : StoredInterval) (items after : List StoredInterval) → map keyed after ≡ put_in new items → AreInOrder items → AreInOrder after
kept_put new items after is h = subst (λ es. T (is_sorted (slice_cmp nat_cmp) es)) (sym is)
    (is_sorted-put (slice_cmp nat_cmp) nat_list_cmp_total (row_name (named new)) new (map keyed items) h)

called_keyed : (name : RowName) (items : List StoredInterval) → first (is_called name) items ≡ find (slice_cmp nat_cmp) (row_name name) (map keyed items)
called_keyed name [] = refl
called_keyed name (j ∷ items) = ap (cond (is_called name j) (Some j)) (called_keyed name items)

called_put : (new : StoredInterval) (items after : List StoredInterval) (name : RowName) → map keyed after ≡ put_in new items
    → first (is_called name) after ≡ cond (is_called name new) (Some new) (first (is_called name) items)
called_put new items after name is =
    called_keyed name after
    ∙ ap (find (slice_cmp nat_cmp) (row_name name)) is
    ∙ find-put (slice_cmp nat_cmp) nat_list_cmp_total (row_name name) (row_name (named new)) new (map keyed items)
    ∙ ap (cond (is_called name new) (Some new)) (sym (called_keyed name items))

level_put : (b : Bool) (new : StoredInterval) (old : Option StoredInterval)
    → option_map level_of (cond b (Some new) old) ≡ cond b (Some (level_of new)) (option_map level_of old)
level_put true new old = refl
level_put false new old = refl

pub levels_put : (new : StoredInterval) (items after : List StoredInterval) → map keyed after ≡ put_in new items
    → levels_of after ≡ insert (levels_of items) (named new) (level_of new)
levels_put new items after is = same_map rows_total exact_rows _ _ (λ name.
    level_called name after
    ∙ ap (option_map level_of) (called_put new items after name is)
    ∙ level_put (is_called name new) new (first (is_called name) items)
    ∙ ap (cond (is_called name new) (Some (level_of new))) (sym (level_called name items))
    ∙ ap (λ b. cond b (Some (level_of new)) (get (levels_of items) name)) (called_row name (named new))
    ∙ sym (get-insert rows_total (levels_of items) (named new) (level_of new) name))

next : (i : ℕ) → suc i ≡ i + 1
next i = omega arith

levels_next : (intervals : List StoredInterval) (levels : Levels) (i : ℕ) (new : StoredInterval) → i < length intervals → new ≡ get_or intervals i new
    → with_levels (take (suc i) intervals) levels ≡ insert (with_levels (take i intervals) levels) (named new) (level_of new)
levels_next [] levels i new h is = absurd (omega arith)
levels_next (j ∷ intervals) levels zero new h is = ap (λ (x : StoredInterval). insert levels (named x) (level_of x)) (sym is)
levels_next (j ∷ intervals) levels (suc i) new h is = levels_next intervals (insert levels (named j) (level_of j)) i new (omega arith) is

-- one interval more is put
pub levels_more : (intervals : List StoredInterval) (levels : Levels) (i : ℕ) (new : StoredInterval) → i < length intervals → new ≡ get_or intervals i new
    → with_levels (take (i + 1) intervals) levels ≡ insert (with_levels (take i intervals) levels) (named new) (level_of new)
levels_more intervals levels i new h is =
    subst (λ n. with_levels (take n intervals) levels ≡ insert (with_levels (take i intervals) levels) (named new) (level_of new)) (next i)
    (levels_next intervals levels i new h is)

-- ---- the same of what the code has at hand

pub replaced_at : (new : StoredInterval) (items : List StoredInterval) (n : ℕ) → n ≡ place new items → Here new items n ≡ true
    → map keyed (slice_set items n new) ≡ put_in new items
replaced_at new items n at here = subst (λ k. map keyed (slice_set items k new) ≡ put_in new items) (sym at)
    (replaced new items (subst (λ k. Here new items k ≡ true) at here))

pub inserted_at : (new : StoredInterval) (items after : List StoredInterval) (n : ℕ) → n ≡ place new items → Here new items n ≡ false
    → after ≡ list_insert items n new → map keyed after ≡ put_in new items
inserted_at new items after n at here is =
    ap (map keyed) is ∙ subst (λ k. map keyed (list_insert items k new) ≡ put_in new items) (sym at)
    (inserted new items (subst (λ k. Here new items k ≡ false) at here))

level_told : (found : Option StoredInterval) → option_map (λ (i : StoredInterval). i.level) found ≡ option_map (λ (l : Level). l.level)
    (option_map level_of found)
level_told None = refl
level_told (Some j) = refl

pub level_read : (found : Option StoredInterval) (slice items : List StoredInterval) (levels : Levels) (name : RowName)
    → (AreInOrder slice → found ≡ first (is_called name) slice) → slice ≡ items → AreInOrder items → levels_of items ≡ levels
    → option_map (λ (i : StoredInterval). i.level) found ≡ option_map (λ (l : Level). l.level) (get levels name)
level_read found slice items levels name is same kept made =
    ap (option_map (λ (i : StoredInterval). i.level)) (is (subst AreInOrder (sym same) kept) ∙ ap (first (is_called name)) same)
    ∙ level_told (first (is_called name) items)
    ∙ ap (option_map (λ (l : Level). l.level)) (sym (level_called name items) ∙ ap (λ (m : Levels). get m name) made)

pub stored_read : (row : ℕ) (slice items : List StoredInterval) (levels : Levels) → 1 ≤ row → slice ≡ items → AreInOrder items → levels_of items ≡ levels
    → slice_get slice (row - 1) ≡ at_place row (in_row_order levels)
stored_read row slice items levels h same kept made =
    ap (λ is. slice_get is (row - 1)) (same ∙ sym (in_order items kept) ∙ ap in_row_order made)
    ∙ elim (nat_eq row 0)
    as (λ b. nat_eq row 0 ≡ b → slice_get (in_row_order levels) (row - 1) ≡ (if b then None else slice_get (in_row_order levels) (row - 1))) [
      | true ↦ λ e. let none : row ≡ 0 = eqb-true row 0 e in absurd (omega (arith, none, h))
      | false ↦ λ e. refl
    ] refl

pub found_called : (found : Option StoredInterval) (items : List StoredInterval) (name : RowName) (n : ℕ) (o : Option StoredInterval)
    → (AreInOrder items → n ≡ position_or_len (is_past name) items) → o ≡ slice_get items n → found ≡ called_of name o → AreInOrder items
    → found ≡ first (is_called name) items
found_called found items name n o place at is kept = is ∙ ap (called_of name) (at ∙ ap (slice_get items) (place kept)) ∙ called_at name items kept
