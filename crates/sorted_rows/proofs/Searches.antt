-- What a search by halves finds, and the rows behind it.
use Rattle.std.proofs.Common.{◌≡◌, ◌⊎◌, ◌&&◌, IsTrue, inl, inr, ℕ, suc, zero, ◌<◌, ◌≤◌, Bool, true, false, cond, List, [], ◌∷◌, map, length, drop, get_or, nat_eq, refl, sym, ap, ◌∙◌, subst, arith}
use Rattle.std.specs.List.{filter}
use Rattle.std.specs.List.Sorted.{IsPartitionedBy, IsPartitionPoint}
use Rattle.std.specs.Ordering.{nat_cmp, is_lt, is_eq, ordering_then, ordering_reverse}
use Rattle.std.specs.Cmp.Lexicographic.{slice_cmp, nat_list_cmp_total}
use Rattle.std.specs.Cmp.{nat_cmp_total, tied_itself}
use Rattle.std.specs.declared.cmp.Ordering.{Ordering}
use Rattle.std.specs.declared.cmp.Ordering.TheVariants.{Less, Equal, Greater}
use Rattle.std.specs.FinMap.Entries.{by_order, below_all}
use Rattle.std.proofs.lemmas.Bool.Decides.{Decides-eqb}
use Rattle.keeper_api.specs.Rows.{Spot, spot_cmp, row_of, is_below, is_behind}
use Rattle.keeper_api.specs.RowLaws.{spots_total}
use Rattle.keeper_api.specs.declared.rows.Row.{Row}
use Rattle.sorted_rows.specs.Places.{Entry, entry_in, entries_in, AreSorted, next, place_in, end_of}
use Rattle.sorted_rows.specs.declared.table.Place.{Place}
use Rattle.sorted_rows.specs.declared.table.Place.TheVariants.{At, Before}
use Rattle.sorted_rows.proofs.lemmas.Places.{first_true, second_true, less_of, below_too, entries-drop, rows_again}

-- in one table the keys alone are compared
pub in_table : (table : ℕ) (a b : List ℕ) → spot_cmp (table, a) (table, b) ≡ slice_cmp nat_cmp a b
in_table table a b = ap (λ r. ordering_then r (slice_cmp nat_cmp a b)) (tied_itself nat_cmp_total table)

pub equal_of : (r : Ordering) → is_eq r ≡ true → r ≡ Equal
equal_of Less h = cc
equal_of Equal h = refl
equal_of Greater h = cc

greater_of : (r : Ordering) → is_lt r ≡ false → is_eq r ≡ false → r ≡ Greater
greater_of Less low same = cc
greater_of Equal low same = cc
greater_of Greater low same = refl

-- a spot below all is below each
below_at : (a : Spot) (table : ℕ) (rows : List Row) (j : ℕ) (d : Row) → IsTrue (below_all spot_cmp a (entries_in table rows)) → j < length rows
    → spot_cmp a (table, (get_or rows j d).key) ≡ Less
below_at a table [] j d h within = absurd (omega arith)
below_at a table (r ∷ rows) zero d h within = less_of _ (first_true _ _ h)
below_at a table (r ∷ rows) (suc j) d h within = below_at a table rows j d (second_true _ _ h) (omega arith)

-- those before a key stand in front of the others
pub parted : (table : ℕ) (key : List ℕ) (rows : List Row) → AreSorted (entries_in table rows) → IsPartitionedBy (λ row. is_below row.key key) rows
parted table key [] h i j d low within t = absurd (omega arith)
parted table key (x ∷ rows) h zero zero d low within t = t
parted table key (x ∷ rows) h zero (suc j) d low within t =
    let y = get_or rows j d in
    let far : slice_cmp nat_cmp x.key y.key ≡ Less = sym (in_table table x.key y.key)
    ∙ below_at (table, x.key) table rows j d (first_true _ _ h) (omega arith) in
    ap is_lt (nat_list_cmp_total.trans x.key y.key key far (less_of (slice_cmp nat_cmp y.key key) t))
parted table key (x ∷ rows) h (suc i) zero d low within t = absurd (omega arith)
parted table key (x ∷ rows) h (suc i) (suc j) d low within t = parted table key rows (second_true _ _ h) i j d (omega arith) (omega arith) t

abbrev pub Parts : List ℕ → List Row → ℕ → Type 0
Parts key rows n = IsPartitionPoint (λ row. is_below row.key key ≡ true) (λ row. is_below row.key key ≡ false) rows n

later_parts : (key : List ℕ) (r : Row) (rows : List Row) (n : ℕ) → Parts key (r ∷ rows) (suc n) → Parts key rows n
later_parts key r rows n parts =
    ((λ k d low high. parts.0 (suc k) d (omega arith) (omega arith)), (λ k d low high. parts.1 (suc k) d (omega arith) (omega arith)))

abbrev ordered : ℕ → List ℕ → List Row → Ordering → Place
ordered table key rows r = by_order r (next (place_in (table, key) (entries_in table rows))) (At 0) (Before 0)

-- the first row is before the key
passed : (table : ℕ) (key : List ℕ) (r : Row) (rows : List Row) (n : ℕ) → Parts key (r ∷ rows) (suc n)
    → place_in (table, key) (entries_in table (r ∷ rows)) ≡ next (place_in (table, key) (entries_in table rows))
passed table key r rows n parts = ap (ordered table key rows) (in_table table r.key key ∙ less_of _ (parts.0 0 r (omega arith) (omega arith)))

pub place_at : (table : ℕ) (key : List ℕ) (rows : List Row) (n : ℕ) (row : Row) → n < length rows → row ≡ get_or rows n row
    → is_eq (slice_cmp nat_cmp row.key key) ≡ true → Parts key rows n → At n ≡ place_in (table, key) (entries_in table rows)
place_at table key [] n row h is same parts = absurd (omega arith)
place_at table key (r ∷ rows) zero row h is same parts =
    sym (ap (ordered table key rows) (in_table table r.key key ∙ ap (λ (x : Row). slice_cmp nat_cmp x.key key) (sym is) ∙ equal_of _ same))
place_at table key (r ∷ rows) (suc n) row h is same parts =
    ap next (place_at table key rows n row (omega arith) is same (later_parts key r rows n parts)) ∙ sym (passed table key r rows n parts)

pub place_off : (table : ℕ) (key : List ℕ) (rows : List Row) (n : ℕ) (row : Row) → n < length rows → row ≡ get_or rows n row
    → is_eq (slice_cmp nat_cmp row.key key) ≡ false → Parts key rows n → Before n ≡ place_in (table, key) (entries_in table rows)
place_off table key [] n row h is other parts = absurd (omega arith)
place_off table key (r ∷ rows) zero row h is other parts =
    let apart : is_eq (slice_cmp nat_cmp r.key key) ≡ false = ap (λ (x : Row). is_eq (slice_cmp nat_cmp x.key key)) (sym is) ∙ other in
    sym (ap (ordered table key rows) (in_table table r.key key ∙ greater_of _ (parts.1 0 r (omega arith) (omega arith)) apart))
place_off table key (r ∷ rows) (suc n) row h is other parts =
    ap next (place_off table key rows n row (omega arith) is other (later_parts key r rows n parts)) ∙ sym (passed table key r rows n parts)

pub place_end : (table : ℕ) (key : List ℕ) (rows : List Row) (n : ℕ) → n ≤ length rows → length rows ≤ n → Parts key rows n
    → Before n ≡ place_in (table, key) (entries_in table rows)
place_end table key [] n h end parts = ap Before (omega arith)
place_end table key (r ∷ rows) zero h end parts = absurd (omega arith)
place_end table key (r ∷ rows) (suc n) h end parts =
    ap next (place_end table key rows n (omega arith) (omega arith) (later_parts key r rows n parts)) ∙ sym (passed table key r rows n parts)

-- ---- the rows behind a key

number_same : (n : ℕ) → nat_eq n n ≡ true
number_same n = (Decides-eqb n n).1 refl

behind_row : (table : ℕ) (after : List ℕ) (r : Row) → is_behind table after (entry_in table r) ≡ is_below after r.key
behind_row table after r = ap (λ b. b && is_below after r.key) (number_same table)

end_next : (p : Place) → end_of (next p) ≡ suc (end_of p)
end_next (At i) = refl
end_next (Before i) = refl

abbrev taken : Bool → Entry → List Entry → List Entry
taken b e es = cond b (e ∷ es) es

all_behind : (table : ℕ) (after : List ℕ) (x : Spot) (rows : List Row) → IsTrue (below_all spot_cmp x (entries_in table rows))
    → (spot_cmp (table, after) x ≡ Less) ⊎ (spot_cmp (table, after) x ≡ Equal) → filter (is_behind table after) (entries_in table rows) ≡ entries_in table rows
all_behind table after x [] h at_most = refl
all_behind table after x (r ∷ rows) h at_most =
    let low : spot_cmp (table, after) (table, r.key) ≡ Less = below_too (table, after) x (table, r.key) at_most (less_of _ (first_true _ _ h)) in
    let is : is_behind table after (entry_in table r) ≡ true = behind_row table after r ∙ ap is_lt (sym (in_table table after r.key) ∙ low) in
    ap (λ b. taken b (entry_in table r) (filter (is_behind table after) (entries_in table rows))) is
    ∙ ap (λ rest. entry_in table r ∷ rest) (all_behind table after x rows (second_true _ _ h) at_most)

pub behind_is : (table : ℕ) (after : List ℕ) (rows : List Row) → AreSorted (entries_in table rows)
    → filter (is_behind table after) (entries_in table rows) ≡ drop (end_of (place_in (table, after) (entries_in table rows))) (entries_in table rows)
behind_is table after [] h = refl
behind_is table after (r ∷ rows) h =
    let es = entries_in table rows in
    let place = place_in (table, after) es in
    let rest = filter (is_behind table after) es in
    elim (spot_cmp (table, r.key) (table, after))
    as (λ o. spot_cmp (table, r.key) (table, after) ≡ o → taken (is_behind table after (entry_in table r)) (entry_in table r) rest ≡ drop
    (end_of (by_order o (next place) (At 0) (Before 0))) (entry_in table r ∷ es)) [
      | Less ↦ λ o.
          let is : is_behind table after (entry_in table r) ≡ false = behind_row table after r
          ∙ ap is_lt (sym (in_table table after r.key) ∙ spots_total.antisymm (table, after) (table, r.key) ∙ ap ordering_reverse o) in
          ap (λ b. taken b (entry_in table r) rest) is ∙ behind_is table after rows (second_true _ _ h)
          ∙ sym (ap (λ k. drop k (entry_in table r ∷ es)) (end_next place))
      | Equal ↦ λ o.
          let tied : spot_cmp (table, after) (table, r.key) ≡ Equal = spots_total.antisymm (table, after) (table, r.key) ∙ ap ordering_reverse o in
          let is : is_behind table after (entry_in table r) ≡ false = behind_row table after r ∙ ap is_lt (sym (in_table table after r.key) ∙ tied) in
          ap (λ b. taken b (entry_in table r) rest) is ∙ all_behind table after (table, r.key) rows (first_true _ _ h) (inr tied)
      | Greater ↦ λ o.
          let under : spot_cmp (table, after) (table, r.key) ≡ Less = spots_total.antisymm (table, after) (table, r.key) ∙ ap ordering_reverse o in
          let is : is_behind table after (entry_in table r) ≡ true = behind_row table after r ∙ ap is_lt (sym (in_table table after r.key) ∙ under) in
          ap (λ b. taken b (entry_in table r) rest) is ∙ ap (λ es. entry_in table r ∷ es)
          (all_behind table after (table, r.key) rows (first_true _ _ h) (inl under))
    ] refl

-- the rows from the place of a key on
pub rows_behind : (table : ℕ) (after : List ℕ) (rows : List Row) (p : Place) → AreSorted (entries_in table rows)
    → p ≡ place_in (table, after) (entries_in table rows) → map row_of (filter (is_behind table after) (entries_in table rows)) ≡ drop (end_of p) rows
rows_behind table after rows p sorted is =
    ap (map row_of) (behind_is table after rows sorted ∙ ap (λ q. drop (end_of q) (entries_in table rows)) (sym is) ∙ sym (entries-drop table rows (end_of p)))
    ∙ rows_again table (drop (end_of p) rows)

-- what was found in a slice holds of the list that it shows
pub placed : (p : Place) (key : List ℕ) (slice items : List Row) → slice ≡ items
    → ((table : ℕ) → AreSorted (entries_in table slice) → p ≡ place_in (table, key) (entries_in table slice))
    → (table : ℕ) → AreSorted (entries_in table items) → p ≡ place_in (table, key) (entries_in table items)
placed p key slice items same found table sorted =
    subst (λ rows. p ≡ place_in (table, key) (entries_in table rows)) same (found table (subst (λ rows. AreSorted (entries_in table rows)) (sym same) sorted))
