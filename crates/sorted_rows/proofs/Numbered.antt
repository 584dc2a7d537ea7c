-- One table's entries among those of all.
use Rattle.std.proofs.Common.{Vec, Global, ◌≡◌, ◌&&◌, IsTrue, ℕ, suc, zero, ◌+◌, ◌<◌, ◌≤◌, Bool, true, false, cond, not, List, [], ◌∷◌, ◌++◌, length, get_or}
use Rattle.std.proofs.Common.{set, nat_eq, Some, None, refl, sym, ap, ◌∙◌, subst, arith}
use Rattle.std.proofs.lemmas.Bool.Decides.{nat_tests}
use Rattle.std.specs.List.{filter}
use Rattle.std.specs.Ordering.{eq_by_cmp, nat_cmp, ordering_then, ordering_reverse, is_eq}
use Rattle.std.specs.Cmp.Lexicographic.{slice_cmp}
use Rattle.std.specs.declared.cmp.Ordering.TheVariants.{Less, Equal, Greater}
use Rattle.std.specs.FinMap.Entries.{by_order, put, find, where_key, below_all}
use Rattle.keeper_api.specs.Rows.{Spot, spot_cmp, is_behind, is_below}
use Rattle.keeper_api.specs.RowLaws.{spots_total}
use Rattle.keeper_api.specs.declared.rows.Row.{Row}
use Rattle.sorted_rows.specs.Places.{Entry, entry_in, entries_in, AreSorted}
use Rattle.sorted_rows.specs.Tables.{entries_from}
use Rattle.sorted_rows.proofs.lemmas.Places.{first_true, second_true}

-- ---- spots of two tables

number_less : (a b : ℕ) → a < b → nat_cmp a b ≡ Less
number_less a b h = grind (arith, nat_tests)

number_off : (a b : ℕ) → a < b → nat_eq b a ≡ false
number_off a b h = grind (arith, nat_tests)

number_other : (a b : ℕ) → a < b → nat_eq a b ≡ false
number_other a b h = grind (arith, nat_tests)

spot_less : (a b : ℕ) (k l : List ℕ) → a < b → spot_cmp (a, k) (b, l) ≡ Less
spot_less a b k l h = ap (λ r. ordering_then r (slice_cmp nat_cmp k l)) (number_less a b h)

spot_more : (a b : ℕ) (k l : List ℕ) → a < b → spot_cmp (b, l) (a, k) ≡ Greater
spot_more a b k l h = spots_total.antisymm (b, l) (a, k) ∙ ap ordering_reverse (spot_less a b k l h)

-- each entry is in a table from the first on
abbrev pub AreFrom : ℕ → List Entry → Type 0
AreFrom first [] = Unit {0}
AreFrom first (e ∷ es) = (first ≤ e.0.0) × AreFrom first es

from_in : (first table : ℕ) (rows : List Row) → first ≤ table → AreFrom first (entries_in table rows)
from_in first table [] h = tt
from_in first table (r ∷ rows) h = (h, from_in first table rows h)

from_both : (first : ℕ) (a b : List Entry) → AreFrom first a → AreFrom first b → AreFrom first (a ++ b)
from_both first [] b in_a in_b = in_b
from_both first (e ∷ a) b in_a in_b = (in_a.0, from_both first a b in_a.1 in_b)

from_tables : (first table : ℕ) (tables : List (Vec Row Global)) → first ≤ table → AreFrom first (entries_from table tables)
from_tables first table [] h = tt
from_tables first table (rows ∷ more) h = from_both first (entries_in table rows.items) (entries_from (suc table) more) (from_in first table rows.items h)
    (from_tables first (suc table) more (omega arith))

-- no entry has this spot
abbrev pub AreApart : Spot → List Entry → Type 0
AreApart spot [] = Unit {0}
AreApart spot (e ∷ es) = (eq_by_cmp spot_cmp spot e.0 ≡ false) × AreApart spot es

apart_above : (n : ℕ) (k : List ℕ) (es : List Entry) → AreFrom (suc n) es → AreApart (n, k) es
apart_above n k [] h = tt
apart_above n k (e ∷ es) h = (ap is_eq (spot_less n e.0.0 k e.0.1 (omega (arith, h.0))), apart_above n k es h.1)

apart_below : (n table : ℕ) (k : List ℕ) (rows : List Row) → table < n → AreApart (n, k) (entries_in table rows)
apart_below n table k [] h = tt
apart_below n table k (r ∷ rows) h = (ap is_eq (spot_more table n r.key k h), apart_below n table k rows h)

-- ---- a put

put_below : (n table : ℕ) (k v : List ℕ) (rows : List Row) (rest : List Entry) → table < n
    → put spot_cmp (n, k) v (entries_in table rows ++ rest) ≡ entries_in table rows ++ put spot_cmp (n, k) v rest
put_below n table k v [] rest h = refl
put_below n table k v (r ∷ rows) rest h =
    let e = entry_in table r in
    let es = entries_in table rows ++ rest in
    ap (λ o. by_order o (((n, k), v) ∷ e ∷ es) ((e.0, v) ∷ es) (e ∷ put spot_cmp (n, k) v es)) (spot_more table n r.key k h)
    ∙ ap (λ new. e ∷ new) (put_below n table k v rows rest h)

put_first : (n : ℕ) (k v : List ℕ) (rest : List Entry) → AreFrom (suc n) rest → put spot_cmp (n, k) v rest ≡ ((n, k), v) ∷ rest
put_first n k v [] h = refl
put_first n k v (e ∷ rest) h = ap (λ o. by_order o (((n, k), v) ∷ e ∷ rest) ((e.0, v) ∷ rest) (e ∷ put spot_cmp (n, k) v rest))
    (spot_less n e.0.0 k e.0.1 (omega (arith, h.0)))

put_above : (n : ℕ) (k v : List ℕ) (es rest : List Entry) → AreFrom (suc n) rest → put spot_cmp (n, k) v (es ++ rest) ≡ put spot_cmp (n, k) v es ++ rest
put_above n k v [] rest h = put_first n k v rest h
put_above n k v (e ∷ es) rest h =
    elim (spot_cmp (n, k) e.0)
    as (λ o. by_order o (((n, k), v) ∷ e ∷ (es ++ rest)) ((e.0, v) ∷ (es ++ rest)) (e ∷ put spot_cmp (n, k) v (es ++ rest)) ≡ by_order o
    (((n, k), v) ∷ e ∷ es) ((e.0, v) ∷ es) (e ∷ put spot_cmp (n, k) v es) ++ rest) [
      | Less ↦ refl
      | Equal ↦ refl
      | Greater ↦ ap (λ new. e ∷ new) (put_above n k v es rest h)
    ]

pub put_table : (n first table : ℕ) (k v : List ℕ) (tables : List (Vec Row Global)) (old new : Vec Row Global) → n ≡ first + table → table < length tables
    → old ≡ get_or tables table old
    → entries_in n new.items ≡ put spot_cmp (n, k) v (entries_in n old.items)
    → entries_from first (set tables table new) ≡ put spot_cmp (n, k) v (entries_from first tables)
put_table n first table k v [] old new at h was is = absurd (omega arith)
put_table n first zero k v (rows ∷ more) old new at h was is =
    let same : first ≡ n = omega arith in
    let rest = entries_from (suc first) more in
    ap (λ m. entries_in m new.items ++ rest) same
    ∙ ap (λ es. es ++ rest) is
    ∙ sym (put_above n k v (entries_in n old.items) rest (from_tables (suc n) (suc first) more (omega arith)))
    ∙ ap (λ (w : Vec Row Global). put spot_cmp (n, k) v (entries_in n w.items ++ rest)) was
    ∙ ap (λ m. put spot_cmp (n, k) v (entries_in m rows.items ++ rest)) (sym same)
put_table n first (suc table) k v (rows ∷ more) old new at h was is =
    ap (λ es. entries_in first rows.items ++ es) (put_table n (suc first) table k v more old new (omega arith) (omega arith) was is)
    ∙ sym (put_below n first k v rows.items (entries_from (suc first) more) (omega arith))

-- ---- a removal

filter_both : (p : Entry → Bool) (a b : List Entry) → filter p (a ++ b) ≡ filter p a ++ filter p b
filter_both p [] b = refl
filter_both p (e ∷ a) b = elim (p e) as (λ t. cond t (e ∷ filter p (a ++ b)) (filter p (a ++ b)) ≡ cond t (e ∷ filter p a) (filter p a) ++ filter p b)
    [ true ↦ ap (λ es. e ∷ es) (filter_both p a b) | false ↦ filter_both p a b ]

abbrev pub without : Spot → List Entry → List Entry
without spot es = where_key spot_cmp (λ k. not (eq_by_cmp spot_cmp spot k)) es

without_both : (spot : Spot) (a b : List Entry) → without spot (a ++ b) ≡ without spot a ++ without spot b
without_both spot a b = filter_both (λ e. not (eq_by_cmp spot_cmp spot e.0)) a b

without_apart : (spot : Spot) (es : List Entry) → AreApart spot es → without spot es ≡ es
without_apart spot [] h = refl
without_apart spot (e ∷ es) h = ap (λ t. cond (not t) (e ∷ without spot es) (without spot es)) h.0 ∙ ap (λ rest. e ∷ rest) (without_apart spot es h.1)

pub remove_table : (n first table : ℕ) (k : List ℕ) (tables : List (Vec Row Global)) (old new : Vec Row Global) → n ≡ first + table → table < length tables
    → old ≡ get_or tables table old
    → entries_in n new.items ≡ without (n, k) (entries_in n old.items) → entries_from first (set tables table new) ≡ without (n, k) (entries_from first tables)
remove_table n first table k [] old new at h was is = absurd (omega arith)
remove_table n first zero k (rows ∷ more) old new at h was is =
    let same : first ≡ n = omega arith in
    let rest = entries_from (suc first) more in
    ap (λ m. entries_in m new.items ++ rest) same
    ∙ ap (λ es. es ++ rest) is
    ∙ ap (λ es. without (n, k) (entries_in n old.items) ++ es)
    (sym (without_apart (n, k) rest (apart_above n k rest (from_tables (suc n) (suc first) more (omega arith)))))
    ∙ sym (without_both (n, k) (entries_in n old.items) rest)
    ∙ ap (λ (w : Vec Row Global). without (n, k) (entries_in n w.items ++ rest)) was
    ∙ ap (λ m. without (n, k) (entries_in m rows.items ++ rest)) (sym same)
remove_table n first (suc table) k (rows ∷ more) old new at h was is =
    ap (λ es. entries_in first rows.items ++ es) (remove_table n (suc first) table k more old new (omega arith) (omega arith) was is)
    ∙ ap (λ es. es ++ without (n, k) (entries_from (suc first) more))
    (sym (without_apart (n, k) (entries_in first rows.items) (apart_below n first k rows.items (omega arith))))
    ∙ sym (without_both (n, k) (entries_in first rows.items) (entries_from (suc first) more))

-- ---- a value

find_behind : (spot : Spot) (a b : List Entry) → AreApart spot a → find spot_cmp spot (a ++ b) ≡ find spot_cmp spot b
find_behind spot [] b h = refl
find_behind spot (e ∷ a) b h = ap (λ t. cond t (Some e.1) (find spot_cmp spot (a ++ b))) h.0 ∙ find_behind spot a b h.1

find_nowhere : (spot : Spot) (es : List Entry) → AreApart spot es → find spot_cmp spot es ≡ None
find_nowhere spot [] h = refl
find_nowhere spot (e ∷ es) h = ap (λ t. cond t (Some e.1) (find spot_cmp spot es)) h.0 ∙ find_nowhere spot es h.1

find_before : (spot : Spot) (a b : List Entry) → AreApart spot b → find spot_cmp spot (a ++ b) ≡ find spot_cmp spot a
find_before spot [] b h = find_nowhere spot b h
find_before spot (e ∷ a) b h = ap (cond (eq_by_cmp spot_cmp spot e.0) (Some e.1)) (find_before spot a b h)

pub find_table : (n first table : ℕ) (k : List ℕ) (tables : List (Vec Row Global)) (old : Vec Row Global) → n ≡ first + table → table < length tables
    → old ≡ get_or tables table old
    → find spot_cmp (n, k) (entries_from first tables) ≡ find spot_cmp (n, k) (entries_in n old.items)
find_table n first table k [] old at h was = absurd (omega arith)
find_table n first zero k (rows ∷ more) old at h was =
    let same : first ≡ n = omega arith in
    let rest = entries_from (suc first) more in
    find_before (n, k) (entries_in first rows.items) rest (apart_above n k rest (from_tables (suc n) (suc first) more (omega arith)))
    ∙ ap (λ m. find spot_cmp (n, k) (entries_in m rows.items)) same
    ∙ ap (λ (w : Vec Row Global). find spot_cmp (n, k) (entries_in n w.items)) (sym was)
find_table n first (suc table) k (rows ∷ more) old at h was =
    find_behind (n, k) (entries_in first rows.items) (entries_from (suc first) more) (apart_below n first k rows.items (omega arith))
    ∙ find_table n (suc first) table k more old (omega arith) (omega arith) was

pub find_no_table : (n first table : ℕ) (k : List ℕ) (tables : List (Vec Row Global)) → n ≡ first + table → length tables ≤ table
    → find spot_cmp (n, k) (entries_from first tables) ≡ None
find_no_table n first table k [] at h = refl
find_no_table n first zero k (rows ∷ more) at h = absurd (omega arith)
find_no_table n first (suc table) k (rows ∷ more) at h =
    find_behind (n, k) (entries_in first rows.items) (entries_from (suc first) more) (apart_below n first k rows.items (omega arith))
    ∙ find_no_table n (suc first) table k more (omega arith) (omega arith)

-- ---- a page

abbrev pub behind : ℕ → List ℕ → List Entry → List Entry
behind n after es = filter (is_behind n after) es

behind_above : (n : ℕ) (after : List ℕ) (es : List Entry) → AreFrom (suc n) es → behind n after es ≡ []
behind_above n after [] h = refl
behind_above n after (e ∷ es) h = ap (λ t. cond (t && is_below after e.0.1) (e ∷ behind n after es) (behind n after es))
    (number_off n e.0.0 (omega (arith, h.0))) ∙ behind_above n after es h.1

behind_below : (n table : ℕ) (after : List ℕ) (rows : List Row) → table < n → behind n after (entries_in table rows) ≡ []
behind_below n table after [] h = refl
behind_below n table after (r ∷ rows) h =
    ap (λ t. cond (t && is_below after r.key) (entry_in table r ∷ behind n after (entries_in table rows)) (behind n after (entries_in table rows)))
    (number_other table n h) ∙ behind_below n table after rows h

nothing_behind : (es : List Entry) → es ++ [] ≡ es
nothing_behind [] = refl
nothing_behind (e ∷ es) = ap (λ rest. e ∷ rest) (nothing_behind es)

pub page_table : (n first table : ℕ) (after : List ℕ) (tables : List (Vec Row Global)) (old : Vec Row Global) → n ≡ first + table → table < length tables
    → old ≡ get_or tables table old
    → behind n after (entries_from first tables) ≡ behind n after (entries_in n old.items)
page_table n first table after [] old at h was = absurd (omega arith)
page_table n first zero after (rows ∷ more) old at h was =
    let same : first ≡ n = omega arith in
    let rest = entries_from (suc first) more in
    filter_both (is_behind n after) (entries_in first rows.items) rest
    ∙ ap (λ es. behind n after (entries_in first rows.items) ++ es) (behind_above n after rest (from_tables (suc n) (suc first) more (omega arith)))
    ∙ nothing_behind (behind n after (entries_in first rows.items))
    ∙ ap (λ m. behind n after (entries_in m rows.items)) same
    ∙ ap (λ (w : Vec Row Global). behind n after (entries_in n w.items)) (sym was)
page_table n first (suc table) after (rows ∷ more) old at h was =
    filter_both (is_behind n after) (entries_in first rows.items) (entries_from (suc first) more)
    ∙ ap (λ es. es ++ behind n after (entries_from (suc first) more)) (behind_below n first after rows.items (omega arith))
    ∙ page_table n (suc first) table after more old (omega arith) (omega arith) was

pub page_no_table : (n first table : ℕ) (after : List ℕ) (tables : List (Vec Row Global)) → n ≡ first + table → length tables ≤ table
    → behind n after (entries_from first tables) ≡ []
page_no_table n first table after [] at h = refl
page_no_table n first zero after (rows ∷ more) at h = absurd (omega arith)
page_no_table n first (suc table) after (rows ∷ more) at h =
    filter_both (is_behind n after) (entries_in first rows.items) (entries_from (suc first) more)
    ∙ ap (λ es. es ++ behind n after (entries_from (suc first) more)) (behind_below n first after rows.items (omega arith))
    ∙ page_no_table n (suc first) table after more (omega arith) (omega arith)

-- ---- the order of one table

both_true : (a b : Bool) → IsTrue a → IsTrue b → IsTrue (a && b)
both_true true b h k = k
both_true false b h k = cc

below_front : (x : Spot) (a b : List Entry) → IsTrue (below_all spot_cmp x (a ++ b)) → IsTrue (below_all spot_cmp x a)
below_front x [] b h = refl
below_front x (e ∷ a) b h = both_true _ _ (first_true _ _ h) (below_front x a b (second_true _ _ h))

sorted_front : (a b : List Entry) → AreSorted (a ++ b) → AreSorted a
sorted_front [] b h = refl
sorted_front (e ∷ a) b h = both_true _ _ (below_front e.0 a b (first_true _ _ h)) (sorted_front a b (second_true _ _ h))

sorted_back : (a b : List Entry) → AreSorted (a ++ b) → AreSorted b
sorted_back [] b h = h
sorted_back (e ∷ a) b h = sorted_back a b (second_true _ _ h)

pub sorted_table : (n first table : ℕ) (tables : List (Vec Row Global)) (old : Vec Row Global) → n ≡ first + table → table < length tables
    → old ≡ get_or tables table old → AreSorted (entries_from first tables) → AreSorted (entries_in n old.items)
sorted_table n first table [] old at h was sorted = absurd (omega arith)
sorted_table n first zero (rows ∷ more) old at h was sorted =
    let same : first ≡ n = omega arith in
    subst (λ (w : Vec Row Global). AreSorted (entries_in n w.items)) (sym was)
    (subst (λ m. AreSorted (entries_in m rows.items)) same (sorted_front (entries_in first rows.items) (entries_from (suc first) more) sorted))
sorted_table n first (suc table) (rows ∷ more) old at h was sorted = sorted_table n (suc first) table more old (omega arith) (omega arith) was
    (sorted_back (entries_in first rows.items) (entries_from (suc first) more) sorted)
