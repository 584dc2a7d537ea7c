-- Pages of rows, one behind another, make all rows of a table.
use Rattle.std.proofs.Common.{◌≡◌, ℕ, zero, suc, ◌<◌, Bool, true, false, cond, ◌&&◌, nat_eq, T, ◌-◌, slice_get, List, [], ◌∷◌, ◌++◌, map, length, take, drop}
use Rattle.std.proofs.Common.{Option, Some, None, IfSome, refl, sym, ap, subst, ◌∙◌, arith, append_assoc}
use Rattle.std.proofs.lemmas.Bool.{eqb-true}
use Rattle.std.proofs.lemmas.List.{take-append-drop}
use Rattle.std.specs.List.{filter}
use Rattle.std.specs.Ordering.{nat_cmp, is_lt, ordering_then}
use Rattle.std.specs.declared.cmp.Ordering.{Ordering}
use Rattle.std.specs.declared.cmp.Ordering.TheVariants.{Less, Equal, Greater}
use Rattle.std.specs.Cmp.{nat_cmp_total, tied_itself}
use Rattle.std.specs.Cmp.Lexicographic.{slice_cmp, nat_list_cmp_total}
use Rattle.std.specs.FinMap.{entries, entries_sorted, is_sorted}
use Rattle.std.specs.FinMap.Entries.{below_all}
use Rattle.keeper_api.specs.declared.rows.Row.{Row}
use Rattle.keeper_api.specs.Rows.{Spot, spot_cmp, Rows, page_of, is_below, is_behind, row_of, RiseFrom}
use Rattle.table_reading.specs.Tables.{rows_in, last_key}

abbrev Entries : Type 0
Entries = List (Spot × List ℕ)

-- ---- the order of keys

less_of : (r : Ordering) → is_lt r ≡ true → r ≡ Less
less_of Less h = refl
less_of Equal h = cc
less_of Greater h = cc

pub below_trans : (a b c : List ℕ) → is_below a b ≡ true → is_below b c ≡ true → is_below a c ≡ true
below_trans a b c ab bc = ap is_lt (nat_list_cmp_total.trans a b c (less_of _ ab) (less_of _ bc))

pub not_below_itself : (a : List ℕ) → is_below a a ≡ false
not_below_itself a = ap is_lt (tied_itself nat_list_cmp_total a)

pub not_both : (b : Bool) → b ≡ true → b ≡ false → ⊥
not_both true h k = cc
not_both false h k = cc

pub off : (b : Bool) → (b ≡ true → ⊥) → b ≡ false
off true h = absurd (h refl)
off false h = refl

-- no key is below one that it is above
not_below_back : (a b : List ℕ) → is_below a b ≡ true → is_below b a ≡ false
not_below_back a b ab = off (is_below b a) (λ ba. not_both (is_below a a) (below_trans a b a ab ba) (not_below_itself a))

has_bytes_above : (k key : List ℕ) → is_below k key ≡ true → is_below [] key ≡ true
has_bytes_above [] key h = h
has_bytes_above (b ∷ bs) [] h = cc
has_bytes_above (b ∷ bs) (c ∷ cs) h = refl

-- ---- the rows behind a key, of all rows of the table

abbrev above : List ℕ → Row → Bool
above k row = is_below k row.key

one_behind : (t n b : Bool) (k : List ℕ) (e : Spot × List ℕ) (xs ys : Entries) → above k (row_of e) ≡ b → (b ≡ true → n ≡ true)
    → map row_of xs ≡ filter (above k) (map row_of ys) → map row_of (cond (t && b) (e ∷ xs) xs) ≡ filter (above k) (map row_of (cond (t && n) (e ∷ ys) ys))
one_behind false n b k e xs ys test has same = same
one_behind true true true k e xs ys test has same =
    ap (row_of e ∷◌) same ∙ sym (ap (λ b. cond b (row_of e ∷ filter (above k) (map row_of ys)) (filter (above k) (map row_of ys))) test)
one_behind true true false k e xs ys test has same =
    same ∙ sym (ap (λ b. cond b (row_of e ∷ filter (above k) (map row_of ys)) (filter (above k) (map row_of ys))) test)
one_behind true false true k e xs ys test has same = let odd : false ≡ true = has refl in cc
one_behind true false false k e xs ys test has same = same

behind_is_above : (table : ℕ) (k : List ℕ) (es : Entries) → map row_of (filter (is_behind table k) es) ≡ filter (above k)
    (map row_of (filter (is_behind table []) es))
behind_is_above table k [] = refl
behind_is_above table k (e ∷ es) =
    one_behind (nat_eq e.0.0 table) (is_below [] e.0.1) (is_below k e.0.1) k e (filter (is_behind table k) es) (filter (is_behind table []) es) refl
    (has_bytes_above k e.0.1) (behind_is_above table k es)

-- ---- keys that rise

pub lower : (low after : List ℕ) (rows : List Row) → is_below low after ≡ true → RiseFrom after rows → RiseFrom low rows
lower low after [] h rise = tt
lower low after (row ∷ rows) h rise = (below_trans low after row.key h rise.0, rise.1)

pub rise_append : (low : List ℕ) (xs ys : List Row) → RiseFrom low xs → RiseFrom (last_key low xs) ys → RiseFrom low (xs ++ ys)
rise_append low [] ys first second = second
rise_append low (x ∷ xs) ys first second = (first.0, rise_append x.key xs ys first.1 second)

all_above : (low : List ℕ) (rows : List Row) → RiseFrom low rows → filter (above low) rows ≡ rows
all_above low [] rise = refl
all_above low (row ∷ rows) rise =
    ap (λ b. cond b (row ∷ filter (above low) rows) (filter (above low) rows)) rise.0
    ∙ ap (row ∷◌) (all_above low rows (lower low row.key rows rise.0 rise.1))

-- the last of rising keys isn't below the key that they rise from
last_not_below : (low : List ℕ) (xs ys : List Row) → RiseFrom low (xs ++ ys) → is_below (last_key low xs) low ≡ false
last_not_below low [] ys rise = not_below_itself low
last_not_below low (x ∷ xs) ys rise =
    off (is_below (last_key x.key xs) low)
    (λ h. not_both (is_below (last_key x.key xs) x.key) (below_trans (last_key x.key xs) low x.key h rise.0) (last_not_below x.key xs ys rise.1))

-- of rising keys, those above the last of a front are the rest
rest_above : (low : List ℕ) (xs ys : List Row) → RiseFrom low (xs ++ ys) → filter (above (last_key low xs)) (xs ++ ys) ≡ ys
rest_above low [] ys rise = all_above low ys rise
rest_above low (x ∷ xs) ys rise =
    ap (λ b. cond b (x ∷ filter (above (last_key x.key xs)) (xs ++ ys)) (filter (above (last_key x.key xs)) (xs ++ ys))) (last_not_below x.key xs ys rise.1)
    ∙ rest_above x.key xs ys rise.1

-- ---- the rows of a table rise

true_of : (b : Bool) → T b → b ≡ true
true_of true h = refl
true_of false h = absurd h

pub first_true : (a b : Bool) → (a && b) ≡ true → a ≡ true
first_true true b h = refl
first_true false b h = h

pub second_true : (a b : Bool) → (a && b) ≡ true → b ≡ true
second_true true b h = h
second_true false b h = cc

same_cmp : (n : ℕ) → nat_cmp n n ≡ Equal
same_cmp n = tied_itself nat_cmp_total n

-- in one table the keys alone are compared
key_below : (table : ℕ) (low : List ℕ) (spot : Spot) → spot.0 ≡ table → is_lt (spot_cmp (table, low) spot) ≡ true → is_below low spot.1 ≡ true
key_below table low spot same below =
    sym (ap (λ r. is_lt (ordering_then r (slice_cmp nat_cmp low spot.1))) (ap (nat_cmp table) same ∙ same_cmp table)) ∙ below

abbrev behind : ℕ → List ℕ → Entries → List Row
behind table after es = map row_of (filter (is_behind table after) es)

rises_above : (table : ℕ) (after low : List ℕ) (es : Entries) → below_all spot_cmp (table, low) es ≡ true → is_sorted spot_cmp es ≡ true
    → RiseFrom low (behind table after es)
rises_above table after low [] below sorted = tt
rises_above table after low (e ∷ es) below sorted =
    elim (is_behind table after e)
    as (λ b. is_behind table after e ≡ b → RiseFrom low (map row_of (cond b (e ∷ filter (is_behind table after) es) (filter (is_behind table after) es)))) [
      | true ↦ λ h.
          let same : e.0.0 ≡ table = eqb-true _ _ (first_true _ _ h) in
          let spot : e.0 ≡ (table, e.0.1) = λ i. (same i, e.0.1) in (
            key_below table low e.0 same (first_true _ _ below),
            rises_above table after e.0.1 es
                (subst (λ s. below_all spot_cmp s es ≡ true) spot (first_true _ _ sorted)) (second_true _ _ sorted),
          )
      | false ↦ λ h. rises_above table after low es (second_true _ _ below) (second_true _ _ sorted)
    ] refl

rises : (table : ℕ) (after : List ℕ) (es : Entries) → is_sorted spot_cmp es ≡ true → RiseFrom after (behind table after es)
rises table after [] sorted = tt
rises table after (e ∷ es) sorted =
    elim (is_behind table after e)
    as (λ b. is_behind table after e ≡ b → RiseFrom after (map row_of (cond b (e ∷ filter (is_behind table after) es) (filter (is_behind table after) es)))) [
      | true ↦ λ h.
          let same : e.0.0 ≡ table = eqb-true _ _ (first_true _ _ h) in
          let spot : e.0 ≡ (table, e.0.1) = λ i. (same i, e.0.1) in (
            second_true _ _ h,
            rises_above table after e.0.1 es (subst (λ s. below_all spot_cmp s es ≡ true) spot (first_true _ _ sorted))
                (second_true _ _ sorted),
          )
      | false ↦ λ h. rises table after es (second_true _ _ sorted)
    ] refl

pub rows_rise : (rows : Rows) (table : ℕ) → RiseFrom [] (rows_in rows table)
rows_rise rows table = rises table [] (entries rows) (true_of _ (entries_sorted rows))

-- ---- pages

-- the first rows of all
pub record IsFront (xs all : List Row) : Type 0 where
  pub rest : List Row
  pub whole : all ≡ xs ++ rest

-- a page behind a front has the next rows
page_is_next : (rows : Rows) (table n : ℕ) (xs rest : List Row) → rows_in rows table ≡ xs ++ rest → page_of rows table (last_key [] xs) n ≡ take n rest
page_is_next rows table n xs rest whole =
    ap (take n) (
    behind_is_above table (last_key [] xs) (entries rows)
    ∙ ap (filter (above (last_key [] xs))) whole
    ∙ rest_above [] xs rest (subst (RiseFrom []) whole (rows_rise rows table)))

pub no_front : (held : Option Rows) (table : ℕ) → IfSome held (λ rows. IsFront [] (rows_in rows table))
no_front None table = tt
no_front (Some rows) table = record { rest = rows_in rows table; whole = refl }

longer : (rows : Rows) (table n : ℕ) (xs page new : List Row) → new ≡ xs ++ page → IsFront xs (rows_in rows table)
    → page ≡ page_of rows table (last_key [] xs) n → IsFront new (rows_in rows table)
longer rows table n xs page new grown front paged = record {
  rest = drop n front.rest;
  whole =
      front.whole
      ∙ ap (xs ++◌) (sym (take-append-drop n front.rest))
      ∙ sym (append_assoc xs (take n front.rest) (drop n front.rest))
      ∙ ap (λ p. (xs ++ p) ++ drop n front.rest) (sym (paged ∙ page_is_next rows table n xs front.rest front.whole))
      ∙ ap (λ ys. ys ++ drop n front.rest) (sym grown);
}

short_is_all : (n : ℕ) (rest : List Row) → length (take n rest) < n → take n rest ≡ rest
short_is_all zero rest h = absurd (omega arith)
short_is_all (suc n) [] h = refl
short_is_all (suc n) (row ∷ rest) h = ap (row ∷◌) (short_is_all n rest (omega arith))

ended : (rows : Rows) (table n : ℕ) (xs page new : List Row) → new ≡ xs ++ page → length page < n → IsFront xs (rows_in rows table)
    → page ≡ page_of rows table (last_key [] xs) n → new ≡ rows_in rows table
ended rows table n xs page new grown short front paged =
    let next : page ≡ take n front.rest = paged ∙ page_is_next rows table n xs front.rest front.whole in
    let last : take n front.rest ≡ front.rest = short_is_all n front.rest (subst (λ p. length p < n) next short) in
    grown ∙ ap (xs ++◌) (next ∙ last) ∙ sym front.whole

pub more_rows : (held now : Option Rows) (table n : ℕ) (after : List ℕ) (xs page new : List Row) → now ≡ held → after ≡ last_key [] xs → new ≡ xs ++ page
    → IfSome held (λ rows. IsFront xs (rows_in rows table)) → IfSome now (λ rows. page ≡ page_of rows table after n)
    → IfSome held (λ rows. IsFront new (rows_in rows table))
more_rows None now table n after xs page new same at grown front paged = tt
more_rows (Some rows) now table n after xs page new same at grown front paged =
    longer rows table n xs page new grown front
    (subst (λ k. page ≡ page_of rows table k n) at (subst (λ held. IfSome held (λ rows. page ≡ page_of rows table after n)) same paged))

pub all_rows : (held now : Option Rows) (table n : ℕ) (after : List ℕ) (xs page new : List Row) → now ≡ held → after ≡ last_key [] xs → new ≡ xs ++ page
    → length page < n
    → IfSome held (λ rows. IsFront xs (rows_in rows table)) → IfSome now (λ rows. page ≡ page_of rows table after n)
    → IfSome held (λ rows. new ≡ rows_in rows table)
all_rows None now table n after xs page new same at grown short front paged = tt
all_rows (Some rows) now table n after xs page new same at grown short front paged =
    ended rows table n xs page new grown short front
    (subst (λ k. page ≡ page_of rows table k n) at (subst (λ held. IfSome held (λ rows. page ≡ page_of rows table after n)) same paged))

-- ---- the last key

last_is : (after : List ℕ) (rows : List Row) (row : Row) (n : ℕ) → length rows ≡ suc n → Some row ≡ slice_get rows n → last_key after rows ≡ row.key
last_is after [] row n long h = absurd (omega arith)
last_is after (x ∷ []) row zero long h = let e : x ≡ row = cc in ap (λ (r : Row). r.key) e
last_is after (x ∷ []) row (suc n) long h = absurd (omega arith)
last_is after (x ∷ y ∷ rows) row zero long h = absurd (omega arith)
last_is after (x ∷ y ∷ rows) row (suc n) long h = last_is x.key (y ∷ rows) row n (omega arith) h

pub last_key_is : (after : List ℕ) (rows : List Row) (row : Row) → Some row ≡ slice_get rows (length rows - 1) → last_key after rows ≡ row.key
last_key_is after [] row h = cc
last_key_is after (x ∷ rows) row h = last_is after (x ∷ rows) row (length (x ∷ rows) - 1) (omega arith) h
