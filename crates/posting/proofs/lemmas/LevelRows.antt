-- The rows of intervals, laid over the rows of a ledger.
use Rattle.std.proofs.Common.{zero, suc, ◌+◌, ◌<◌, arith, length, take, get_or, append_assoc, ◌≡◌, ℕ, Bool, true, false, nat_eq, List, [], ◌∷◌, ◌++◌, map, refl, sym, ap, subst, ◌∙◌}
use Rattle.std.specs.FinMap.{insert}
use Rattle.std.specs.List.{AllByRecursion, IsDistinct}
use Rattle.std.proofs.lemmas.List.{append-nil}
use Rattle.std.proofs.lemmas.List.Elements.{All-nil}
use Rattle.enq_base.specs.declared.unit.Num.{Num as Number}
use Rattle.std.proofs.lemmas.Bool.{false≢true}
use Rattle.std.proofs.lemmas.Map.Keys.{IsDistinct-cons, IsDistinct-head, IsDistinct-tail}
use Rattle.keeper_api.specs.declared.rows.Change.{Change}
use Rattle.keeper_api.specs.Rows.{Spot as Place}
use Rattle.keeper_api.specs.Batch.{changed, spot_of, is_same_spot, IsBatch}
use Rattle.keeper_api.specs.RowLaws.{AreApart, InTables, changed_swapped}
use Rattle.module_effects.specs.Rows.{Tables}
use Rattle.module_effects.proofs.lemmas.Tables.{same_row, same_row-Decides}
use Rattle.update_records.specs.Business.{numbers_of, tables_of}
use Rattle.update_records.specs.Ledger.{Ledger, Levels, LevelsAgree, book_rows, map_rows, rows_of}
use Rattle.record_laws.proofs.Apart.{AreDistinct, IsApart, at_number, distinct_append, none_distinct, not_same, own_append, own_keys, spots, tables_apart}
use Rattle.record_laws.proofs.Books.{books_in, is_book_table}
use Rattle.record_laws.proofs.Keyed.{level_left, unname, unname_name}
use Rattle.record_laws.proofs.Own.{AreOwn}
use Rattle.ledger_steps.specs.Intervals.{HasDistinctIntervals, HasNr, MayStore, interval_row, interval_rows, with_intervals, with_levels}
use Rattle.update_records.specs.Intervals.{level_of, named}
use Rattle.update_records.specs.declared.stored.StoredInterval.{StoredInterval}

abbrev pub is_level_table : ℕ → Bool
is_level_table n = nat_eq n 5

pub books_and_levels : AreApart is_book_table is_level_table
books_and_levels n a b = let h : is_book_table 5 ≡ true = at_number is_book_table 5 n b a in cc

levels_are : (intervals : List StoredInterval) (levels : Levels) (tables : Tables)
    → changed (interval_rows intervals) (map_rows levels tables) ≡ map_rows (with_levels intervals levels) tables
levels_are [] levels tables = refl
levels_are (i ∷ intervals) levels tables = ap (changed (interval_rows intervals)) (sym (level_left levels tables (named i) (level_of i)))
    ∙ levels_are intervals (insert levels (named i) (level_of i)) tables

pub levels_in : (intervals : List StoredInterval) → InTables is_level_table (interval_rows intervals)
levels_in [] = tt
levels_in (i ∷ intervals) = (refl, levels_in intervals)

pub levels_own : (intervals : List StoredInterval) → AreOwn (interval_rows intervals)
levels_own [] = tt
levels_own (i ∷ intervals) = (refl, levels_own intervals)

-- intervals that are written make the rows of the ledger that has them
pub levels_written : (intervals : List StoredInterval) (ledger : Ledger)
    → changed (interval_rows intervals) (rows_of ledger) ≡ rows_of (with_intervals intervals ledger)
levels_written intervals ledger =
    let tables = tables_of ledger.units ledger.marks in
    changed_swapped is_book_table is_level_table books_and_levels (book_rows ledger) (interval_rows intervals)
    (books_in is_book_table refl refl refl refl refl refl ledger) (levels_in intervals) (map_rows ledger.levels tables)
    ∙ ap (changed (book_rows ledger)) (levels_are intervals ledger.levels tables)

one_name : (a b : StoredInterval) → spot_of (interval_row a) ≡ spot_of (interval_row b) → named a ≡ named b
one_name a b e = sym (unname_name (named a)) ∙ ap (λ (p : Place). unname p.1) e ∙ unname_name (named b)

others_apart : (i : StoredInterval) (is : List StoredInterval) → AllByRecursion (λ name. same_row (named i) name ≡ false) (map named is)
    → IsApart (spot_of (interval_row i)) (interval_rows is)
others_apart i [] h = tt
others_apart i (j ∷ is) h = (
  not_same (spot_of (interval_row i)) (spot_of (interval_row j)) (λ e. false≢true (sym h.0 ∙ (same_row-Decides (named i) (named j)).1 (one_name i j e))),
  others_apart i is h.1,
)

pub levels_distinct : (is : List StoredInterval) → HasDistinctIntervals is → AreDistinct (interval_rows is)
levels_distinct [] h = none_distinct
levels_distinct (i ∷ is) h =
    IsDistinct-cons is_same_spot (spot_of (interval_row i)) (spots (interval_rows is)) (others_apart i is (IsDistinct-head same_row (named i) (map named is) h))
    (levels_distinct is (IsDistinct-tail same_row (named i) (map named is) h))

-- rows of intervals behind a batch of the books
pub levels_behind : (batch : List Change) (intervals : List StoredInterval) → AreOwn batch → AreDistinct batch → InTables is_book_table batch
    → HasDistinctIntervals intervals → IsBatch (batch ++ interval_rows intervals)
levels_behind batch intervals own distinct books h = record {
  keys = own_keys (batch ++ interval_rows intervals) (own_append batch (interval_rows intervals) own (levels_own intervals));
  distinct = distinct_append batch (interval_rows intervals) distinct (levels_distinct intervals h)
      (tables_apart is_book_table is_level_table books_and_levels batch (interval_rows intervals) books (levels_in intervals));
}

-- ---- one row more

rows_next : (is : List StoredInterval) (i : ℕ) (x : StoredInterval) → i < length is → x ≡ get_or is i x
    → interval_rows (take (suc i) is) ≡ interval_rows (take i is) ++ interval_row x ∷ []
rows_next [] i x h at = absurd (omega arith)
rows_next (j ∷ is) zero x h at = ap (λ (k : StoredInterval). interval_row k ∷ []) (sym at)
rows_next (j ∷ is) (suc i) x h at = ap (λ r. interval_row j ∷ r) (rows_next is i x (omega arith) at)

next : (i : ℕ) → suc i ≡ i + 1
next i = omega arith

pub rows_more : (is : List StoredInterval) (i : ℕ) (x : StoredInterval) (change : Change) (old batch now : List Change) → i < length is → x ≡ get_or is i x
    → change ≡ interval_row x → batch ≡ old ++ interval_rows (take i is) → now ≡ batch ++ change ∷ []
    → now ≡ old ++ interval_rows (take (i + 1) is)
rows_more is i x change old batch now h at row so_far pushed =
    pushed ∙ ap (λ c. batch ++ c ∷ []) row ∙ ap (λ b. b ++ interval_row x ∷ []) so_far ∙ append_assoc old (interval_rows (take i is)) (interval_row x ∷ [])
    ∙ ap (λ r. old ++ r) (sym (rows_next is i x h at)) ∙ ap (λ n. old ++ interval_rows (take n is)) (next i)

-- a unit without numbers leaves the intervals as they agree
pub nothing_stored : (ledger : Ledger) (numbers : List Number) → numbers ≡ [] → MayStore ledger [] numbers
unfolding IsDistinct
nothing_stored ledger numbers none = record {
  digits = All-nil HasNr;
  distinct = tt;
  agree = λ h. subst (LevelsAgree ledger.levels)
      (sym (ap (λ ns. numbers_of ledger.units ledger.marks ++ ns) none ∙ append-nil (numbers_of ledger.units ledger.marks))) h;
}
