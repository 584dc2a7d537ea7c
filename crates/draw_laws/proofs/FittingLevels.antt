-- Levels whose rows are all rows of some intervals.
use Rattle.std.proofs.Common.{◌≡◌, inl, inr, ℕ, ◌+◌, ◌≤◌, Bool, true, false, cond, not, nat_eq, nat_le, ◌&&◌, List, [], ◌∷◌, map, Option, Some, None, IfSome, refl, sym, ap, subst, ◌∙◌}
use Rattle.std.specs.Prelude.{Contains}
use Rattle.std.specs.Bool.{beq}
use Rattle.std.specs.Cmp.Lexicographic.{slice_cmp, nat_list_cmp_total}
use Rattle.std.specs.FinMap.{entries, find, from_entries, get, get-entries, get-from_entries}
use Rattle.std.specs.List.{find as first, list_all, list_any, position, position_from}
use Rattle.std.specs.Option.{option_map, option_map_or}
use Rattle.std.specs.Ordering.{eq_by_cmp, nat_cmp}
use Rattle.std.proofs.lemmas.Bool.{and_parts, eqb-true, leb-true, or_cases}
use Rattle.std.proofs.lemmas.List.Elements.{All-contains, All-from_recursion}
use Rattle.std.proofs.lemmas.Iterator.Adapters.{position_from-zero}
use Rattle.module_effects.proofs.lemmas.Tables.{same_row-Decides}
use Rattle.module_effects.specs.Rows.{RowName, row_cmp}
use Rattle.number_ranges.specs.Intervals.{IsInterval, is_buffered, is_named}
use Rattle.number_ranges.specs.declared.interval.Interval.{Interval}
use Rattle.draw_laws.proofs.RowNames.{called_row, first_called}
use Rattle.ledger_steps.specs.Intervals.{interval_of_entry, is_called, keyed}
use Rattle.update_records.specs.Intervals.{entry_of, level_of, named}
use Rattle.update_records.specs.Ledger.{Levels}
use Rattle.update_records.specs.RecordRows.{Level, row_name}
use Rattle.update_records.specs.declared.stored.StoredInterval.{StoredInterval}
use Rattle.ledger_steps.specs.Levels.{AreApart, AreIntervals, FitLevels, FitRows, IsRowOf, IsUnused, fits, is_row_of, level_in, name_of, present}
use Rattle.draw_laws.proofs.IntervalNames.{contains_first, contains_more, named_is, one_interval}

-- ---- the row of a name

same_entries : (es : List (RowName × Level)) → map entry_of (map interval_of_entry es) ≡ es
same_entries [] = refl
same_entries (e ∷ es) = ap (λ rest. e ∷ rest) (same_entries es)

-- the stored interval of a name, as it stands in row order
abbrev row_at : Levels → RowName → Option StoredInterval
row_at levels name =
    find (slice_cmp nat_cmp) (row_name name) (entries (from_entries {R = slice_cmp nat_cmp} (map keyed (map interval_of_entry (entries levels)))))

called_first : (name : RowName) (rows : List StoredInterval) → find (slice_cmp nat_cmp) (row_name name) (map keyed rows) ≡ first (is_called name) rows
called_first name [] = refl
called_first name (row ∷ rows) = ap (cond (is_called name row) (Some row)) (called_first name rows)

row_is : (levels : Levels) (name : RowName) → row_at levels name ≡ first (is_called name) (map interval_of_entry (entries levels))
row_is levels name =
    let rows = map interval_of_entry (entries levels) in
    sym (get-entries (from_entries {R = slice_cmp nat_cmp} (map keyed rows)) (row_name name))
    ∙ get-from_entries nat_list_cmp_total (map keyed rows) (row_name name)
    ∙ called_first name rows

level_is : (levels : Levels) (name : RowName) → get levels name ≡ option_map level_of (row_at levels name)
level_is levels name =
    get-entries levels name
    ∙ ap (find row_cmp name) (sym (same_entries (entries levels)))
    ∙ first_called name (map interval_of_entry (entries levels))
    ∙ ap (option_map level_of) (sym (row_is levels name))

first_passes : {X : Type 0} (test : X → Bool) (xs : List X) (x : X) → first test xs ≡ Some x → test x ≡ true
first_passes test [] x h = cc
first_passes test (y ∷ xs) x h =
    elim (test y) as (λ b. test y ≡ b → cond b (Some y) (first test xs) ≡ Some x → test x ≡ true) [
      | true ↦ λ e is. let same : y ≡ x = cc in ap test (sym same) ∙ e
      | false ↦ λ e is. first_passes test xs x is
    ] refl h

row_named : (levels : Levels) (name : RowName) (row : StoredInterval) → row_at levels name ≡ Some row → name ≡ named row
row_named levels name row h =
    let called : is_called name row ≡ true = first_passes (is_called name) (map interval_of_entry (entries levels)) row (sym (row_is levels name) ∙ h) in
    (same_row-Decides name (named row)).0 (sym (called_row name (named row)) ∙ called)

-- a test that all rows pass is passed by each that is found
passes_found : (test : StoredInterval → Bool) (key : List ℕ) (es : List (List ℕ × StoredInterval)) (row : StoredInterval)
    → list_all test (map (λ (e : List ℕ × StoredInterval). e.1) es) ≡ true → find (slice_cmp nat_cmp) key es ≡ Some row → test row ≡ true
passes_found test key [] row all h = cc
passes_found test key (e ∷ es) row all h =
    let both = and_parts (test e.1) (list_all test (map (λ (x : List ℕ × StoredInterval). x.1) es)) all in
    elim (eq_by_cmp (slice_cmp nat_cmp) key e.0) as (λ b. cond b (Some e.1) (find (slice_cmp nat_cmp) key es) ≡ Some row → test row ≡ true) [
      | true ↦ λ is. let same : e.1 ≡ row = cc in ap test (sym same) ∙ both.0
      | false ↦ λ is. passes_found test key es row both.1 is
    ] h

row_fits : (intervals : List Interval) (levels : Levels) (name : RowName) (row : StoredInterval) → FitRows intervals levels → row_at levels name ≡ Some row
    → fits intervals row ≡ true
row_fits intervals levels name row all h =
    passes_found (fits intervals) (row_name name) (entries (from_entries {R = slice_cmp nat_cmp} (map keyed (map interval_of_entry (entries levels))))) row all
    h

-- where no row fails all pass
none_from : {X : Type 0} (test : X → Bool) (n : ℕ) (xs : List X) → position_from (λ x. not (test x)) n xs ≡ None → list_all test xs ≡ true
none_from test n [] none = refl
none_from test n (x ∷ xs) none =
    elim (test x) as (λ b. cond (not b) (Some n) (position_from (λ y. not (test y)) (n + 1) xs) ≡ None → (b && list_all test xs) ≡ true) [
      | true ↦ λ h. none_from test (n + 1) xs h
      | false ↦ λ h. cc
    ] none

pub none_fails : {X : Type 0} (test : X → Bool) (xs : List X) → position (λ x. not (test x)) xs ≡ None → list_all test xs ≡ true
none_fails test xs none = none_from test 0 xs (sym (position_from-zero (λ x. not (test x)) xs) ∙ none)

-- ---- the interval of a row

-- an interval of a list
pub record IsOneOf (test : Interval → Bool) (intervals : List Interval) : Type 0 where
  pub one : Interval
  pub among : Contains intervals one
  pub passes : test one ≡ true

pub one_of : (test : Interval → Bool) (intervals : List Interval) → list_any test intervals ≡ true → IsOneOf test intervals
one_of test [] h = cc
one_of test (i ∷ intervals) h =
    elim (or_cases (test i) (list_any test intervals) h) as (λ _. IsOneOf test (i ∷ intervals)) [
      | inl e ↦ record { one = i; among = contains_first intervals i; passes = e }
      | inr e ↦
          let found = one_of test intervals e in
          record { one = found.one; among = contains_more intervals i found.one found.among; passes = found.passes }
    ]

pub record IsRowAs (row : StoredInterval) (i : Interval) : Type 0 where
  pub name : name_of i ≡ named row
  pub is : IsRowOf i (level_of row)

same_flag : (a b : Bool) → beq a b ≡ true → a ≡ b
same_flag true true h = refl
same_flag true false h = cc
same_flag false true h = cc
same_flag false false h = refl

row_of_one : (row : StoredInterval) (i : Interval) → is_row_of row i ≡ true → IsRowAs row i
row_of_one row i h =
    let both = and_parts (is_named row.object row.nr i && nat_eq row.from i.from) ((beq row.buffered (is_buffered i)) && nat_le row.level i.to) h in
    let begins = and_parts (is_named row.object row.nr i) (nat_eq row.from i.from) both.0 in
    let ends = and_parts (beq row.buffered (is_buffered i)) (nat_le row.level i.to) both.1 in
    record {
      name = named_is row.object row.nr i begins.0;
      is = record {
        first = eqb-true row.from i.from begins.1;
        buffered = same_flag row.buffered (is_buffered i) ends.0;
        within =
            leb-true row.level i.to ends.1;
      };
    }

fit_found : (intervals : List Interval) (levels : Levels) (name : RowName) → FitRows intervals levels → (found : Option StoredInterval)
    → row_at levels name ≡ found
    → IfSome (option_map level_of found) (λ l. (i : Interval) × Contains intervals i × (name_of i ≡ name) × IsRowOf i l)
fit_found intervals levels name all None h = tt
fit_found intervals levels name all (Some row) h =
    let found = one_of (is_row_of row) intervals (row_fits intervals levels name row all h) in
    let is = row_of_one row found.one found.passes in
    (found.one, found.among, is.name ∙ sym (row_named levels name row h), is.is)

-- the stored levels are those of these intervals where the rows are
pub fit_levels : (intervals : List Interval) (levels : Levels) → FitRows intervals levels → FitLevels intervals levels
fit_levels intervals levels all name =
    subst (λ o. IfSome o (λ l. (i : Interval) × Contains intervals i × (name_of i ≡ name) × IsRowOf i l)) (sym (level_is levels name))
    (fit_found intervals levels name all (row_at levels name) refl)

-- ---- the present level

pub found_level : (levels : Levels) (i : Interval) (found : Option Level) → get levels (name_of i) ≡ found
    → level_in levels i ≡ option_map_or (λ (l : Level). l.level) found i.level
found_level levels i found h = ap (λ o. option_map_or (λ (l : Level). l.level) o i.level) h

-- what a store has of an interval of a landscape is a row of that interval
pub row_of_its_own : (intervals : List Interval) (levels : Levels) (i : Interval) (l : Level) → AreApart intervals → FitLevels intervals levels
    → Contains intervals i → get levels (name_of i) ≡ Some l → IsRowOf i l
row_of_its_own intervals levels i l apart fit among has =
    let found : (j : Interval) × Contains intervals j × (name_of j ≡ name_of i) × IsRowOf j l =
    subst (λ o. IfSome o (λ x. (j : Interval) × Contains intervals j × (name_of j ≡ name_of i) × IsRowOf j x)) has (fit (name_of i)) in
    subst (λ j. IsRowOf j l) (one_interval intervals found.0 i apart found.1 among found.2) found.3

pub unused_in : (intervals : List Interval) (i : Interval) → AreIntervals intervals → Contains intervals i → IsUnused i
unused_in intervals i are among = All-contains IsUnused intervals i (All-from_recursion IsUnused intervals are.each) among

within_by : (levels : Levels) (i : Interval) (found : Option Level) → get levels (name_of i) ≡ found → IfSome found (IsRowOf i) → i.level ≤ i.to
    → level_in levels i ≤ i.to
within_by levels i None is row own = subst (λ n. n ≤ i.to) (sym (found_level levels i None is)) own
within_by levels i (Some l) is row own = subst (λ n. n ≤ i.to) (sym (found_level levels i (Some l) is)) row.within

pub if_row : (intervals : List Interval) (levels : Levels) (i : Interval) → AreApart intervals → FitLevels intervals levels → Contains intervals i
    → (found : Option Level) → get levels (name_of i) ≡ found → IfSome found (IsRowOf i)
if_row intervals levels i apart fit among None is = tt
if_row intervals levels i apart fit among (Some l) is = row_of_its_own intervals levels i l apart fit among is

-- no level is past the end of its interval
pub level_fits : (intervals : List Interval) (levels : Levels) (i : Interval) → AreIntervals intervals → FitLevels intervals levels → Contains intervals i
    → level_in levels i ≤ i.to
level_fits intervals levels i are fit among =
    within_by levels i (get levels (name_of i)) refl (if_row intervals levels i are.apart fit among (get levels (name_of i)) refl)
    (unused_in intervals i are among).interval.within

pub level_within : (intervals : List Interval) (levels : Levels) (i : Interval) → AreIntervals intervals → FitRows intervals levels → Contains intervals i
    → level_in levels i ≤ i.to
level_within intervals levels i are all among = level_fits intervals levels i are (fit_levels intervals levels all) among

begun_by : (levels : Levels) (i : Interval) (found : Option Level) → get levels (name_of i) ≡ found → IfSome found (IsRowOf i)
    → IfSome found (λ l. l.from ≤ l.level + 1) → i.from ≤ i.level + 1 → i.from ≤ level_in levels i + 1
begun_by levels i None is row begun own = subst (λ n. i.from ≤ n + 1) (sym (found_level levels i None is)) own
begun_by levels i (Some l) is row begun own = subst (λ n. i.from ≤ n + 1) (sym (found_level levels i (Some l) is))
    (subst (λ n. n ≤ l.level + 1) row.first begun)

-- with its present level an interval is one still
pub present_fits : (intervals : List Interval) (levels : Levels) (i : Interval) → AreIntervals intervals → FitLevels intervals levels
    → ((name : RowName) → IfSome (get levels name) (λ l. l.from ≤ l.level + 1)) → Contains intervals i → IsInterval (present levels i)
present_fits intervals levels i are fit begun among =
    let is = (unused_in intervals i are among).interval in
    let name = name_of i in
    record {
      low = is.low;
      order = is.order;
      high = is.high;
      begun = begun_by levels i (get levels name) refl (if_row intervals levels i are.apart fit among (get levels name) refl) (begun name) is.begun;
      within = level_fits intervals levels i are fit among;
      percentage = is.percentage;
    }

pub present_good : (intervals : List Interval) (levels : Levels) (i : Interval) → AreIntervals intervals → FitRows intervals levels
    → ((name : RowName) → IfSome (get levels name) (λ l. l.from ≤ l.level + 1)) → Contains intervals i → IsInterval (present levels i)
present_good intervals levels i are all begun among = present_fits intervals levels i are (fit_levels intervals levels all) begun among
