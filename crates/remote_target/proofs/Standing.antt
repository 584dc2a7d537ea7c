-- Rows without a bad one stand for calls that a target executed.
use Rattle.std.proofs.Common.{◌≡◌, ℕ, ◌+◌, ◌≤◌, Bool, true, false, cond, not, ◌&&◌, ◌||◌, nat_eq, nat_le, map, List, [], ◌∷◌, ◌++◌, length, Option, Some, None}
use Rattle.std.proofs.Common.{IfSome, Result, Ok, Err, IfOk, OnOk, refl, sym, ap, subst, subst₂, ◌∙◌, append-nil, arith}
use Rattle.std.proofs.lemmas.Bool.{eqb-true, leb-true}
use Rattle.std.proofs.lemmas.List.{length-map}
use Rattle.std.specs.List.{AllByRecursion, find, position}
use Rattle.byteorder.specs.Endian.{big_bytes, big_number}
use Rattle.byteorder.specs.Numbers.{big_number-reads_back}
use Rattle.keeper_api.specs.declared.rows.Row.{Row}
use Rattle.keeper_api.specs.Rows.{Rows, RiseFrom}
use Rattle.remote_target.specs.Executed.{call_in, executed_in, placed}
use Rattle.remote_target.specs.Reading.{AreSpelled, IsSpelled, at_place, bad_place, bad_place_in, count_in, first_bad_call, has_place, is_call, is_call_behind}
use Rattle.remote_target.specs.Reading.{is_count_row, is_counting, is_number, is_text_row, is_within, one_on, place_in, stored_count, value_if}
use Rattle.remote_target.specs.Rows.{IsCount, StandFor, count_key, row_key, value_from}
use Rattle.remote_target.specs.Runs.{Ran}
use Rattle.table_reading.specs.Tables.{rows_in}
use Rattle.remote_target.specs.Targets.{HasCalls, HasExecuted, HasRun, Show, TargetView}
use Rattle.remote_target.specs.declared.fault.TargetFault.{TargetFault}
use Rattle.remote_target.proofs.Found.{found, same_number, value_by_test, value_found}
use Rattle.table_reading.proofs.lemmas.Pages.{first_true, rows_rise, second_true}
use Rattle.remote_target.proofs.Parts.{row_is_call}
use Rattle.remote_target.proofs.Placed.{Apart, IsCallRow, Within, all_placed, found_placed, length_placed, placed_rise, values_are}
use Rattle.remote_target.proofs.Texts.{none_more, passed, tables_of, texts_are}

-- ---- no bad row in each table

off_of : (b : Bool) → not b ≡ true → b ≡ false
off_of true h = cc
off_of false h = refl

record AreGood (calls texts counts : List Row) : Type 0 where
  none_of_calls : first_bad_call (stored_count counts) [] calls ≡ None
  none_of_texts : position (λ row. not (is_text_row row)) texts ≡ None
  none_of_counts : position (λ row. not (is_count_row (stored_count counts) (length calls) row)) counts ≡ None

three_none : (a b c : Option ℕ) → at_place 0 a (at_place 1 (one_on b) (at_place 2 (one_on c) None)) ≡ None → (a ≡ None) × (b ≡ None) × (c ≡ None)
three_none (Some n) b c h = cc
three_none None (Some n) c h = cc
three_none None None (Some n) h = cc
three_none None None None h = (refl, refl, refl)

are_good : (calls texts counts : List Row) → bad_place calls texts counts ≡ None → AreGood calls texts counts
are_good calls texts counts h =
    let all = three_none (first_bad_call (stored_count counts) [] calls) (position (λ row. not (is_text_row row)) texts)
    (position (λ row. not (is_count_row (stored_count counts) (length calls) row)) counts) h in
    record { none_of_calls = all.0; none_of_texts = all.1; none_of_counts = all.2 }

-- ---- the stored number is that of the calls

good_first : (b : Bool) (rest : Option ℕ) (n : ℕ) → cond b rest (Some n) ≡ None → (b ≡ true) × (rest ≡ None)
good_first true rest n h = (refl, h)
good_first false rest n h = cc

is_stored : (stored : Option ℕ) (n : ℕ) → is_number stored n ≡ true → stored ≡ Some n
is_stored None n h = cc
is_stored (Some m) n h = ap Some (eqb-true m n h)

none_within_none : (place : ℕ) → is_within (Some 0) place ≡ true → ⊥
none_within_none place h =
    let above = leb-true 1 place (first_true (nat_le 1 place) (nat_le place 0) h) in
    let below = leb-true place 0 (second_true (nat_le 1 place) (nat_le place 0) h) in
    omega (arith, above, below)

within_of : (stored : Option ℕ) (before : List Row) (row : Row) → is_call_behind stored before row ≡ true → is_within stored (place_in row) ≡ true
within_of stored before row h = second_true (is_call row) (is_within stored (place_in row))
    (first_true (is_call row && is_within stored (place_in row)) (not (has_place (place_in row) before)) h)

counted : (calls counts : List Row) → first_bad_call (stored_count counts) [] calls ≡ None
    → position (λ row. not (is_count_row (stored_count counts) (length calls) row)) counts ≡ None → stored_count counts ≡ Some (length calls)
counted [] [] good right = refl
counted (row ∷ rows) [] good right =
    let first = good_first (is_call_behind (Some 0) [] row) (first_bad_call (Some 0) (row ∷ []) rows) 1 good in
    absurd (none_within_none (place_in row) (within_of (Some 0) [] row first.0))
counted calls (count ∷ counts) good right =
    let stored = stored_count (count ∷ counts) in
    let more = none_more (λ row. not (is_count_row stored (length calls) row)) count counts right in
    is_stored stored (length calls)
    (second_true (is_counting count) (is_number stored (length calls)) (passed (is_count_row stored (length calls) count) more.0))

-- ---- each row of table 0 is a call at a place of its own

has_more : (p : ℕ) (before : List Row) (row : Row) → has_place p before ≡ true → has_place p (before ++ row ∷ []) ≡ true
has_more p [] row h = cc
has_more p (x ∷ xs) row h =
    elim (nat_eq (place_in x) p) as (λ b. (b || has_place p xs) ≡ true → (b || has_place p (xs ++ row ∷ [])) ≡ true)
    [ true ↦ λ k. refl | false ↦ λ k. has_more p xs row k ] h

has_last : (p : ℕ) (before : List Row) (row : Row) → nat_eq (place_in row) p ≡ true → has_place p (before ++ row ∷ []) ≡ true
has_last p [] row h = ap (λ b. b || false) h
has_last p (x ∷ xs) row h =
    elim (nat_eq (place_in x) p) as (λ b. (b || has_place p (xs ++ row ∷ [])) ≡ true) [ true ↦ refl | false ↦ has_last p xs row h ]

other_place : (b : Bool) (p : ℕ) (before : List Row) (row : Row) → nat_eq (place_in row) p ≡ b → has_place p before ≡ true
    → has_place (place_in row) before ≡ false → b ≡ false
other_place true p before row is had fresh = let back : has_place p before ≡ false =
    subst (λ q. has_place q before ≡ false) (eqb-true (place_in row) p is) fresh in cc
other_place false p before row is had fresh = refl

fresh_of : (stored : Option ℕ) (before : List Row) (row : Row) → is_call_behind stored before row ≡ true → has_place (place_in row) before ≡ false
fresh_of stored before row h =
    off_of (has_place (place_in row) before) (second_true (is_call row && is_within stored (place_in row)) (not (has_place (place_in row) before)) h)

-- a place that a row before has isn't had again
not_again : (stored : Option ℕ) (p : ℕ) (before rows : List Row) → first_bad_call stored before rows ≡ None → has_place p before ≡ true
    → has_place p rows ≡ false
not_again stored p before [] good had = refl
not_again stored p before (row ∷ rows) good had =
    let first = good_first (is_call_behind stored before row) (first_bad_call stored (before ++ row ∷ []) rows) (length before + 1) good in
    ap (λ b. b || has_place p rows) (other_place (nat_eq (place_in row) p) p before row refl had (fresh_of stored before row first.0))
    ∙ not_again stored p (before ++ row ∷ []) rows first.1 (has_more p before row had)

apart_of : (stored : Option ℕ) (before rows : List Row) → first_bad_call stored before rows ≡ None → Apart place_in rows
apart_of stored before [] good = tt
apart_of stored before (row ∷ rows) good =
    let first = good_first (is_call_behind stored before row) (first_bad_call stored (before ++ row ∷ []) rows) (length before + 1) good in (
      not_again stored (place_in row) (before ++ row ∷ []) rows first.1 (has_last (place_in row) before row (same_number (place_in row))),
      apart_of stored
          (before ++ row ∷ []) rows first.1,
    )

within_all : (n : ℕ) (before rows : List Row) → first_bad_call (Some n) before rows ≡ None → Within place_in n rows
within_all n before [] good = tt
within_all n before (row ∷ rows) good =
    let first = good_first (is_call_behind (Some n) before row) (first_bad_call (Some n) (before ++ row ∷ []) rows) (length before + 1) good in
    let within = within_of (Some n) before row first.0 in (
      (
        leb-true 1 (place_in row) (first_true (nat_le 1 (place_in row)) (nat_le (place_in row) n) within),
        leb-true (place_in row) n
            (second_true (nat_le 1 (place_in row)) (nat_le (place_in row) n) within),
      ),
      within_all n (before ++ row ∷ []) rows first.1,
    )

all_calls : (stored : Option ℕ) (before rows : List Row) → first_bad_call stored before rows ≡ None → AllByRecursion IsSpelled rows
    → AllByRecursion (IsCallRow place_in call_in (λ row. refl)) rows
all_calls stored before [] good spelled = tt
all_calls stored before (row ∷ rows) good spelled =
    let first = good_first (is_call_behind stored before row) (first_bad_call stored (before ++ row ∷ []) rows) (length before + 1) good in
    let call = first_true (is_call row) (is_within stored (place_in row))
    (first_true (is_call row && is_within stored (place_in row)) (not (has_place (place_in row) before)) first.0) in
    (row_is_call row call spelled.0, all_calls stored (before ++ row ∷ []) rows first.1 spelled.1)

-- ---- the calls that the rows stand for

abbrev ran_by : List Row → List Row → Ran
ran_by calls texts = record { executed = map call_in (placed place_in calls); tables = tables_of texts }

length_ran : (calls : List Row) → length (map call_in (placed place_in calls)) ≡ length calls
length_ran calls = length-map (placed place_in calls) call_in ∙ length_placed place_in calls

calls_stand : (n : ℕ) (calls : List Row) (key : List ℕ) → RiseFrom [] calls → n ≡ length calls → first_bad_call (Some n) [] calls ≡ None
    → AllByRecursion IsSpelled calls
    → found key calls ≡ value_from 1 key (map call_in (placed place_in calls))
calls_stand n calls key rise full good spelled =
    let long = length_placed place_in calls in
    sym (
    values_are place_in call_in (λ row. refl) 0 n key (placed place_in calls)
    (placed_rise place_in n calls (apart_of (Some n) [] calls good) (within_all n [] calls good))
    (omega (arith, long, full))
    (all_placed place_in (IsCallRow place_in call_in (λ row. refl)) calls (all_calls (Some n) [] calls good spelled))
    ∙ found_placed place_in key [] calls rise)

count_stands : (stored : Option ℕ) (counts : List Row) (n : ℕ) → stored ≡ Some n → IfSome stored (IsCount (value_if (find is_counting counts)))
    → IsCount (found count_key counts) n
count_stands stored counts n is spelled = subst (λ v. IsCount v n) (value_by_test count_key counts)
    (subst (λ s. IfSome s (IsCount (value_if (find is_counting counts)))) is spelled)

stand_for : (rows : Rows) → bad_place_in rows ≡ None → AreSpelled (rows_in rows 0) (rows_in rows 2) → StandFor rows (ran_by (rows_in rows 0) (rows_in rows 1))
stand_for rows good spelled =
    let calls = rows_in rows 0 in
    let texts = rows_in rows 1 in
    let counts = rows_in rows 2 in
    let each = are_good calls texts counts good in
    let stored = counted calls counts each.none_of_calls each.none_of_counts in
    let right : first_bad_call (Some (length calls)) [] calls ≡ None = subst (λ s. first_bad_call s [] calls ≡ None) stored each.none_of_calls in record {
      calls = λ tid long. value_found rows 0 tid long ∙ calls_stand (length calls) calls tid (rows_rise rows 0) refl right spelled.places;
      texts = λ name. value_found rows 1 (row_key name) (omega arith) ∙ texts_are texts each.none_of_texts name;
      count = subst (λ v. IsCount v (length (map call_in (placed place_in calls)))) (sym (value_found rows 2 count_key (omega arith)))
          (subst (IsCount (found count_key counts)) (sym (length_ran calls)) (count_stands (stored_count counts) counts (length calls) stored spelled.number));
    }

-- ---- rows that stand for calls have their number

number_in_row : (b : Bool) (value : List ℕ) (n m : ℕ) → cond b (Some (big_number 8 value)) None ≡ Some n → m ≤ 9223372036854775807 → value ≡ big_bytes 8 m
    → n ≡ m
number_in_row true value n m h few is =
    let read : big_number 8 value ≡ n = cc in
    sym read ∙ ap (big_number 8) (is ∙ sym (append-nil (big_bytes 8 m))) ∙ big_number-reads_back 8 m [] (omega (arith, few))
number_in_row false value n m h few is = cc

number_is : (row : Option Row) (n m : ℕ) → count_in row ≡ Some n → m ≤ 9223372036854775807 → IsCount (value_if row) m → n ≡ m
number_is None n m h few is = let none : 0 ≡ n = cc in sym none ∙ sym is
number_is (Some row) n m h few is = number_in_row (nat_eq (length row.value) 8) row.value n m h few is

pub has_calls : (rows : Rows) → bad_place_in rows ≡ None → AreSpelled (rows_in rows 0) (rows_in rows 2) → HasCalls rows (length (rows_in rows 0))
has_calls rows good spelled =
    let counts = rows_in rows 2 in
    let each = are_good (rows_in rows 0) (rows_in rows 1) counts good in
    let stored = counted (rows_in rows 0) counts each.none_of_calls each.none_of_counts in
    record {
      tables = tables_of (rows_in rows 1);
      stand = stand_for rows good spelled;
      number = sym (length_ran (rows_in rows 0));
      same = λ r stands few.
          number_is (find is_counting counts) (length (rows_in rows 0)) (length r.executed) stored few
          (subst (λ v. IsCount v (length r.executed)) (value_found rows 2 count_key (omega arith) ∙ sym (value_by_test count_key counts)) stands.count);
    }

-- what was read of the tables, one after another
read_calls : (held second third : Option Rows) (calls texts counts : List Row) (n : ℕ) → second ≡ held → third ≡ second
    → IfSome held (λ rows. calls ≡ rows_in rows 0) → IfSome second (λ rows. texts ≡ rows_in rows 1) → IfSome third (λ rows. counts ≡ rows_in rows 2)
    → (bad_place calls texts counts ≡ None) × (n ≡ length calls) → AreSpelled calls counts → IfSome held (λ rows. HasCalls rows n)
read_calls None second third calls texts counts n same again of_calls of_texts of_counts good spelled = tt
read_calls (Some rows) second third calls texts counts n same again of_calls of_texts of_counts good spelled =
    let texts_in : texts ≡ rows_in rows 1 = subst (λ h. IfSome h (λ rs. texts ≡ rows_in rs 1)) same of_texts in
    let counts_in : counts ≡ rows_in rows 2 = subst (λ h. IfSome h (λ rs. counts ≡ rows_in rs 2)) (again ∙ same) of_counts in
    subst (HasCalls rows) (sym (good.1 ∙ ap length of_calls))
    (has_calls rows (sym (λ k. bad_place (of_calls k) (texts_in k) (counts_in k)) ∙ good.0) (subst₂ AreSpelled of_calls counts_in spelled))

-- the same of what a check of them answers
pub read_result : (held second third : Option Rows) (calls texts counts : List Row) (a b d : List Row) → second ≡ held → third ≡ second
    → IfSome held (λ rows. calls ≡ rows_in rows 0) → IfSome second (λ rows. texts ≡ rows_in rows 1) → IfSome third (λ rows. counts ≡ rows_in rows 2)
    → a ≡ calls → b ≡ texts → d ≡ counts → (result : Result ℕ TargetFault) → IfOk result (λ n. (bad_place a b d ≡ None) × (n ≡ length a))
    → OnOk result (AreSpelled a d)
    → IfOk result (λ n. IfSome held (λ rows. HasCalls rows n))
read_result held second third calls texts counts a b d same again of_calls of_texts of_counts is_a is_b is_d (Ok n) good spelled =
    read_calls held second third a b d n same again
    (subst (λ xs. IfSome held (λ rows. xs ≡ rows_in rows 0)) (sym is_a) of_calls)
    (subst (λ xs. IfSome second (λ rows. xs ≡ rows_in rows 1)) (sym is_b) of_texts)
    (subst (λ xs. IfSome third (λ rows. xs ≡ rows_in rows 2)) (sym is_d) of_counts)
    good spelled
read_result held second third calls texts counts a b d same again of_calls of_texts of_counts is_a is_b is_d (Err e) good spelled = tt

-- ---- a target over such rows

module _ {K : Type 0} (held : K → Option Rows) (keeper : K) (n : ℕ) where
  abbrev here : TargetView K
  here = record { keeper = keeper; count = n }

  run_if : (h : Option Rows) → held keeper ≡ h → IfSome h (λ rows. HasCalls rows n) → IfSome h (λ rows. HasExecuted held here (executed_in rows))
  run_if None is told = tt
  run_if (Some rows) is told = record {
    tables = told.tables;
    run = record { rows = subst (λ x. Show x (record { executed = executed_in rows; tables = told.tables })) (sym is) told.stand; count = told.number };
  }

  pub some_run : IfSome (held keeper) (λ rows. HasCalls rows n) → IfSome (held keeper) (λ rows. HasExecuted held here (executed_in rows))
  some_run told = run_if (held keeper) refl told

  goes_if : (h : Option Rows) → held keeper ≡ h → IfSome h (λ rows. HasCalls rows n) → (r : Ran) → Show (held keeper) r
      → length r.executed ≤ 9223372036854775807 → HasRun held here r
  goes_if None is told r shown few = absurd (subst (λ x. Show x r) is shown)
  goes_if (Some rows) is told r shown few = record { rows = shown; count = told.same r (subst (λ x. Show x r) is shown) few }

  pub goes_on : IfSome (held keeper) (λ rows. HasCalls rows n) → (r : Ran) → Show (held keeper) r → length r.executed ≤ 9223372036854775807 → HasRun held here r
  goes_on told = goes_if (held keeper) refl told
