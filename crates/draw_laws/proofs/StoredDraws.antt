-- What sessions have drawn may be stored: a commit's rows with its numbers, and a level that is raised.
use Rattle.std.proofs.Common.{◌≡◌, ℕ, ◌+◌, ◌-◌, ◌≤◌, Bool, true, false, true≢false, cond, not, ◌&&◌, nat_eq, List, [], ◌∷◌, ◌++◌, Option, Some, None, IfSome, IsSome, refl, sym, ap, subst, ◌∙◌, arith}
use Rattle.std.specs.Prelude.{Contains, sum_by}
use Rattle.std.specs.FinMap.{get}
use Rattle.std.specs.List.{All, AllByRecursion, IsDistinct, list_any, range_with_len}
use Rattle.std.proofs.lemmas.List.Elements.{All-contains, All-contains_itself, All-from_recursion, recursion_from_All}
use Rattle.std.proofs.lemmas.List.Sums.{count_by-le-length, sum_by-append, sum_by-cons}
use Rattle.enq_base.specs.declared.unit.Num.{Num}
use Rattle.module_effects.proofs.lemmas.Tables.{same_row, same_row-Decides}
use Rattle.module_effects.specs.Rows.{RowName}
use Rattle.number_ranges.specs.Intervals.{IsInterval, is_buffered, is_named, with_level}
use Rattle.number_ranges.specs.declared.interval.Interval.{Interval}
use Rattle.ledger_steps.specs.Intervals.{HasNr, MayStore, with_levels}
use Rattle.update_records.specs.Business.{interval_of, numbers_from, numbers_of}
use Rattle.update_records.specs.Intervals.{level_of}
use Rattle.update_records.specs.Ledger.{AreDrawn, IsRightLevel, Ledger, Levels, LevelsAgree}
use Rattle.update_records.specs.RecordRows.{Level}
use Rattle.ledger_steps.specs.Drawn.{AreDrawnRight, AreOfOne, IsDrawnAs, IsDrawnRight, IsOfOne, IsRun, drawn_from, drawn_of, has_drawn, is_settled_by, settled_rows, stored_as, times}
use Rattle.ledger_steps.specs.Levels.{AreIntervals, FitLevels, IsRowOf, intervals_of, level_in, name_of, present}
use Rattle.ledger_steps.specs.declared.range.NumberRange.{NumberRange}
use Rattle.draw_laws.proofs.Counting.{all_append, all_both, all_counted, all_of, all_right, count_append, distinct_once, run_append}
use Rattle.draw_laws.proofs.FittingLevels.{found_level, if_row, one_of, present_fits, unused_in}
use Rattle.draw_laws.proofs.IntervalNames.{named_is, none_named}
use Rattle.draw_laws.proofs.OwnNumbers.{drawn_length, append_none, counts_in, empty_from, has_some, none_drawn, none_from, numbers_append, one_of_these}
use Rattle.draw_laws.proofs.SettledRows.{insert_other, insert_own, others_kept, own_level, row_for, rows_distinct, rows_for, rows_numbered}

-- ---- what a session may commit of an interval

pub record TakesBuffered (i : Interval) (nums committed : List Num) : Type 0 where
  pub once : (number : ℕ) → times i number committed + times i number nums ≤ 1
  pub inside : (number : ℕ) → 1 ≤ times i number nums → (i.from ≤ number) × (number ≤ i.level)

abbrev pub TakesAs : Bool → Interval → List Num → List Num → Type 0
TakesAs false i nums committed = IsRun i nums
TakesAs true i nums committed = TakesBuffered i nums committed

abbrev pub Takes : Levels → List Num → List Num → Interval → Type 0
Takes levels nums committed i = TakesAs (is_buffered i) (present levels i) nums committed

one_takes : (buffered : Bool) (i : Interval) (next : ℕ) (before : List (List Num)) (nums : List Num) (after : List (List Num)) (committed : List Num)
    → IsDrawnAs buffered i next (before ++ nums ∷ after) committed → TakesAs buffered i nums committed
one_takes false i next before nums after committed h = (all_right (IsRun i) before (nums ∷ after) h.runs).0
one_takes true i next before nums after committed h = record {
  once = λ n. let most = h.once n in let s = split n in omega (arith, most, s);
  inside = λ n some.
      let s = split n in
      let at = h.inside n (omega (arith, s, some)) in
      let low = at.1 in
      let high = h.high in
      (at.0, omega (arith, low, high));
}
  where
    split : (n : ℕ) → sum_by (times i n) (before ++ nums ∷ after) ≡ sum_by (times i n) before + (times i n nums + sum_by (times i n) after)
    split n = sum_by-append (times i n) before (nums ∷ after) ∙ ap (λ k. sum_by (times i n) before + k) (sum_by-cons (times i n) nums after)

pub all_take : (levels : Levels) (before : List (List Num)) (nums : List Num) (after : List (List Num)) (committed : List Num) (ranges : List NumberRange)
    → AllByRecursion (IsDrawnRight levels (before ++ nums ∷ after) committed) ranges → AllByRecursion (Takes levels nums committed) (intervals_of ranges)
all_take levels before nums after committed [] h = tt
all_take levels before nums after committed (r ∷ ranges) h = (
  one_takes (is_buffered r.interval) (present levels r.interval) r.next before nums after committed h.0,
  all_take levels before nums after committed ranges h.1,
)

-- ---- the levels behind a commit

no_some : (found : Option Level) → found ≡ None → IsSome found → ⊥
no_some None e h = cc
no_some (Some l) e h = cc

-- an interval that isn't stored has no committed numbers
pub none_committed : (levels : Levels) (committed : List Num) (name : RowName) → LevelsAgree levels committed → get levels name ≡ None
    → numbers_from name committed ≡ []
none_committed levels committed name agree none =
    none_from name committed
    (all_of (λ num. IsSome (get levels (interval_of num))) (λ num. interval_of num ≡ name → ⊥)
    (λ num some same. no_some (get levels name) none (subst (λ n. IsSome (get levels n)) same some))
    committed (recursion_from_All (λ num. IsSome (get levels (interval_of num))) committed agree.stored))

some_level : (levels : Levels) (i : Interval) → i.level + 1 ≡ i.from → i.from ≤ level_in levels i → (found : Option Level) → get levels (name_of i) ≡ found
    → IsSome (get levels (name_of i))
some_level levels i first high None is =
    let own = found_level levels i None is in
    absurd (omega (arith, first, high, own))
some_level levels i first high (Some l) is = subst IsSome (sym is) refl

module _ (intervals : List Interval) (levels : Levels) (committed nums : List Num) (are : AreIntervals intervals) (fit : FitLevels intervals levels)
    (takes : AllByRecursion (Takes levels nums committed) intervals) (known : AreOfOne intervals nums) (agree : LevelsAgree levels committed) where
  abbrev pub after_levels : Levels
  after_levels = with_levels (rows_for levels nums intervals) levels

  takes_it : (i : Interval) → Contains intervals i → Takes levels nums committed i
  takes_it i among = All-contains (Takes levels nums committed) intervals i (All-from_recursion (Takes levels nums committed) intervals takes) among

  begun : (name : RowName) → IfSome (get levels name) (λ l. l.from ≤ l.level + 1)
  begun name = begun_of (get levels name) (agree.right name)
    where
      begun_of : (found : Option Level) → IfSome found (IsRightLevel name committed) → IfSome found (λ l. l.from ≤ l.level + 1)
      begun_of None h = tt
      begun_of (Some l) h = h.begun

  good : (i : Interval) → Contains intervals i → IsInterval (present levels i)
  good i among = present_fits intervals levels i are fit begun among

  level_kept : (i : Interval) → Contains intervals i → is_settled_by nums (present levels i) ≡ false → get after_levels (name_of i) ≡ get levels (name_of i)
  level_kept i among none =
      own_level levels levels nums i intervals are.apart among ∙ ap (λ b. cond b (Some (level_of (row_for levels nums i))) (get levels (name_of i))) none

  level_set : (i : Interval) → Contains intervals i → is_settled_by nums (present levels i) ≡ true
      → get after_levels (name_of i) ≡ Some (level_of (row_for levels nums i))
  level_set i among settled =
      own_level levels levels nums i intervals are.apart among ∙ ap (λ b. cond b (Some (level_of (row_for levels nums i))) (get levels (name_of i))) settled

  -- no number of the name is committed now
  no_more : (name : RowName) (found : Option Level) → numbers_from name nums ≡ [] → IfSome found (IsRightLevel name committed)
      → IfSome found (IsRightLevel name (committed ++ nums))
  no_more name None none right = tt
  no_more name (Some l) none right = record {
    object = right.object;
    nr = right.nr;
    low = right.low;
    order = right.order;
    high = right.high;
    begun = right.begun;
    within = right.within;
    drawn = subst (AreDrawn l.buffered l)
        (sym (numbers_append name committed nums ∙ ap (λ ns. numbers_from name committed ++ ns) none ∙ append_none (numbers_from name committed))) right.drawn;
  }

  -- ---- with a buffer

  distinct_more : (i : Interval) → TakesBuffered i nums committed → IsDistinct nat_eq (drawn_from i committed ++ drawn_from i nums)
  distinct_more i take = distinct_once (drawn_from i committed ++ drawn_from i nums) (λ n.
      let whole = count_append (nat_eq n) (drawn_from i committed) (drawn_from i nums) in
      let most = take.once n in
      omega (arith, whole, most))

  buffered_drawn : (i : Interval) (l : Level) (buffered : Bool) → buffered ≡ true → IsRowOf i l → l.level ≡ level_in levels i
      → TakesBuffered (present levels i) nums committed
      → AreDrawn buffered l (drawn_from i committed) → AreDrawn buffered l (drawn_from i committed ++ drawn_from i nums)
  buffered_drawn i l false is row same take h = cc
  buffered_drawn i l true is row same take h =
      let inside = λ (n : ℕ). (l.from ≤ n) × (n ≤ l.level) in
      let begins = row.first in (
        distinct_more (present levels i) take,
        All-from_recursion inside (drawn_from i committed ++ drawn_from i nums)
            (all_append inside (drawn_from i committed) (drawn_from i nums) (recursion_from_All inside (drawn_from i committed) h.1)
            (all_counted inside (drawn_from i nums)
            (λ n some. let at = take.inside n some in let low = at.0 in let high = at.1 in (omega (arith, low, begins), omega (arith, high, same))))),
      )

  buffered_right : (i : Interval) → TakesBuffered (present levels i) nums committed → is_buffered i ≡ true → (found : Option Level)
      → get levels (name_of i) ≡ found → IfSome found (IsRowOf i)
      → IfSome found (IsRightLevel (name_of i) committed) → IfSome found (IsRightLevel (name_of i) (committed ++ nums))
  buffered_right i take is None has row right = tt
  buffered_right i take is (Some l) has row right = record {
    object = right.object;
    nr = right.nr;
    low = right.low;
    order = right.order;
    high = right.high;
    begun = right.begun;
    within = right.within;
    drawn = subst (AreDrawn l.buffered l) (sym (numbers_append (name_of i) committed nums))
        (buffered_drawn i l l.buffered (row.buffered ∙ is) row (sym (found_level levels i (Some l) has)) take right.drawn);
  }

  -- ---- without one

  -- what was committed reaches from the first number to the level
  drawn_before : (i : Interval) → i.level + 1 ≡ i.from → is_buffered i ≡ false → (found : Option Level) → get levels (name_of i) ≡ found
      → IfSome found (IsRowOf i) → IfSome found (IsRightLevel (name_of i) committed)
      → drawn_from i committed ≡ range_with_len i.from (level_in levels i + 1 - i.from)
  drawn_before i first is None has row right =
      let same = found_level levels i None has in
      let none : 0 ≡ level_in levels i + 1 - i.from = omega (arith, same, first) in
      none_committed levels committed (name_of i) agree has ∙ ap (range_with_len i.from) none
  drawn_before i first is (Some l) has row right =
      let same = found_level levels i (Some l) has in
      run_of l.buffered (row.buffered ∙ is) right.drawn
      ∙ ap (λ n. range_with_len n (l.level + 1 - n)) row.first
      ∙ ap (λ n. range_with_len i.from (n + 1 - i.from)) (sym same)
    where
      run_of : (buffered : Bool) → buffered ≡ false → AreDrawn buffered l (drawn_from i committed)
          → drawn_from i committed ≡ range_with_len l.from (l.level + 1 - l.from)
      run_of false e h = h
      run_of true e h = cc

  run_more : (i : Interval) → i.from ≤ level_in levels i + 1 → drawn_from i committed ≡ range_with_len i.from (level_in levels i + 1 - i.from)
      → IsRun (present levels i) nums
      → drawn_from i committed ++ drawn_from i nums ≡ range_with_len i.from (level_in levels i + drawn_of i nums + 1 - i.from)
  run_more i low before run =
      let level = level_in levels i in
      let many = drawn_of i nums in
      let next : i.from + (level + 1 - i.from) ≡ level + 1 = omega (arith, low) in
      let all : level + 1 - i.from + many ≡ level + many + 1 - i.from = omega (arith, low) in
      ap (λ xs. xs ++ drawn_from i nums) before
      ∙ ap (λ ys. range_with_len i.from (level + 1 - i.from) ++ ys) (run.follows ∙ ap (λ n. range_with_len n many) (sym next))
      ∙ sym (run_append i.from (level + 1 - i.from) many)
      ∙ ap (range_with_len i.from) all

  settled_right : (i : Interval) → Contains intervals i → IsRun (present levels i) nums → is_buffered i ≡ false
      → IsRightLevel (name_of i) (committed ++ nums) (level_of (row_for levels nums i))
  settled_right i among run is =
      let own = unused_in intervals i are among in
      let p = good i among in
      let begins = p.begun in
      let high = p.high in
      record {
        object = own.object;
        nr = own.nr;
        low = p.low;
        order = p.order;
        high = omega (arith, high);
        begun = omega (arith, begins);
        within = run.within;
        drawn = subst (λ b. AreDrawn b (level_of (row_for levels nums i)) (numbers_from (name_of i) (committed ++ nums))) (sym is)
            (numbers_append (name_of i) committed nums
            ∙ run_more i p.begun
            (drawn_before i own.first is (get levels (name_of i)) refl (if_row intervals levels i are.apart fit among (get levels (name_of i)) refl)
            (agree.right (name_of i))) run);
      }

  -- ---- each name

  right_of : (i : Interval) → Contains intervals i → IfSome (get after_levels (name_of i)) (IsRightLevel (name_of i) (committed ++ nums))
  right_of i among = by_buffer (is_buffered i) refl (takes_it i among)
    where
      row : IfSome (get levels (name_of i)) (IsRowOf i)
      row = if_row intervals levels i are.apart fit among (get levels (name_of i)) refl

      by_buffer : (b : Bool) → is_buffered i ≡ b → TakesAs b (present levels i) nums committed
          → IfSome (get after_levels (name_of i)) (IsRightLevel (name_of i) (committed ++ nums))
      by_buffer true is take =
          subst (λ o. IfSome o (IsRightLevel (name_of i) (committed ++ nums))) (sym (level_kept i among (ap (λ b. not b && has_drawn i nums) is)))
          (buffered_right i take is (get levels (name_of i)) refl row (agree.right (name_of i)))
      by_buffer false is run =
          elim (has_drawn i nums) as (λ b. has_drawn i nums ≡ b → IfSome (get after_levels (name_of i)) (IsRightLevel (name_of i) (committed ++ nums))) [
            | true ↦ λ e.
                subst (λ o. IfSome o (IsRightLevel (name_of i) (committed ++ nums))) (sym (level_set i among (ap (λ b. not b && has_drawn i nums) is ∙ e)))
                (settled_right i among run is)
            | false ↦ λ e.
                subst (λ o. IfSome o (IsRightLevel (name_of i) (committed ++ nums))) (sym (level_kept i among (ap (λ b. not b && has_drawn i nums) is ∙ e)))
                (no_more (name_of i) (get levels (name_of i)) (empty_from i nums (none_drawn i nums e)) (agree.right (name_of i)))
          ] refl

  right_nowhere : (name : RowName) → list_any (is_named name.0 name.1) intervals ≡ false
      → IfSome (get after_levels name) (IsRightLevel name (committed ++ nums))
  right_nowhere name none =
      subst (λ o. IfSome o (IsRightLevel name (committed ++ nums))) (sym (others_kept levels levels nums name intervals none))
      (nothing (get levels name) (fit name))
    where
      nothing : (found : Option Level) → IfSome found (λ l. (i : Interval) × Contains intervals i × (name_of i ≡ name) × IsRowOf i l)
          → IfSome found (IsRightLevel name (committed ++ nums))
      nothing None h = tt
      nothing (Some l) h = absurd (none_named name.0 name.1 intervals h.0 none h.1 h.2)

  right_named : (name : RowName) → IfSome (get after_levels name) (IsRightLevel name (committed ++ nums))
  right_named name = elim (list_any (is_named name.0 name.1) intervals) as
      (λ b. list_any (is_named name.0 name.1) intervals ≡ b → IfSome (get after_levels name) (IsRightLevel name (committed ++ nums))) [
        | true ↦ λ e.
            let found = one_of (is_named name.0 name.1) intervals e in
            subst (λ n. IfSome (get after_levels n) (IsRightLevel n (committed ++ nums))) (named_is name.0 name.1 found.one found.passes)
            (right_of found.one found.among)
        | false ↦ λ e. right_nowhere name e
      ] refl

  -- ---- each number

  some_kept : (name : RowName) → IsSome (get levels name) → IsSome (get after_levels name)
  some_kept name some = elim (list_any (is_named name.0 name.1) intervals)
      as (λ b. list_any (is_named name.0 name.1) intervals ≡ b → IsSome (get after_levels name)) [
        | true ↦ λ e.
            let found = one_of (is_named name.0 name.1) intervals e in
            let same = named_is name.0 name.1 found.one found.passes in
            subst (λ n. IsSome (get after_levels n)) same
            (subst IsSome (sym (own_level levels levels nums found.one intervals are.apart found.among))
            (either (is_settled_by nums (present levels found.one)) (level_of (row_for levels nums found.one)) (get levels (name_of found.one))
            (subst (λ n. IsSome (get levels n)) (sym same) some)))
        | false ↦ λ e. subst IsSome (sym (others_kept levels levels nums name intervals e)) some
      ] refl
    where
      either : (b : Bool) (l : Level) (o : Option Level) → IsSome o → IsSome (cond b (Some l) o)
      either true l o h = refl
      either false l o h = h

  stored_num : (num : Num) → Contains nums num → IsOfOne intervals num → IsSome (get after_levels (interval_of num))
  stored_num num there of =
      let found = one_of_these intervals num of in
      subst (λ n. IsSome (get after_levels n)) found.name
      (by_buffer found.one found.among (is_buffered found.one) refl (takes_it found.one found.among)
      (counts_in (name_of found.one) num nums there (sym found.name)))
    where
      by_buffer : (i : Interval) → Contains intervals i → (b : Bool) → is_buffered i ≡ b → TakesAs b (present levels i) nums committed
          → 1 ≤ times i num.number nums → IsSome (get after_levels (name_of i))
      by_buffer i among true is take some =
          let at = take.inside num.number some in
          let low = at.0 in
          let high = at.1 in
          some_kept (name_of i) (some_level levels i (unused_in intervals i are among).first (omega (arith, low, high)) (get levels (name_of i)) refl)
      by_buffer i among false is run some =
          let most = count_by-le-length (nat_eq num.number) (drawn_from i nums) in
          let many = drawn_length i nums in
          subst IsSome (sym (level_set i among (ap (λ b. not b && has_drawn i nums) is ∙ has_some i nums (omega (arith, some, most, many))))) refl

  abbrev has_row : Num → Type 0
  has_row num = IsSome (get after_levels (interval_of num))

  pub commit_agrees : LevelsAgree after_levels (committed ++ nums)
  commit_agrees = record {
    right = right_named;
    stored = All-from_recursion has_row (committed ++ nums)
        (all_append has_row committed nums
        (all_of (λ num. IsSome (get levels (interval_of num))) has_row (λ num some. some_kept (interval_of num) some) committed
        (recursion_from_All (λ num. IsSome (get levels (interval_of num))) committed agree.stored))
        (all_both (Contains nums) (IsOfOne intervals) has_row stored_num nums (recursion_from_All (Contains nums) nums (All-contains_itself nums)) known));
  }

-- ---- a commit

-- the numbers that a session has drawn may be committed, together with the rows of the intervals without a buffer
pub may_commit : (ledger : Ledger) (ranges : List NumberRange) (before : List (List Num)) (nums : List Num) (after : List (List Num))
    → AreDrawnRight ranges ledger.levels (before ++ nums ∷ after) (numbers_of ledger.units ledger.marks)
    → MayStore ledger (settled_rows ledger.levels ranges nums) nums
may_commit ledger ranges before nums after drawn =
    let committed = numbers_of ledger.units ledger.marks in
    let intervals = intervals_of ranges in
    record {
      digits = All-from_recursion HasNr (settled_rows ledger.levels ranges nums) (rows_numbered ledger.levels nums intervals drawn.intervals.each);
      distinct = rows_distinct ledger.levels nums intervals drawn.intervals.apart;
      agree = commit_agrees intervals ledger.levels committed nums drawn.intervals drawn.fit
          (all_take ledger.levels before nums after committed ranges drawn.each) (all_right (AreOfOne intervals) before (nums ∷ after) drawn.known).0;
    }

-- ---- a level that is raised

module _ (intervals : List Interval) (levels : Levels) (committed : List Num) (i : Interval) (level : ℕ) (are : AreIntervals intervals)
    (fit : FitLevels intervals levels)
    (among : Contains intervals i) (buffered : is_buffered i ≡ true) (higher : level_in levels i ≤ level) (within : level ≤ i.to)
    (agree : LevelsAgree levels committed) where
  abbrev raised : Levels
  raised = with_levels (stored_as (with_level level i) ∷ []) levels

  begins : (name : RowName) → IfSome (get levels name) (λ l. l.from ≤ l.level + 1)
  begins name = begun_of (get levels name) (agree.right name)
    where
      begun_of : (found : Option Level) → IfSome found (IsRightLevel name committed) → IfSome found (λ l. l.from ≤ l.level + 1)
      begun_of None h = tt
      begun_of (Some l) h = h.begun

  raised_drawn : (found : Option Level) → get levels (name_of i) ≡ found → IfSome found (IsRowOf i) → IfSome found (IsRightLevel (name_of i) committed)
      → IsDistinct nat_eq (drawn_from i committed) × All (λ n. (i.from ≤ n) × (n ≤ level)) (drawn_from i committed)
  raised_drawn None has row right =
      let none = none_committed levels committed (name_of i) agree has in
      subst (λ xs. IsDistinct nat_eq xs × All (λ n. (i.from ≤ n) × (n ≤ level)) xs) (sym none)
      (distinct_once [] (λ n. omega arith), All-from_recursion (λ n. (i.from ≤ n) × (n ≤ level)) [] tt)
  raised_drawn (Some l) has row right = as_buffered l.buffered (row.buffered ∙ buffered) right.drawn
    where
      now : level_in levels i ≡ l.level
      now = found_level levels i (Some l) has

      as_buffered : (b : Bool) → b ≡ true → AreDrawn b l (drawn_from i committed) → IsDistinct nat_eq (drawn_from i committed)
          × All (λ n. (i.from ≤ n) × (n ≤ level)) (drawn_from i committed)
      as_buffered false e h = cc
      as_buffered true e h = (
        h.0,
        All-from_recursion (λ n. (i.from ≤ n) × (n ≤ level)) (drawn_from i committed)
            (all_of (λ n. (l.from ≤ n) × (n ≤ l.level)) (λ n. (i.from ≤ n) × (n ≤ level))
            (λ n at. let first = row.first in let low = at.0 in let high = at.1 in (omega (arith, first, low), omega (arith, now, higher, high)))
            (drawn_from i committed) (recursion_from_All (λ n. (l.from ≤ n) × (n ≤ l.level)) (drawn_from i committed) h.1)),
      )

  raised_right : IsRightLevel (name_of i) committed (level_of (stored_as (with_level level i)))
  raised_right =
      let own = unused_in intervals i are among in
      let p = present_fits intervals levels i are fit begins among in
      let high = p.high in
      let low = p.begun in
      record {
        object = own.object;
        nr = own.nr;
        low = p.low;
        order = p.order;
        high = omega (arith, high);
        begun = omega (arith, low, higher);
        within = within;
        drawn = subst (λ b. AreDrawn b (level_of (stored_as (with_level level i))) (drawn_from i committed)) (sym buffered)
            (raised_drawn (get levels (name_of i)) refl (if_row intervals levels i are.apart fit among (get levels (name_of i)) refl)
            (agree.right (name_of i)));
      }

  raised_named : (name : RowName) → IfSome (get raised name) (IsRightLevel name committed)
  raised_named name = elim (same_row name (name_of i)) as (λ b. same_row name (name_of i) ≡ b → IfSome (get raised name) (IsRightLevel name committed)) [
    | true ↦ λ e.
        let same = (same_row-Decides name (name_of i)).0 e in
        subst (λ o. IfSome o (IsRightLevel name committed)) (sym (insert_own (stored_as (with_level level i)) levels name same))
        (subst (λ n. IsRightLevel n committed (level_of (stored_as (with_level level i)))) (sym same) raised_right)
    | false ↦ λ e.
        subst (λ o. IfSome o (IsRightLevel name committed))
        (sym (insert_other (stored_as (with_level level i)) levels name (λ same. true≢false (sym ((same_row-Decides name (name_of i)).1 same) ∙ e))))
        (agree.right name)
  ] refl

  raised_some : (name : RowName) → IsSome (get levels name) → IsSome (get raised name)
  raised_some name some = elim (same_row name (name_of i)) as (λ b. same_row name (name_of i) ≡ b → IsSome (get raised name)) [
    | true ↦ λ e. subst IsSome (sym (insert_own (stored_as (with_level level i)) levels name ((same_row-Decides name (name_of i)).0 e))) refl
    | false ↦ λ e. subst IsSome
        (sym (insert_other (stored_as (with_level level i)) levels name (λ same. true≢false (sym ((same_row-Decides name (name_of i)).1 same) ∙ e)))) some
  ] refl

  raised_agrees : LevelsAgree raised committed
  raised_agrees = record {
    right = raised_named;
    stored = All-from_recursion (λ num. IsSome (get raised (interval_of num))) committed
        (all_of (λ num. IsSome (get levels (interval_of num))) (λ num. IsSome (get raised (interval_of num)))
        (λ num some. raised_some (interval_of num) some) committed
        (recursion_from_All (λ num. IsSome (get levels (interval_of num))) committed agree.stored));
  }

-- a higher level of an interval with a buffer may be stored
pub may_raise : (ledger : Ledger) (intervals : List Interval) (i : Interval) (level : ℕ) → AreIntervals intervals → FitLevels intervals ledger.levels
    → Contains intervals i
    → is_buffered i ≡ true → level_in ledger.levels i ≤ level → level ≤ i.to → MayStore ledger (stored_as (with_level level i) ∷ []) []
unfolding IsDistinct
may_raise ledger intervals i level are fit among buffered higher within =
    let committed = numbers_of ledger.units ledger.marks in
    record {
      digits = All-from_recursion HasNr (stored_as (with_level level i) ∷ []) ((unused_in intervals i are among).nr, tt);
      distinct = (tt, tt);
      agree = λ agree. subst (LevelsAgree (with_levels (stored_as (with_level level i) ∷ []) ledger.levels)) (sym (append_none committed))
          (raised_agrees intervals ledger.levels committed i level are fit among buffered higher within agree);
    }
