-- The same laws over sessions that each have draws, where the first that passes a test is changed.
use Rattle.std.proofs.Common.{◌≡◌, ℕ, ◌+◌, ◌≤◌, Bool, true, false, cond, not, ◌&&◌, ◌||◌, List, [], ◌∷◌, ◌++◌, map, Some, None, refl, sym, ap, subst, ◌∙◌, arith}
use Rattle.std.specs.Prelude.{Contains, count_by}
use Rattle.std.specs.List.{All, AllByRecursion, find, list_any}
use Rattle.std.proofs.lemmas.List.{map-append}
use Rattle.enq_base.specs.declared.unit.Num.{Num}
use Rattle.lock_entry.specs.Freeing.{replace_first}
use Rattle.number_ranges.specs.Intervals.{is_buffered}
use Rattle.number_ranges.specs.declared.interval.Interval.{Interval}
use Rattle.ledger_steps.specs.Intervals.{MayStore, with_levels}
use Rattle.update_records.specs.Business.{numbers_of}
use Rattle.update_records.specs.Grammar.{HasDigits, IsNr}
use Rattle.update_records.specs.Ledger.{Ledger, Levels}
use Rattle.ledger_steps.specs.Drawn.{AreDrawnRight, AreOfOne, IsOfOne, IsStock, drawn_of, handed_out, has_drawn, num_of, passed, settled_rows}
use Rattle.ledger_steps.specs.Levels.{AreIntervals, intervals_of, level_in, present}
use Rattle.ledger_steps.specs.declared.range.NumberRange.{NumberRange}
use Rattle.draw_laws.proofs.FittingLevels.{unused_in}
use Rattle.draw_laws.proofs.OwnNumbers.{one_of_these}
use Rattle.draw_laws.proofs.StoredDraws.{Takes, TakesAs, all_take, may_commit}
use Rattle.module_effects.specs.Rows.{RowName}
use Rattle.std.proofs.lemmas.List.Elements.{All-contains, All-from_recursion}
use Rattle.draw_laws.proofs.Counting.{all_of, all_right, bit, count_append, count_cons}
use Rattle.draw_laws.proofs.Drawing.{buffered_drawn, plain_drawn}
use Rattle.draw_laws.proofs.Recording.{commit_drawn}
use Rattle.draw_laws.proofs.HandedOut.{passed_intervals}
use Rattle.draw_laws.proofs.SessionDraws.{fewer_drawn, fewer_given_back}
use Rattle.draw_laws.proofs.Stocks.{settled_passed, stock_drawn}

none_of_bit : (b : Bool) → bit b ≡ 0 → b ≡ false
none_of_bit true h = cc
none_of_bit false h = refl

has_digits : (intervals : List Interval) → AreIntervals intervals → (num : Num) → IsOfOne intervals num → HasDigits num
has_digits intervals are num of =
    let found = one_of_these intervals num of in
    subst (λ (name : RowName). IsNr name.1) found.name (unused_in intervals found.one are found.among).nr

module _ {S : Type 0} where
  -- where the first that passes stands
  pub record IsSplit (test : S → Bool) (change : S → S) (sessions : List S) (x : S) : Type 0 where
    pub before : List S
    pub after : List S
    pub whole : sessions ≡ before ++ x ∷ after
    pub passes : test x ≡ true
    pub changed : replace_first test (λ s. change s ∷ []) sessions ≡ before ++ change x ∷ after

  pub split_at : (test : S → Bool) (change : S → S) (sessions : List S) (x : S) → find test sessions ≡ Some x → IsSplit test change sessions x
  split_at test change [] x h = cc
  split_at test change (s ∷ sessions) x h =
      elim (test s) as (λ b. test s ≡ b → cond b (Some s) (find test sessions) ≡ Some x → IsSplit test change (s ∷ sessions) x) [
        | true ↦ λ e is.
            let same : s ≡ x = cc in
            record {
              before = [];
              after = sessions;
              whole = ap (λ y. y ∷ sessions) same;
              passes = ap test (sym same) ∙ e;
              changed = ap (λ b. cond b (change s ∷ sessions) (s ∷ replace_first test (λ y. change y ∷ []) sessions)) e ∙ ap (λ y. change y ∷ sessions) same;
            }
        | false ↦ λ e is.
            let r = split_at test change sessions x is in
            record {
              before = s ∷ r.before;
              after = r.after;
              whole = ap (λ ys. s ∷ ys) r.whole;
              passes = r.passes;
              changed = ap (λ b. cond b (change s ∷ sessions) (s ∷ replace_first test (λ y. change y ∷ []) sessions)) e ∙ ap (λ ys. s ∷ ys) r.changed;
            }
      ] refl h

  none_found : (p : S → Bool) (before : List S) (x : S) (after : List S) → find p (before ++ x ∷ after) ≡ None → (find p before ≡ None) × (find p after ≡ None)
  none_found p [] x after h = (refl, later (p x) h)
    where
      later : (b : Bool) → cond b (Some x) (find p after) ≡ None → find p after ≡ None
      later true e = cc
      later false e = e
  none_found p (s ∷ before) x after h = by (p s) h (λ e. none_found p before x after e)
    where
      by : (b : Bool) → cond b (Some s) (find p (before ++ x ∷ after)) ≡ None
          → (find p (before ++ x ∷ after) ≡ None → (find p before ≡ None) × (find p after ≡ None))
          → (cond b (Some s) (find p before) ≡ None) × (find p after ≡ None)
      by true e f = cc
      by false e f = f e

  -- where none but those that pass has something, and none of these does, nobody has
  none_beside : (draws_of : S → List Num) (test : S → Bool) (i : Interval) (sessions : List S) → count_by test sessions ≡ 0
      → find (λ s. not (test s) && has_drawn i (draws_of s)) sessions ≡ None
      → list_any (has_drawn i) (map draws_of sessions) ≡ false
  none_beside draws_of test i [] none h = refl
  none_beside draws_of test i (s ∷ sessions) none h =
      let whole = count_cons test s sessions in
      let here : bit (test s) ≡ 0 = omega (arith, whole, none) in
      let rest : count_by test sessions ≡ 0 = omega (arith, whole, none) in
      by (test s) (has_drawn i (draws_of s)) (none_of_bit (test s) here) h (λ e. none_beside draws_of test i sessions rest e)
    where
      by : (b c : Bool) → b ≡ false → cond (not b && c) (Some s) (find (λ y. not (test y) && has_drawn i (draws_of y)) sessions) ≡ None
          → (find (λ y. not (test y) && has_drawn i (draws_of y)) sessions ≡ None → list_any (has_drawn i) (map draws_of sessions) ≡ false)
          → (c || list_any (has_drawn i) (map draws_of sessions)) ≡ false
      by true c e is f = cc
      by false true e is f = cc
      by false false e is f = f is

  others_count : (test : S → Bool) (change : S → S) (sessions : List S) (x : S) (r : IsSplit test change sessions x) → count_by test sessions ≤ 1
      → (count_by test r.before ≡ 0) × (count_by test r.after ≡ 0)
  others_count test change sessions x r one =
      let all : count_by test sessions ≡ count_by test r.before + (bit (test x) + count_by test r.after) =
      ap (count_by test) r.whole ∙ count_append test r.before (x ∷ r.after) ∙ ap (λ n. count_by test r.before + n) (count_cons test x r.after) in
      let here : bit (test x) ≡ 1 = ap bit r.passes in
      (omega (arith, all, here, one), omega (arith, all, here, one))

module _ {S : Type 0} (draws_of : S → List Num) (test : S → Bool) (change : S → S) (sessions : List S) (x : S) (found : find test sessions ≡ Some x) where
  abbrev now : List S
  now = replace_first test (λ s. change s ∷ []) sessions

  abbrev split : IsSplit test change sessions x
  split = split_at test change sessions x found

  draws_before : map draws_of sessions ≡ map draws_of split.before ++ draws_of x ∷ map draws_of split.after
  draws_before = ap (map draws_of) split.whole ∙ map-append draws_of split.before (x ∷ split.after)

  draws_now : (own : List Num) → draws_of (change x) ≡ own → map draws_of now ≡ map draws_of split.before ++ own ∷ map draws_of split.after
  draws_now own is = ap (map draws_of) split.changed ∙ map-append draws_of split.before (change x ∷ split.after)
      ∙ ap (λ ds. map draws_of split.before ++ ds ∷ map draws_of split.after) is

  -- it gives back what it drew
  pub session_gives_back : (ranges : List NumberRange) (levels : Levels) (committed : List Num) → draws_of (change x) ≡ []
      → AreDrawnRight ranges levels (map draws_of sessions) committed → AreDrawnRight ranges levels (map draws_of now) committed
  session_gives_back ranges levels committed none h =
      subst (λ ds. AreDrawnRight ranges levels ds committed) (sym (draws_now [] none))
      (fewer_drawn ranges levels (map draws_of split.before ++ draws_of x ∷ map draws_of split.after)
      (map draws_of split.before ++ [] ∷ map draws_of split.after) committed
      (fewer_given_back (map draws_of split.before) (draws_of x) (map draws_of split.after))
      (subst (λ ds. AreDrawnRight ranges levels ds committed) draws_before h))

  -- it draws a number of an interval without a buffer, from which no other session has drawn
  pub session_draws_plain : (ranges : List NumberRange) (levels : Levels) (committed : List Num) (i : Interval) (number : ℕ) → Contains (intervals_of ranges) i
      → is_buffered i ≡ false
      → count_by test sessions ≤ 1 → find (λ s. not (test s) && has_drawn i (draws_of s)) sessions ≡ None
      → number ≡ level_in levels i + drawn_of i (draws_of x) + 1 → number ≤ i.to → draws_of (change x) ≡ draws_of x ++ num_of i number ∷ []
      → AreDrawnRight ranges levels (map draws_of sessions) committed → AreDrawnRight ranges levels (map draws_of now) committed
  session_draws_plain ranges levels committed i number among is one nobody next within more h =
      let none = none_found (λ s. not (test s) && has_drawn i (draws_of s)) split.before x split.after
      (ap (find (λ s. not (test s) && has_drawn i (draws_of s))) (sym split.whole) ∙ nobody) in
      let others = others_count test change sessions x split one in
      subst (λ ds. AreDrawnRight ranges levels ds committed) (sym (draws_now (draws_of x ++ num_of i number ∷ []) more))
      (plain_drawn ranges levels (map draws_of split.before) (draws_of x) (map draws_of split.after) committed i number among is
      (none_beside draws_of test i split.before others.0 none.0) (none_beside draws_of test i split.after others.1 none.1) next within
      (subst (λ ds. AreDrawnRight ranges levels ds committed) draws_before h))

  -- it takes the next number of an interval out of memory
  pub session_draws_buffered : (ranges : List NumberRange) (levels : Levels) (committed : List Num) (r : NumberRange) → Contains ranges r
      → is_buffered r.interval ≡ true → r.next ≤ level_in levels r.interval
      → draws_of (change x) ≡ draws_of x ++ num_of r.interval r.next ∷ []
      → AreDrawnRight ranges levels (map draws_of sessions) committed → AreDrawnRight (handed_out r.interval ranges) levels (map draws_of now) committed
  session_draws_buffered ranges levels committed r among is reserved more h =
      subst (λ ds. AreDrawnRight (handed_out r.interval ranges) levels ds committed) (sym (draws_now (draws_of x ++ num_of r.interval r.next ∷ []) more))
      (buffered_drawn ranges levels (map draws_of split.before) (draws_of x) (map draws_of split.after) committed r among is reserved
      (subst (λ ds. AreDrawnRight ranges levels ds committed) draws_before h))

  -- its numbers are committed
  pub session_commits : (ranges : List NumberRange) (levels : Levels) (committed : List Num) → draws_of (change x) ≡ []
      → AreDrawnRight ranges levels (map draws_of sessions) committed
      → AreDrawnRight ranges (with_levels (settled_rows levels ranges (draws_of x)) levels) (map draws_of now) (committed ++ draws_of x)
  session_commits ranges levels committed none h =
      subst (λ ds. AreDrawnRight ranges (with_levels (settled_rows levels ranges (draws_of x)) levels) ds (committed ++ draws_of x)) (sym (draws_now [] none))
      (commit_drawn ranges levels (map draws_of split.before) (draws_of x) (map draws_of split.after) committed
      (subst (λ ds. AreDrawnRight ranges levels ds committed) draws_before h))

  -- and they may be
  pub session_may_commit : (ledger : Ledger) (ranges : List NumberRange)
      → AreDrawnRight ranges ledger.levels (map draws_of sessions) (numbers_of ledger.units ledger.marks)
      → MayStore ledger (settled_rows ledger.levels ranges (draws_of x)) (draws_of x)
  session_may_commit ledger ranges h =
      may_commit ledger ranges (map draws_of split.before) (draws_of x) (map draws_of split.after)
      (subst (λ ds. AreDrawnRight ranges ledger.levels ds (numbers_of ledger.units ledger.marks)) draws_before h)

  -- its numbers have two digits for their intervals
  pub session_has_digits : (ranges : List NumberRange) (levels : Levels) (committed : List Num) → AreDrawnRight ranges levels (map draws_of sessions) committed
      → All HasDigits (draws_of x)
  session_has_digits ranges levels committed h =
      let known = subst (AllByRecursion (AreOfOne (intervals_of ranges))) draws_before h.known in
      All-from_recursion HasDigits (draws_of x) (all_of (IsOfOne (intervals_of ranges)) HasDigits (has_digits (intervals_of ranges) h.intervals) (draws_of x)
      (all_right (AreOfOne (intervals_of ranges)) (map draws_of split.before) (draws_of x ∷ map draws_of split.after) known).0)

  -- ---- the same with numbers of a stock behind those that it drew

  module _ (ranges : List NumberRange) (levels : Levels) (committed stock : List Num)
      (fits : IsStock (intervals_of ranges) levels (map draws_of sessions) committed stock)
      (h : AreDrawnRight ranges levels (map draws_of sessions) committed) where
    abbrev numbers : List Num
    numbers = draws_of x ++ stock

    with_stock : AreDrawnRight (passed stock ranges) levels (map draws_of split.before ++ numbers ∷ map draws_of split.after) committed
    with_stock =
        stock_drawn ranges levels (map draws_of split.before) (draws_of x) (map draws_of split.after) committed stock
        (subst (λ ds. IsStock (intervals_of ranges) levels ds committed stock) draws_before fits)
        (subst (λ ds. AreDrawnRight ranges levels ds committed) draws_before h)

    pub session_commits_stock : draws_of (change x) ≡ []
        → AreDrawnRight (passed stock ranges) (with_levels (settled_rows levels ranges numbers) levels) (map draws_of now) (committed ++ numbers)
    session_commits_stock none =
        subst (λ rows. AreDrawnRight (passed stock ranges) (with_levels rows levels) (map draws_of now) (committed ++ numbers))
        (settled_passed levels ranges stock numbers)
        (subst (λ ds. AreDrawnRight (passed stock ranges) (with_levels (settled_rows levels (passed stock ranges) numbers) levels) ds (committed ++ numbers))
        (sym (draws_now [] none))
        (commit_drawn (passed stock ranges) levels (map draws_of split.before) numbers (map draws_of split.after) committed with_stock))

    -- they don't pass the end of an interval without a buffer
    pub session_stock_fits : (i : Interval) → Contains (intervals_of ranges) i → is_buffered i ≡ false
        → level_in levels i + drawn_of (present levels i) numbers ≤ i.to
    session_stock_fits i among plain =
        let takes = subst (AllByRecursion (Takes levels numbers committed)) (passed_intervals stock ranges)
        (all_take levels (map draws_of split.before) numbers (map draws_of split.after) committed (passed stock ranges) with_stock.each) in
        run_of (is_buffered i) plain
        (All-contains (Takes levels numbers committed) (intervals_of ranges) i
        (All-from_recursion (Takes levels numbers committed) (intervals_of ranges) takes) among)
      where
        run_of : (b : Bool) → b ≡ false → TakesAs b (present levels i) numbers committed → level_in levels i + drawn_of (present levels i) numbers ≤ i.to
        run_of true e take = cc
        run_of false e run = run.within

    pub session_stock_digits : All HasDigits numbers
    session_stock_digits =
        All-from_recursion HasDigits numbers
        (all_of (IsOfOne (intervals_of (passed stock ranges))) HasDigits (has_digits (intervals_of (passed stock ranges)) with_stock.intervals) numbers
        (all_right (AreOfOne (intervals_of (passed stock ranges))) (map draws_of split.before) (numbers ∷ map draws_of split.after) with_stock.known).0)

  pub session_may_commit_stock : (ledger : Ledger) (ranges : List NumberRange) (stock : List Num)
      → IsStock (intervals_of ranges) ledger.levels (map draws_of sessions) (numbers_of ledger.units ledger.marks) stock
      → AreDrawnRight ranges ledger.levels (map draws_of sessions) (numbers_of ledger.units ledger.marks)
      → MayStore ledger (settled_rows ledger.levels ranges (draws_of x ++ stock)) (draws_of x ++ stock)
  session_may_commit_stock ledger ranges stock fits h =
      subst (λ rows. MayStore ledger rows (draws_of x ++ stock)) (settled_passed ledger.levels ranges stock (draws_of x ++ stock))
      (may_commit ledger (passed stock ranges) (map draws_of split.before) (draws_of x ++ stock) (map draws_of split.after)
      (with_stock ranges ledger.levels (numbers_of ledger.units ledger.marks) stock fits h))
