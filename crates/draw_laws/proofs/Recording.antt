-- What sessions have drawn stays right as levels are raised and as draws are committed.
use Rattle.std.proofs.Common.{◌≡◌, ℕ, ◌+◌, ◌≤◌, Bool, true, false, cond, not, ◌&&◌, List, [], ◌∷◌, ◌++◌, Some, IfSome, refl, sym, ap, subst, ◌∙◌, arith}
use Rattle.std.specs.Prelude.{Contains, count_by, sum_by}
use Rattle.std.specs.FinMap.{get}
use Rattle.std.specs.List.{AllByRecursion, list_any, range_with_len}
use Rattle.std.specs.Option.{option_map_or}
use Rattle.std.proofs.lemmas.List.Elements.{All-contains, All-from_recursion}
use Rattle.enq_base.specs.declared.unit.Num.{Num}
use Rattle.module_effects.specs.Rows.{RowName}
use Rattle.number_ranges.specs.Intervals.{is_buffered, is_named, with_level}
use Rattle.number_ranges.specs.declared.interval.Interval.{Interval}
use Rattle.ledger_steps.specs.Intervals.{with_levels}
use Rattle.update_records.specs.Intervals.{level_of}
use Rattle.update_records.specs.Ledger.{Levels}
use Rattle.update_records.specs.RecordRows.{Level}
use Rattle.ledger_steps.specs.Drawn.{AreDrawnRight, AreOfOne, IsDrawnAs, IsDrawnBuffered, IsDrawnPlain, IsDrawnRight, IsRun, drawn_of, has_drawn, is_settled_by}
use Rattle.ledger_steps.specs.Drawn.{settled_rows, stored_as, times, times_given}
use Rattle.ledger_steps.specs.Levels.{FitLevels, IsRowOf, intervals_of, level_in, name_of, present}
use Rattle.ledger_steps.specs.declared.range.NumberRange.{NumberRange}
use Rattle.draw_laws.proofs.Counting.{all_append, all_of, all_right, bit, none_counted}
use Rattle.draw_laws.proofs.Drawing.{all_with, by_name, count_split, each_as, interval_among, sum_split}
use Rattle.draw_laws.proofs.FittingLevels.{found_level, level_fits, one_of}
use Rattle.draw_laws.proofs.IntervalNames.{named_is, one_interval}
use Rattle.draw_laws.proofs.OwnNumbers.{empty_from, none_drawn, times_append}
use Rattle.draw_laws.proofs.SettledRows.{insert_other, insert_own, others_kept, own_level, row_for}
use Rattle.draw_laws.proofs.StoredDraws.{Takes, TakesAs, all_take}

-- an interval whose row is the same has the same level
same_level : (old new : Levels) (i : Interval) → get new (name_of i) ≡ get old (name_of i) → level_in new i ≡ level_in old i
same_level old new i same = ap (λ o. option_map_or (λ (l : Level). l.level) o i.level) same

-- what is said of an interval with one level is said of it with another that is the same
at_level : (i : Interval) (next : ℕ) (draws : List (List Num)) (committed : List Num) (a b : ℕ) → a ≡ b
    → IsDrawnAs (is_buffered i) (with_level a i) next draws committed → IsDrawnAs (is_buffered i) (with_level b i) next draws committed
at_level i next draws committed a b same = subst (λ n. IsDrawnAs (is_buffered i) (with_level n i) next draws committed) same

abbrev Row : List Interval → RowName → Level → Type 0
Row intervals name l = (i : Interval) × Contains intervals i × (name_of i ≡ name) × IsRowOf i l

-- ---- a level that is raised

module _ (ranges : List NumberRange) (levels : Levels) (draws : List (List Num)) (committed : List Num) (i : Interval) (level : ℕ)
    (among : Contains (intervals_of ranges) i) (is : is_buffered i ≡ true) (higher : level_in levels i ≤ level) (within : level ≤ i.to)
    (h : AreDrawnRight ranges levels draws committed) where
  abbrev higher_levels : Levels
  higher_levels = with_levels (stored_as (with_level level i) ∷ []) levels

  own_at : get higher_levels (name_of i) ≡ Some (level_of (stored_as (with_level level i)))
  own_at = insert_own (stored_as (with_level level i)) levels (name_of i) refl

  other_at : (name : RowName) → (name_of i ≡ name → ⊥) → get higher_levels name ≡ get levels name
  other_at name apart = insert_other (stored_as (with_level level i)) levels name (λ same. apart (sym same))

  abbrev RaisedStep : Interval → Type 0
  RaisedStep j = (given : ℕ) → IsDrawnAs (is_buffered j) (present levels j) given draws committed
      → IsDrawnAs (is_buffered j) (present higher_levels j) given draws committed

  raised_own : RaisedStep i
  raised_own given old =
      at_level i given draws committed level (level_in higher_levels i)
      (sym (found_level higher_levels i (Some (level_of (stored_as (with_level level i)))) own_at))
      (subst (λ b. IsDrawnAs b (present levels i) given draws committed → IsDrawnAs b (with_level level i) given draws committed) (sym is)
      (λ d. record { once = d.once; inside = d.inside; low = d.low; high = let high = d.high in omega (arith, high, higher) }) old)

  raised_step : (r : NumberRange) → Contains ranges r → IsDrawnRight levels draws committed r → IsDrawnRight higher_levels draws committed r
  raised_step r there = by_name (name_of i) (name_of r.interval)
      (λ same. subst RaisedStep (one_interval (intervals_of ranges) i r.interval h.intervals.apart among (interval_among ranges r there) same) raised_own
      r.next)
      (λ apart. at_level r.interval r.next draws committed (level_in levels r.interval) (level_in higher_levels r.interval)
      (sym (same_level levels higher_levels r.interval (other_at (name_of r.interval) apart))))

  raised_fit : FitLevels (intervals_of ranges) higher_levels
  raised_fit name = by_name (name_of i) name
      (λ same. subst (λ n. IfSome (get higher_levels n) (Row (intervals_of ranges) n)) same
      (subst (λ o. IfSome o (Row (intervals_of ranges) (name_of i))) (sym own_at) (i, among, refl, record { first = refl; buffered = refl; within = within })))
      (λ apart. subst (λ o. IfSome o (Row (intervals_of ranges) name)) (sym (other_at name apart)) (h.fit name))

  -- a higher level of an interval with a buffer
  pub raised_drawn : AreDrawnRight ranges (with_levels (stored_as (with_level level i) ∷ []) levels) draws committed
  raised_drawn = record {
    intervals = h.intervals;
    fit = raised_fit;
    each = each_as (IsDrawnRight levels draws committed) (IsDrawnRight higher_levels draws committed) ranges raised_step h.each;
    known = h.known;
  }

-- ---- a commit

module _ (ranges : List NumberRange) (levels : Levels) (before : List (List Num)) (nums : List Num) (after : List (List Num)) (committed : List Num)
    (h : AreDrawnRight ranges levels (before ++ nums ∷ after) committed) where
  abbrev settled : Levels
  settled = with_levels (settled_rows levels ranges nums) levels

  level_of_own : (i : Interval) → Contains (intervals_of ranges) i → get settled (name_of i) ≡ cond (is_settled_by nums (present levels i))
      (Some (level_of (row_for levels nums i))) (get levels (name_of i))
  level_of_own i among = own_level levels levels nums i (intervals_of ranges) h.intervals.apart among

  kept_level : (i : Interval) → Contains (intervals_of ranges) i → is_settled_by nums (present levels i) ≡ false → level_in settled i ≡ level_in levels i
  kept_level i among none =
      same_level levels settled i (level_of_own i among ∙ ap (λ b. cond b (Some (level_of (row_for levels nums i))) (get levels (name_of i))) none)

  settled_level : (i : Interval) → Contains (intervals_of ranges) i → is_settled_by nums (present levels i) ≡ true
      → level_in settled i ≡ level_in levels i + drawn_of i nums
  settled_level i among some =
      found_level settled i (Some (level_of (row_for levels nums i)))
      (level_of_own i among ∙ ap (λ b. cond b (Some (level_of (row_for levels nums i))) (get levels (name_of i))) some)

  -- with a buffer: what was the session's is committed
  buffered_kept : (i : Interval) (next : ℕ) → IsDrawnBuffered i next (before ++ nums ∷ after) committed
      → IsDrawnBuffered i next (before ++ [] ∷ after) (committed ++ nums)
  buffered_kept i next d = record {
    once = λ n. let same = total n in let most = d.once n in omega (arith, same, most);
    inside = λ n some. let same = total n in d.inside n (omega (arith, same, some));
    low = d.low;
    high = d.high;
  }
    where
      total : (n : ℕ) → times_given i (before ++ [] ∷ after) (committed ++ nums) n ≡ times_given i (before ++ nums ∷ after) committed n
      total n =
          let a = sum_split (times i n) before nums after in
          let b : sum_by (times i n) (before ++ [] ∷ after) ≡ sum_by (times i n) before + (0 + sum_by (times i n) after) =
          sum_split (times i n) before [] after in
          let c = times_append i n committed nums in
          omega (arith, a, b, c)

  -- without a buffer, and none of its numbers committed
  none_committed_now : (i : Interval) → i.level ≤ i.to → IsDrawnPlain i (before ++ nums ∷ after) → IsDrawnPlain i (before ++ [] ∷ after)
  none_committed_now i inside d =
      let a = count_split (has_drawn i) before nums after in
      let b : count_by (has_drawn i) (before ++ [] ∷ after) ≡ count_by (has_drawn i) before + (0 + count_by (has_drawn i) after) =
      count_split (has_drawn i) before [] after in
      let most = d.sole in
      record {
        begun = d.begun;
        sole = omega (arith, a, b, most);
        runs = all_with (IsRun i) before nums [] after (λ _. record { follows = refl; within = omega (arith, inside) }) d.runs;
      }

  no_draws : (i : Interval) (xs : List (List Num)) → count_by (has_drawn i) xs ≡ 0 → AllByRecursion (λ x. drawn_of i x ≡ 0) xs
  no_draws i xs none = all_of (λ x. has_drawn i x ≡ false) (λ x. drawn_of i x ≡ 0) (none_drawn i) xs (none_counted (has_drawn i) xs none)

  -- without a buffer, and the last of its numbers is the level now
  committed_now : (i : Interval) (level : ℕ) → level ≡ i.level + drawn_of i nums → has_drawn i nums ≡ true → IsDrawnPlain i (before ++ nums ∷ after)
      → IsDrawnPlain (with_level level i) (before ++ [] ∷ after)
  committed_now i level is some d =
      let whole = count_split (has_drawn i) before nums after in
      let one : bit (has_drawn i nums) ≡ 1 = ap bit some in
      let most = d.sole in
      let front : count_by (has_drawn i) before ≡ 0 = omega (arith, whole, one, most) in
      let back : count_by (has_drawn i) after ≡ 0 = omega (arith, whole, one, most) in
      let now : count_by (has_drawn i) (before ++ [] ∷ after) ≡ count_by (has_drawn i) before + (0 + count_by (has_drawn i) after) =
      count_split (has_drawn i) before [] after in
      let begins = d.begun in
      let run = (all_right (IsRun i) before (nums ∷ after) d.runs).0 in
      let inside = run.within in
      let high : level ≤ i.to = omega (arith, is, inside) in
      let without = λ (x : List Num). drawn_of i x ≡ 0 in
      record {
        begun = omega (arith, is, begins);
        sole = omega (arith, now, front, back);
        runs = all_of without (IsRun (with_level level i)) (idle high) (before ++ [] ∷ after)
            (all_append without before ([] ∷ after) (no_draws i before front) (refl, no_draws i after back));
      }
    where
      idle : level ≤ i.to → (x : List Num) → drawn_of i x ≡ 0 → IsRun (with_level level i) x
      idle high x none = record {
        follows = empty_from i x none ∙ ap (range_with_len (level + 1)) (sym none);
        within = omega (arith, high, none);
      }

  abbrev CommitStep : Interval → Type 0
  CommitStep i = (given : ℕ) → IsDrawnAs (is_buffered i) (present levels i) given (before ++ nums ∷ after) committed
      → IsDrawnAs (is_buffered i) (present settled i) given (before ++ [] ∷ after) (committed ++ nums)

  commit_own : (i : Interval) → Contains (intervals_of ranges) i → CommitStep i
  commit_own i among given = by_buffer (is_buffered i) refl
    where
      by_buffer : (b : Bool) → is_buffered i ≡ b → IsDrawnAs b (present levels i) given (before ++ nums ∷ after) committed
          → IsDrawnAs b (present settled i) given (before ++ [] ∷ after) (committed ++ nums)
      by_buffer true is d =
          let same = kept_level i among (ap (λ b. not b && has_drawn i nums) is) in
          subst (λ n. IsDrawnBuffered (with_level n i) given (before ++ [] ∷ after) (committed ++ nums)) (sym same) (buffered_kept (present levels i) given d)
      by_buffer false is d = elim (has_drawn i nums) as (λ b. has_drawn i nums ≡ b → IsDrawnPlain (present settled i) (before ++ [] ∷ after)) [
        | true ↦ λ e.
            committed_now (present levels i) (level_in settled i) (settled_level i among (ap (λ b. not b && has_drawn i nums) is ∙ e)) e d
        | false ↦ λ e.
            let same = kept_level i among (ap (λ b. not b && has_drawn i nums) is ∙ e) in
            subst (λ n. IsDrawnPlain (with_level n i) (before ++ [] ∷ after)) (sym same)
            (none_committed_now (present levels i) (level_fits (intervals_of ranges) levels i h.intervals h.fit among) d)
      ] refl

  -- ---- the stored levels

  takes_of : (i : Interval) → Contains (intervals_of ranges) i → Takes levels nums committed i
  takes_of i among =
      All-contains (Takes levels nums committed) (intervals_of ranges) i
      (All-from_recursion (Takes levels nums committed) (intervals_of ranges) (all_take levels before nums after committed ranges h.each)) among

  fit_of : (i : Interval) → Contains (intervals_of ranges) i → IfSome (get settled (name_of i)) (Row (intervals_of ranges) (name_of i))
  fit_of i among =
      subst (λ o. IfSome o (Row (intervals_of ranges) (name_of i))) (sym (level_of_own i among))
      (by_buffer (is_buffered i) (has_drawn i nums) refl (takes_of i among))
    where
      by_buffer : (b c : Bool) → is_buffered i ≡ b → TakesAs b (present levels i) nums committed
          → IfSome (cond (not b && c) (Some (level_of (row_for levels nums i))) (get levels (name_of i))) (Row (intervals_of ranges) (name_of i))
      by_buffer true c is take = h.fit (name_of i)
      by_buffer false true is run = (i, among, refl, record { first = refl; buffered = refl; within = run.within })
      by_buffer false false is run = h.fit (name_of i)

  commit_fit : FitLevels (intervals_of ranges) settled
  commit_fit name = elim (list_any (is_named name.0 name.1) (intervals_of ranges))
      as (λ b. list_any (is_named name.0 name.1) (intervals_of ranges) ≡ b → IfSome (get settled name) (Row (intervals_of ranges) name)) [
        | true ↦ λ e.
            let found = one_of (is_named name.0 name.1) (intervals_of ranges) e in
            subst (λ n. IfSome (get settled n) (Row (intervals_of ranges) n)) (named_is name.0 name.1 found.one found.passes) (fit_of found.one found.among)
        | false ↦ λ e. subst (λ o. IfSome o (Row (intervals_of ranges) name)) (sym (others_kept levels levels nums name (intervals_of ranges) e)) (h.fit name)
      ] refl

  -- a session's draws are committed: the units have them now, and the levels reach them
  pub commit_drawn : AreDrawnRight ranges (with_levels (settled_rows levels ranges nums) levels) (before ++ [] ∷ after) (committed ++ nums)
  commit_drawn = record {
    intervals = h.intervals;
    fit = commit_fit;
    each = each_as (IsDrawnRight levels (before ++ nums ∷ after) committed) (IsDrawnRight settled (before ++ [] ∷ after) (committed ++ nums)) ranges
        (λ r there. commit_own r.interval (interval_among ranges r there) r.next) h.each;
    known = all_with (AreOfOne (intervals_of ranges)) before nums [] after (λ _. tt) h.known;
  }
