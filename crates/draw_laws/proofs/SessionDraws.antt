-- What sessions have drawn stays right: at the start, and as sessions come, go and give back what they drew.
use Rattle.std.proofs.Common.{◌≡◌, ℕ, ◌+◌, ◌≤◌, Bool, true, false, cond, nat_eq, List, [], ◌∷◌, ◌++◌, map, Option, Some, None, IfSome, refl, sym, ap, subst, ◌∙◌, arith}
use Rattle.std.specs.Prelude.{Contains, count_by, sum_by}
use Rattle.std.specs.FinMap.{get}
use Rattle.std.specs.List.{AllByRecursion, IsDistinct, filter}
use Rattle.std.proofs.lemmas.List.Elements.{recursion_from_All}
use Rattle.std.proofs.lemmas.List.Sums.{sum_by-cons}
use Rattle.enq_base.specs.declared.unit.Num.{Num}
use Rattle.number_ranges.specs.Intervals.{is_buffered}
use Rattle.number_ranges.specs.declared.interval.Interval.{Interval}
use Rattle.update_records.specs.Ledger.{AreDrawn, IsRightLevel, Levels, LevelsAgree}
use Rattle.update_records.specs.RecordRows.{Level}
use Rattle.ledger_steps.specs.Drawn.{AreDrawnRight, AreOfOne, IsDrawnAs, IsDrawnRight, IsRun, drawn_from, has_drawn, times}
use Rattle.ledger_steps.specs.Levels.{AreIntervals, FitLevels, IsRowOf, first_ranges, intervals_of, level_in, name_of, present}
use Rattle.ledger_steps.specs.declared.range.NumberRange.{NumberRange}
use Rattle.draw_laws.proofs.Counting.{bit, count_cons, counted_all, once_each}
use Rattle.draw_laws.proofs.FittingLevels.{found_level, if_row, level_fits, unused_in}
use Rattle.draw_laws.proofs.IntervalNames.{contains_first, contains_more}
use Rattle.draw_laws.proofs.StartedRanges.{first_intervals}
use Rattle.draw_laws.proofs.StoredDraws.{none_committed}

-- ---- draws of fewer sessions, or of sessions that gave theirs back

-- the new lists are some of the old ones, and lists without numbers
pub record AreFewer (old new : List (List Num)) : Type 0 where
  pub holders : (i : Interval) → count_by (has_drawn i) new ≤ count_by (has_drawn i) old
  pub given : (i : Interval) (number : ℕ) → sum_by (times i number) new ≤ sum_by (times i number) old
  pub runs : (i : Interval) → i.level ≤ i.to → AllByRecursion (IsRun i) old → AllByRecursion (IsRun i) new
  pub known : (intervals : List Interval) → AllByRecursion (AreOfOne intervals) old → AllByRecursion (AreOfOne intervals) new

pub fewer_none : AreFewer [] []
fewer_none = record { holders = λ i. omega arith; given = λ i n. omega arith; runs = λ i within h. tt; known = λ is h. tt }

pub fewer_same : (x : List Num) (old new : List (List Num)) → AreFewer old new → AreFewer (x ∷ old) (x ∷ new)
fewer_same x old new f = record {
  holders = λ i. let a = count_cons (has_drawn i) x old in let b = count_cons (has_drawn i) x new in let h = f.holders i in omega (arith, a, b, h);
  given = λ i n. let a = sum_by-cons (times i n) x old in let b = sum_by-cons (times i n) x new in let h = f.given i n in omega (arith, a, b, h);
  runs = λ i within h. (h.0, f.runs i within h.1);
  known = λ is h. (h.0, f.known is h.1);
}

pub fewer_gone : (x : List Num) (old new : List (List Num)) → AreFewer old new → AreFewer (x ∷ old) new
fewer_gone x old new f = record {
  holders = λ i. let a = count_cons (has_drawn i) x old in let h = f.holders i in omega (arith, a, h);
  given = λ i n. let a = sum_by-cons (times i n) x old in let h = f.given i n in omega (arith, a, h);
  runs = λ i within h. f.runs i within h.1;
  known = λ is h. f.known is h.1;
}

no_run : (i : Interval) → i.level ≤ i.to → IsRun i []
no_run i within = record { follows = refl; within = omega (arith, within) }

pub fewer_new : (old new : List (List Num)) → AreFewer old new → AreFewer old ([] ∷ new)
fewer_new old new f = record {
  holders = λ i. let a : count_by (has_drawn i) ([] ∷ new) ≡ 0 + count_by (has_drawn i) new = count_cons (has_drawn i) [] new in let h = f.holders i in
      omega (arith, a, h);
  given = λ i n. let a : sum_by (times i n) ([] ∷ new) ≡ 0 + sum_by (times i n) new = sum_by-cons (times i n) [] new in let h = f.given i n in
      omega (arith, a, h);
  runs = λ i within h. (no_run i within, f.runs i within h);
  known = λ is h. (tt, f.known is h);
}

pub fewer_all : (draws : List (List Num)) → AreFewer draws draws
fewer_all [] = fewer_none
fewer_all (x ∷ draws) = fewer_same x draws draws (fewer_all draws)

-- a session more, with no draws
pub fewer_last : (draws : List (List Num)) → AreFewer draws (draws ++ [] ∷ [])
fewer_last [] = fewer_new [] [] fewer_none
fewer_last (x ∷ draws) = fewer_same x draws (draws ++ [] ∷ []) (fewer_last draws)

-- one session's draws are given back
pub fewer_given_back : (before : List (List Num)) (x : List Num) (after : List (List Num)) → AreFewer (before ++ x ∷ after) (before ++ [] ∷ after)
fewer_given_back [] x after = fewer_gone x after ([] ∷ after) (fewer_new after after (fewer_all after))
fewer_given_back (y ∷ before) x after = fewer_same y (before ++ x ∷ after) (before ++ [] ∷ after) (fewer_given_back before x after)

-- one session goes
pub fewer_without : (before : List (List Num)) (x : List Num) (after : List (List Num)) → AreFewer (before ++ x ∷ after) (before ++ after)
fewer_without [] x after = fewer_gone x after after (fewer_all after)
fewer_without (y ∷ before) x after = fewer_same y (before ++ x ∷ after) (before ++ after) (fewer_without before x after)

-- sessions that are left, or that have given back what they drew
module _ {S : Type 0} (draws_of : S → List Num) where
  pub fewer_left : (stays : S → Bool) (sessions : List S) → AreFewer (map draws_of sessions) (map draws_of (filter stays sessions))
  fewer_left stays [] = fewer_none
  fewer_left stays (s ∷ sessions) =
      elim (stays s) as (λ b. AreFewer (map draws_of (s ∷ sessions)) (map draws_of (cond b (s ∷ filter stays sessions) (filter stays sessions)))) [
        | true ↦ fewer_same (draws_of s) (map draws_of sessions) (map draws_of (filter stays sessions)) (fewer_left stays sessions)
        | false ↦ fewer_gone (draws_of s) (map draws_of sessions) (map draws_of (filter stays sessions)) (fewer_left stays sessions)
      ]

fewer_as : (buffered : Bool) (i : Interval) (next : ℕ) (old new : List (List Num)) (committed : List Num) → i.level ≤ i.to → AreFewer old new
    → IsDrawnAs buffered i next old committed → IsDrawnAs buffered i next new committed
fewer_as false i next old new committed within f h =
    let few = f.holders i in
    let most = h.sole in
    record { begun = h.begun; sole = omega (arith, few, most); runs = f.runs i within h.runs }
fewer_as true i next old new committed within f h = record {
  once = λ n. let few = f.given i n in let most = h.once n in omega (arith, few, most);
  inside = λ n some. let few = f.given i n in h.inside n (omega (arith, few, some));
  low = h.low;
  high = h.high;
}

fewer_each : (levels : Levels) (old new : List (List Num)) (committed : List Num) (ranges : List NumberRange) → AreFewer old new
    → ((i : Interval) → Contains (intervals_of ranges) i → level_in levels i ≤ i.to)
    → AllByRecursion (IsDrawnRight levels old committed) ranges → AllByRecursion (IsDrawnRight levels new committed) ranges
fewer_each levels old new committed [] f within h = tt
fewer_each levels old new committed (r ∷ ranges) f within h = (
  fewer_as (is_buffered r.interval) (present levels r.interval) r.next old new committed
      (within r.interval (contains_first (intervals_of ranges) r.interval)) f h.0,
  fewer_each levels old new committed ranges f (λ i among. within i (contains_more (intervals_of ranges) r.interval i among)) h.1,
)

-- so sessions come, go and give back what they drew
pub fewer_drawn : (ranges : List NumberRange) (levels : Levels) (old new : List (List Num)) (committed : List Num) → AreFewer old new
    → AreDrawnRight ranges levels old committed → AreDrawnRight ranges levels new committed
fewer_drawn ranges levels old new committed f h = record {
  intervals = h.intervals;
  fit = h.fit;
  each = fewer_each levels old new committed ranges f (λ i among. level_fits (intervals_of ranges) levels i h.intervals h.fit among) h.each;
  known = f.known (intervals_of ranges) h.known;
}

-- ---- the start

none_times : (i : Interval) (number : ℕ) (draws : List (List Num)) → AllByRecursion (λ x. x ≡ []) draws → sum_by (times i number) draws ≡ 0
none_times i number [] h = refl
none_times i number (x ∷ draws) h =
    let whole = sum_by-cons (times i number) x draws in
    let here : times i number x ≡ 0 = ap (times i number) h.0 in
    let rest = none_times i number draws h.1 in
    omega (arith, whole, here, rest)

none_hold : (i : Interval) (draws : List (List Num)) → AllByRecursion (λ x. x ≡ []) draws → count_by (has_drawn i) draws ≡ 0
none_hold i [] h = refl
none_hold i (x ∷ draws) h =
    let whole = count_cons (has_drawn i) x draws in
    let here : bit (has_drawn i x) ≡ 0 = ap (λ y. bit (has_drawn i y)) h.0 in
    let rest = none_hold i draws h.1 in
    omega (arith, whole, here, rest)

none_run : (i : Interval) (draws : List (List Num)) → i.level ≤ i.to → AllByRecursion (λ x. x ≡ []) draws → AllByRecursion (IsRun i) draws
none_run i [] within h = tt
none_run i (x ∷ draws) within h = (subst (IsRun i) (sym h.0) (no_run i within), none_run i draws within h.1)

none_known : (intervals : List Interval) (draws : List (List Num)) → AllByRecursion (λ x. x ≡ []) draws → AllByRecursion (AreOfOne intervals) draws
none_known intervals [] h = tt
none_known intervals (x ∷ draws) h = (subst (AreOfOne intervals) (sym h.0) tt, none_known intervals draws h.1)

module _ (intervals : List Interval) (levels : Levels) (draws : List (List Num)) (committed : List Num) (are : AreIntervals intervals)
    (fit : FitLevels intervals levels) (agree : LevelsAgree levels committed)
    (none : AllByRecursion (λ x. x ≡ []) draws) where
  abbrev Inside : Interval → List ℕ → Type 0
  Inside i numbers = IsDistinct nat_eq numbers × AllByRecursion (λ n. (i.from ≤ n) × (n ≤ level_in levels i)) numbers

  inside_of : (i : Interval) → is_buffered i ≡ true → (found : Option Level) → get levels (name_of i) ≡ found → IfSome found (IsRowOf i)
      → IfSome found (IsRightLevel (name_of i) committed) → Inside i (drawn_from i committed)
  unfolding IsDistinct
  inside_of i is None has row right = subst (Inside i) (sym (none_committed levels committed (name_of i) agree has)) (tt, tt)
  inside_of i is (Some l) has row right = as_buffered l.buffered (row.buffered ∙ is) right.drawn
    where
      as_buffered : (b : Bool) → b ≡ true → AreDrawn b l (drawn_from i committed) → Inside i (drawn_from i committed)
      as_buffered false e h = cc
      as_buffered true e h =
          let same : l.level ≡ level_in levels i = sym (found_level levels i (Some l) has) in (
            h.0,
            subst (λ (bounds : ℕ × ℕ). AllByRecursion (λ n. (bounds.0 ≤ n) × (n ≤ bounds.1)) (drawn_from i committed)) (λ k. (row.first k, same k))
                (recursion_from_All (λ n. (l.from ≤ n) × (n ≤ l.level)) (drawn_from i committed) h.1),
          )

  low_of : (i : Interval) → i.level + 1 ≡ i.from → (found : Option Level) → get levels (name_of i) ≡ found → IfSome found (IsRowOf i)
      → IfSome found (IsRightLevel (name_of i) committed) → i.from ≤ level_in levels i + 1
  low_of i first None has row right = let same = found_level levels i None has in omega (arith, same, first)
  low_of i first (Some l) has row right =
      let same = found_level levels i (Some l) has in
      let begins = row.first in
      let begun = right.begun in
      omega (arith, same, begins, begun)

  first_as : (i : Interval) → Contains intervals i → (b : Bool) → is_buffered i ≡ b → IsDrawnAs b (present levels i) (level_in levels i + 1) draws committed
  first_as i among false is =
      let none_of = none_hold i draws none in
      let row = if_row intervals levels i are.apart fit among (get levels (name_of i)) refl in
      record {
        begun = low_of i (unused_in intervals i are among).first (get levels (name_of i)) refl row (agree.right (name_of i));
        sole =
            omega (arith, none_of);
        runs = none_run (present levels i) draws (level_fits intervals levels i are fit among) none;
      }
  first_as i among true is =
      let row = if_row intervals levels i are.apart fit among (get levels (name_of i)) refl in
      let inside = inside_of i is (get levels (name_of i)) refl row (agree.right (name_of i)) in
      record {
        once = λ n. let zero_of = none_times i n draws none in let one = once_each (drawn_from i committed) inside.0 n in omega (arith, zero_of, one);
        inside = λ n some.
            let zero_of = none_times i n draws none in
            let at = counted_all (λ k. (i.from ≤ k) × (k ≤ level_in levels i)) (drawn_from i committed) inside.1 n (omega (arith, zero_of, some)) in
            let high = at.1 in
            (at.0, omega (arith, high));
        low = low_of i (unused_in intervals i are among).first (get levels (name_of i)) refl row (agree.right (name_of i));
        high = omega arith;
      }

  first_each : (some : List Interval) → ((i : Interval) → Contains some i → Contains intervals i)
      → AllByRecursion (IsDrawnRight levels draws committed) (first_ranges levels some)
  first_each [] inside = tt
  first_each (i ∷ some) inside =
      (first_as i (inside i (contains_first some i)) (is_buffered i) refl, first_each some (λ j among. inside j (contains_more some i j among)))

  -- at the start nothing was drawn, and memory hands out what is behind the level
  pub first_drawn : AreDrawnRight (first_ranges levels intervals) levels draws committed
  first_drawn = record {
    intervals = subst AreIntervals (sym (first_intervals levels intervals)) are;
    fit = subst (λ is. FitLevels is levels) (sym (first_intervals levels intervals)) fit;
    each = first_each intervals (λ i among. among);
    known = none_known (intervals_of (first_ranges levels intervals)) draws none;
  }
