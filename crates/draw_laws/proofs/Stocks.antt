-- What sessions have drawn stays right as one of them has numbers of a stock beside what it drew.
use Rattle.std.proofs.Common.{◌≡◌, ℕ, ◌+◌, ◌≤◌, ◌<◌, ◌^◌, Bool, true, false, true≢false, cond, max, nat_eq, List, [], ◌∷◌, ◌++◌, map, Some, if◌then◌else◌}
use Rattle.std.proofs.Common.{append_assoc, refl, sym, ap, subst, ◌∙◌, arith}
use Rattle.std.specs.Prelude.{Contains, IsSomeAnd, count_by}
use Rattle.std.specs.List.{AllByRecursion, filter, find}
use Rattle.std.proofs.lemmas.Bool.{eqb-true}
use Rattle.enq_base.specs.declared.unit.Num.{Num}
use Rattle.number_ranges.specs.Intervals.{is_buffered, is_named}
use Rattle.number_ranges.specs.declared.interval.Interval.{Interval}
use Rattle.update_records.specs.Business.{interval_of}
use Rattle.update_records.specs.Ledger.{Levels}
use Rattle.ledger_steps.specs.Drawn.{AreDrawnRight, AreOfOne, IsDrawnAs, IsDrawnBuffered, IsDrawnRight, IsReserved, IsStock, IsUpToLevel, is_settled_by, num_of}
use Rattle.ledger_steps.specs.Drawn.{passed, passed_by, settled_rows, stored_as, times, times_given, with_level_behind}
use Rattle.ledger_steps.specs.Levels.{AreIntervals, FitLevels, intervals_of, name_of, present}
use Rattle.ledger_steps.specs.declared.range.NumberRange.{NumberRange}
use Rattle.draw_laws.proofs.Counting.{all_of, bit, count_cons}
use Rattle.draw_laws.proofs.FittingLevels.{level_fits, unused_in}
use Rattle.draw_laws.proofs.Drawing.{all_with, each_changed, interval_among, known_more, same_as, sum_split}
use Rattle.draw_laws.proofs.HandedOut.{passed_by_intervals, passed_intervals}
use Rattle.draw_laws.proofs.IntervalNames.{contains_first, contains_more, is_named_so, named_is, one_interval}
use Rattle.draw_laws.proofs.OwnNumbers.{append_none, counts_in, from_own, others_same, times_append}

-- ---- one number

up_to_next : (n next number : ℕ) → n < next → n < max next (number + 1)
up_to_next n next number h = grind (arith, h)

own_next : (n next number : ℕ) → n ≡ number → n < max next (number + 1)
own_next n next number h = grind (arith, h)

above_first : (from next number : ℕ) → from ≤ next → from ≤ max next (number + 1)
above_first from next number h = grind (arith, h)

up_to_level : (next number level : ℕ) → next ≤ level + 1 → number ≤ level → max next (number + 1) ≤ level + 1
up_to_level next number level h k = grind (arith, h, k)

stock_more : (i : Interval) (next number : ℕ) (before : List (List Num)) (x : List Num) (after : List (List Num)) (committed : List Num) → i.from ≤ number
    → number ≤ i.level
    → times_given i (before ++ x ∷ after) committed number ≡ 0
    → IsDrawnBuffered i next (before ++ x ∷ after) committed → IsDrawnBuffered i (max next (number + 1))
    (before ++ (x ++ num_of i number ∷ []) ∷ after) committed
stock_more i next number before x after committed first last none h =
    record {
      once = λ n. once_more n (nat_eq n number) refl;
      inside = λ n some. inside_more n (nat_eq n number) refl some;
      low = above_first i.from next number h.low;
      high = up_to_level next number i.level h.high last;
    }
  where
    plus_none : (k : ℕ) → k + 0 ≡ k
    plus_none k = omega arith

    one : (n : ℕ) → times i n (num_of i number ∷ []) ≡ bit (nat_eq n number)
    one n = ap (count_by (nat_eq n)) (from_own i number) ∙ count_cons (nat_eq n) number [] ∙ plus_none (bit (nat_eq n number))

    total : (n : ℕ) → times_given i (before ++ (x ++ num_of i number ∷ []) ∷ after) committed n ≡ times_given i (before ++ x ∷ after) committed n + bit
        (nat_eq n number)
    total n =
        let a = sum_split (times i n) before x after in
        let b = sum_split (times i n) before (x ++ num_of i number ∷ []) after in
        let c = times_append i n x (num_of i number ∷ []) in
        let d = one n in
        omega (arith, a, b, c, d)

    once_more : (n : ℕ) (b : Bool) → nat_eq n number ≡ b → times_given i (before ++ (x ++ num_of i number ∷ []) ∷ after) committed n ≤ 1
    once_more n true e =
        let all = total n in
        let here : bit (nat_eq n number) ≡ 1 = ap bit e in
        let nothing : times_given i (before ++ x ∷ after) committed n ≡ 0 = ap (times_given i (before ++ x ∷ after) committed) (eqb-true n number e) ∙ none in
        omega (arith, all, here, nothing)
    once_more n false e =
        let all = total n in
        let here : bit (nat_eq n number) ≡ 0 = ap bit e in
        let most = h.once n in
        omega (arith, all, here, most)

    inside_more : (n : ℕ) (b : Bool) → nat_eq n number ≡ b → 1 ≤ times_given i (before ++ (x ++ num_of i number ∷ []) ∷ after) committed n → (i.from ≤ n)
        × (n < max next (number + 1))
    inside_more n true e some =
        let same : n ≡ number = eqb-true n number e in
        (omega (arith, same, first), own_next n next number same)
    inside_more n false e some =
        let all = total n in
        let here : bit (nat_eq n number) ≡ 0 = ap bit e in
        let at = h.inside n (omega (arith, all, here, some)) in
        (at.0, up_to_next n next number at.1)

module _ (ranges : List NumberRange) (levels : Levels) (before : List (List Num)) (x : List Num) (after : List (List Num)) (committed : List Num) (i : Interval)
    (number : ℕ)
    (among : Contains (intervals_of ranges) i) (is : IsUpToLevel levels number i) (none : times_given i (before ++ x ∷ after) committed number ≡ 0)
    (h : AreDrawnRight ranges levels (before ++ x ∷ after) committed) where
  abbrev given : List (List Num)
  given = before ++ (x ++ num_of i number ∷ []) ∷ after

  abbrev GivenStep : Interval → Type 0
  GivenStep j = (next : ℕ) → IsDrawnAs (is_buffered j) (present levels j) next (before ++ x ∷ after) committed
      → IsDrawnAs (is_buffered j) (present levels j) (max next (number + 1)) given committed

  given_own : GivenStep i
  given_own next = subst
      (λ b. IsDrawnAs b (present levels i) next (before ++ x ∷ after) committed → IsDrawnAs b (present levels i) (max next (number + 1)) given committed)
      (sym is.buffered)
      (stock_more (present levels i) next number before x after committed is.first is.last none)

  given_step : (s : NumberRange) → Contains ranges s → IsDrawnRight levels (before ++ x ∷ after) committed s
      → IsDrawnRight levels given committed (passed_by (num_of i number) s)
  given_step s there old =
      elim (is_named i.object i.nr s.interval)
      as (λ b. is_named i.object i.nr s.interval ≡ b → IsDrawnRight levels given committed (if b then record s { next = max s.next (number + 1) } else s)) [
        | true ↦ λ e.
            let name = sym (named_is i.object i.nr s.interval e) in
            subst GivenStep (one_interval (intervals_of ranges) i s.interval h.intervals.apart among (interval_among ranges s there) name) given_own s.next old
        | false ↦ λ e.
            same_as (is_buffered s.interval) (present levels s.interval) s.next before x (x ++ num_of i number ∷ []) after committed
            (sym (others_same i s.interval x number (λ same. true≢false (sym (is_named_so i.object i.nr s.interval (sym same)) ∙ e)))) old
      ] refl

  -- a session has a number of a stock
  number_given : AreDrawnRight (map (passed_by (num_of i number)) ranges) levels given committed
  number_given =
      let same = sym (passed_by_intervals (num_of i number) ranges) in
      record {
        intervals = subst AreIntervals same h.intervals;
        fit = subst (λ is. FitLevels is levels) same h.fit;
        each = each_changed (IsDrawnRight levels (before ++ x ∷ after) committed) (IsDrawnRight levels given committed)
            (passed_by (num_of i number)) ranges given_step h.each;
        known = subst (λ is. AllByRecursion (AreOfOne is) given) same
            (all_with (AreOfOne (intervals_of ranges)) before x (x ++ num_of i number ∷ []) after (known_more (intervals_of ranges) i x number among) h.known);
      }

-- ---- all of them

record IsFoundAs (intervals : List Interval) (levels : Levels) (num : Num) : Type 0 where
  one : Interval
  among : Contains intervals one
  name : name_of one ≡ interval_of num
  is : IsUpToLevel levels num.number one

found_as : (intervals : List Interval) (levels : Levels) (num : Num) → IsReserved intervals levels num → IsFoundAs intervals levels num
found_as [] levels num h = absurd h
found_as (i ∷ intervals) levels num h =
    elim (is_named num.object num.nr i)
    as (λ b. is_named num.object num.nr i ≡ b → IsSomeAnd (cond b (Some i) (find (is_named num.object num.nr) intervals)) (IsUpToLevel levels num.number)
    → IsFoundAs (i ∷ intervals) levels num) [
      | true ↦ λ e is. record { one = i; among = contains_first intervals i; name = named_is num.object num.nr i e; is = is }
      | false ↦ λ e is.
          let f = found_as intervals levels num is in
          record { one = f.one; among = contains_more intervals i f.one f.among; name = f.name; is = f.is }
    ] refl h

-- where a session has the first of them, the others may be given too
rest_given : (ranges : List NumberRange) (levels : Levels) (before : List (List Num)) (x : List Num) (after : List (List Num)) (committed : List Num)
    (num : Num) (stock : List Num)
    → IsStock (intervals_of ranges) levels (before ++ x ∷ after) committed (num ∷ stock)
    → IsStock (intervals_of ranges) levels (before ++ (x ++ num ∷ []) ∷ after) committed stock
rest_given ranges levels before x after committed num stock s = record {
  reserved = s.reserved.1;
  once = λ i among n. let most = s.once i among n in let all = times_append i n (num ∷ []) stock in omega (arith, most, all);
  fresh = λ i among n some.
      let all = times_append i n (num ∷ []) stock in
      let most = s.once i among n in
      let none = s.fresh i among n (omega (arith, all, some)) in
      let a = sum_split (times i n) before x after in
      let b = sum_split (times i n) before (x ++ num ∷ []) after in
      let c = times_append i n x (num ∷ []) in
      omega (arith, all, some, most, none, a, b, c);
}

-- a session has the numbers of a stock beside what it drew, and memory hands out what is behind them
pub stock_drawn : (ranges : List NumberRange) (levels : Levels) (before : List (List Num)) (x : List Num) (after : List (List Num)) (committed stock : List Num)
    → IsStock (intervals_of ranges) levels (before ++ x ∷ after) committed stock → AreDrawnRight ranges levels (before ++ x ∷ after) committed
    → AreDrawnRight (passed stock ranges) levels (before ++ (x ++ stock) ∷ after) committed
stock_drawn ranges levels before x after committed [] s h = subst (λ y. AreDrawnRight ranges levels (before ++ y ∷ after) committed) (sym (append_none x)) h
stock_drawn ranges levels before x after committed (num ∷ stock) s h =
    let f = found_as (intervals_of ranges) levels num s.reserved.0 in
    let same : num_of f.one num.number ≡ num = λ k. record { object = (f.name k).0; nr = (f.name k).1; number = num.number } in
    let none = s.fresh f.one f.among num.number (counts_in (name_of f.one) num (num ∷ stock) (contains_first stock num) (sym f.name)) in
    let given : AreDrawnRight (map (passed_by num) ranges) levels (before ++ (x ++ num ∷ []) ∷ after) committed =
    subst (λ (n : Num). AreDrawnRight (map (passed_by n) ranges) levels (before ++ (x ++ n ∷ []) ∷ after) committed) same
    (number_given ranges levels before x after committed f.one num.number f.among f.is none h) in
    let rest : IsStock (intervals_of (map (passed_by num) ranges)) levels (before ++ (x ++ num ∷ []) ∷ after) committed stock =
    subst (λ is. IsStock is levels (before ++ (x ++ num ∷ []) ∷ after) committed stock) (sym (passed_by_intervals num ranges))
    (rest_given ranges levels before x after committed num stock s) in
    subst (λ y. AreDrawnRight (passed stock (map (passed_by num) ranges)) levels (before ++ y ∷ after) committed) (append_assoc x (num ∷ []) stock)
    (stock_drawn (map (passed_by num) ranges) levels before (x ++ num ∷ []) after committed stock rest given)

-- such a number has another behind it
pub stock_room : (ranges : List NumberRange) (levels : Levels) (draws : List (List Num)) (committed stock : List Num)
    → AreDrawnRight ranges levels draws committed
    → AllByRecursion (IsReserved (intervals_of ranges) levels) stock → AllByRecursion (λ (num : Num). num.number + 1 < 2 ^ 64) stock
stock_room ranges levels draws committed stock h reserved =
    all_of (IsReserved (intervals_of ranges) levels) (λ (num : Num). num.number + 1 < 2 ^ 64)
    (λ num is.
    let f = found_as (intervals_of ranges) levels num is in
    let last = f.is.last in
    let low = level_fits (intervals_of ranges) levels f.one h.intervals h.fit f.among in
    let high = (unused_in (intervals_of ranges) f.one h.intervals f.among).interval.high in
    omega (arith, last, low, high)) stock reserved

-- no row is another for that
pub settled_passed : (levels : Levels) (ranges : List NumberRange) (stock nums : List Num)
    → settled_rows levels (passed stock ranges) nums ≡ settled_rows levels ranges nums
settled_passed levels ranges stock nums =
    ap (λ is. map (λ i. stored_as (with_level_behind nums i)) (filter (is_settled_by nums) (map (present levels) is))) (passed_intervals stock ranges)

-- without a stock there is nothing to be shown
pub no_stock : (intervals : List Interval) (levels : Levels) (draws : List (List Num)) (committed : List Num) → IsStock intervals levels draws committed []
no_stock intervals levels draws committed = record { reserved = tt; once = λ i among n. omega arith; fresh = λ i among n some. absurd (omega (arith, some)) }
