-- Ranges that are set to their first numbers one by one.
use Rattle.std.proofs.Common.{◌≡◌, ℕ, zero, suc, ◌+◌, ◌<◌, ◌≤◌, List, [], ◌∷◌, ◌++◌, map, length, take, drop, get_or, set, refl, sym, ap, subst, ◌∙◌, arith}
use Rattle.std.specs.Prelude.{Contains}
use Rattle.std.proofs.lemmas.List.Edits.{map_over_more}
use Rattle.number_ranges.specs.declared.interval.Interval.{Interval}
use Rattle.update_records.specs.Ledger.{Levels}
use Rattle.ledger_steps.specs.Levels.{AreIntervals, FitRows, first_range, first_ranges, intervals_of, level_in}
use Rattle.ledger_steps.specs.declared.range.NumberRange.{NumberRange}
use Rattle.draw_laws.proofs.FittingLevels.{level_within, unused_in}
use Rattle.draw_laws.proofs.IntervalNames.{contains_first, contains_more}

-- the range as a start finds it
abbrev pub started : Levels → NumberRange → NumberRange
started levels r = first_range levels r.interval

-- the first so many are started
abbrev pub started_to : Levels → ℕ → List NumberRange → List NumberRange
started_to levels n ranges = map (started levels) (take n ranges) ++ drop n ranges

same_intervals : (levels : Levels) (n : ℕ) (ranges : List NumberRange) → intervals_of (started_to levels n ranges) ≡ intervals_of ranges
same_intervals levels zero ranges = refl
same_intervals levels (suc n) [] = refl
same_intervals levels (suc n) (r ∷ ranges) = ap (λ is. r.interval ∷ is) (same_intervals levels n ranges)

interval_in : (ranges : List NumberRange) (n : ℕ) (r : NumberRange) → n < length ranges → r ≡ get_or ranges n r → Contains (intervals_of ranges) r.interval
interval_in [] n r within at = absurd (omega (arith, within))
interval_in (x ∷ ranges) zero r within at = subst (λ y. Contains (intervals_of (x ∷ ranges)) y.interval) (sym at)
    (contains_first (intervals_of ranges) x.interval)
interval_in (x ∷ ranges) (suc n) r within at = contains_more (intervals_of ranges) x.interval r.interval (interval_in ranges n r (omega (arith, within)) at)

-- no level is so high that no number follows it
pub level_small : (levels : Levels) (ranges now : List NumberRange) (n k : ℕ) (r : NumberRange) → AreIntervals (intervals_of ranges)
    → FitRows (intervals_of ranges) levels
    → now ≡ started_to levels n ranges → k < length now → r ≡ get_or now k r → level_in levels r.interval ≤ 999999999999999999
level_small levels ranges now n k r are all is within at =
    let among : Contains (intervals_of ranges) r.interval =
    subst (λ is. Contains is r.interval) (ap intervals_of is ∙ same_intervals levels n ranges) (interval_in now k r within at) in
    let below : level_in levels r.interval ≤ r.interval.to = level_within (intervals_of ranges) levels r.interval are all among in
    let high : r.interval.to ≤ 999999999999999999 = (unused_in (intervals_of ranges) r.interval are among).interval.high in
    omega (arith, below, high)

pub started_more : (levels : Levels) (ranges now : List NumberRange) (n : ℕ) (r new : NumberRange) → n < length ranges → now ≡ started_to levels n ranges
    → r ≡ get_or now n r
    → new.interval ≡ r.interval → new.next ≡ level_in levels r.interval + 1 → set now n new ≡ started_to levels (n + 1) ranges
started_more levels ranges now n r new within is at same next =
    let made : new ≡ started levels r = λ i. record { interval = same i; next = next i } in
    ap (set now n) made ∙ map_over_more (started levels) ranges now n r within is at

map_started : (levels : Levels) (ranges : List NumberRange) → map (started levels) ranges ≡ first_ranges levels (intervals_of ranges)
map_started levels [] = refl
map_started levels (r ∷ ranges) = ap (λ rs. started levels r ∷ rs) (map_started levels ranges)

all_started : (levels : Levels) (n : ℕ) (ranges : List NumberRange) → length ranges ≤ n → started_to levels n ranges ≡ map (started levels) ranges
all_started levels zero [] all = refl
all_started levels zero (r ∷ ranges) all = absurd (omega (arith, all))
all_started levels (suc n) [] all = refl
all_started levels (suc n) (r ∷ ranges) all = ap (λ rs. started levels r ∷ rs) (all_started levels n ranges (omega (arith, all)))

pub started_all : (levels : Levels) (ranges now : List NumberRange) (n : ℕ) → length ranges ≤ n → now ≡ started_to levels n ranges
    → now ≡ first_ranges levels (intervals_of ranges)
started_all levels ranges now n all is = is ∙ all_started levels n ranges all ∙ map_started levels ranges

-- the intervals stay
pub first_intervals : (levels : Levels) (intervals : List Interval) → intervals_of (first_ranges levels intervals) ≡ intervals
first_intervals levels [] = refl
first_intervals levels (i ∷ intervals) = ap (λ is. i ∷ is) (first_intervals levels intervals)
