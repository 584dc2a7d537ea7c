-- Numbers that sessions have drawn from intervals, beside those that are committed. The draws of each session are one
-- list.
use Rattle.std.specs.Prelude.{◌≡◌, ◌≤◌, ◌<◌, ◌+◌, Contains, IsSomeAnd, IsTrue, ℕ, Bool, true, false, not, ◌&&◌, nat_eq}
use Rattle.std.specs.Prelude.{nat_lt, List, count_by, fold, map, max, sum_by, if◌then◌else◌}
use Rattle.std.specs.List.{AllByRecursion, filter, find, list_any, range_with_len}
use Rattle.enq_base.specs.declared.unit.Num.{Num}
use Rattle.number_ranges.specs.Intervals.{is_buffered, is_named, with_level}
use Rattle.number_ranges.specs.declared.interval.Interval.{Interval}
use Rattle.update_records.specs.Business.{numbers_from}
use Rattle.update_records.specs.Ledger.{Levels}
use Rattle.update_records.specs.declared.stored.StoredInterval.{StoredInterval}
use Rattle.ledger_steps.specs.Levels.{AreIntervals, FitLevels, intervals_of, level_in, name_of, present}
use Rattle.ledger_steps.specs.declared.range.NumberRange.{NumberRange}

abbrev pub num_of : Interval → ℕ → Num
num_of i number = record { object = i.object; nr = i.nr; number = number }

-- how many of these numbers are of the interval
abbrev pub drawn_of : Interval → List Num → ℕ
drawn_of i nums = count_by (λ (num : Num). is_named num.object num.nr i) nums

-- the same numbers, in order
abbrev pub drawn_from : Interval → List Num → List ℕ
drawn_from i nums = numbers_from (name_of i) nums

-- whether a session with these draws has drawn from the interval
abbrev pub has_drawn : Interval → List Num → Bool
has_drawn i draws = nat_lt 0 (drawn_of i draws)

-- ---- an interval without a buffer

-- a session has drawn the numbers that follow the level, in order, and none past the end
pub record IsRun (i : Interval) (draws : List Num) : Type 0 where
  pub follows : drawn_from i draws ≡ range_with_len (i.level + 1) (drawn_of i draws)
  pub within : i.level + drawn_of i draws ≤ i.to

-- at most one session has drawn from it, and what it has drawn is such a run behind a level of the interval
pub record IsDrawnPlain (i : Interval) (draws : List (List Num)) : Type 0 where
  pub begun : i.from ≤ i.level + 1
  pub sole : count_by (has_drawn i) draws ≤ 1
  pub runs : AllByRecursion (IsRun i) draws

-- ---- an interval with a buffer

-- how often a number of the interval is among these
abbrev pub times : Interval → ℕ → List Num → ℕ
times i number nums = count_by (nat_eq number) (drawn_from i nums)

-- how often it was handed out: to units that are committed, and to sessions
abbrev pub times_given : Interval → List (List Num) → List Num → ℕ → ℕ
times_given i draws committed number = times i number committed + sum_by (times i number) draws

-- no number was handed out twice, each stands before the one that memory hands out next, and the level isn't below any
pub record IsDrawnBuffered (i : Interval) (next : ℕ) (draws : List (List Num)) (committed : List Num) : Type 0 where
  pub once : (number : ℕ) → times_given i draws committed number ≤ 1
  pub inside : (number : ℕ) → 1 ≤ times_given i draws committed number → (i.from ≤ number) × (number < next)
  pub low : i.from ≤ next
  pub high : next ≤ i.level + 1

-- ---- all intervals

abbrev pub IsDrawnAs : Bool → Interval → ℕ → List (List Num) → List Num → Type 0
IsDrawnAs false i next draws committed = IsDrawnPlain i draws
IsDrawnAs true i next draws committed = IsDrawnBuffered i next draws committed

abbrev pub IsDrawnRight : Levels → List (List Num) → List Num → NumberRange → Type 0
IsDrawnRight levels draws committed r = IsDrawnAs (is_buffered r.interval)
    (present levels r.interval) r.next draws committed

-- the number is of one of the intervals
abbrev pub IsOfOne : List Interval → Num → Type 0
IsOfOne intervals num = IsTrue (list_any (is_named num.object num.nr) intervals)

abbrev pub AreOfOne : List Interval → List Num → Type 0
AreOfOne intervals nums = AllByRecursion (IsOfOne intervals) nums

-- what sessions have drawn is right, over intervals of a landscape that the stored levels fit
pub record AreDrawnRight (ranges : List NumberRange) (levels : Levels) (draws : List (List Num))
    (committed : List Num) : Type 0 where
  pub intervals : AreIntervals (intervals_of ranges)
  pub fit : FitLevels (intervals_of ranges) levels
  pub each : AllByRecursion (IsDrawnRight levels draws committed) ranges
  pub known : AllByRecursion (AreOfOne (intervals_of ranges)) draws

-- memory hands out the next number of the interval of this name
abbrev pub handed_out_of : List ℕ → List ℕ → NumberRange → NumberRange
handed_out_of object nr r = if is_named object nr r.interval then record r { next = r.next + 1 } else r

abbrev pub handed_out : Interval → List NumberRange → List NumberRange
handed_out i ranges = map (handed_out_of i.object i.nr) ranges

-- ---- numbers of a stock, which threads share beside the sessions' draws

-- memory hands out what is behind this number
abbrev pub passed_by : Num → NumberRange → NumberRange
passed_by num r = if is_named num.object num.nr r.interval then record r { next = max r.next (num.number + 1) } else r

-- and what is behind all of these
abbrev pub passed : List Num → List NumberRange → List NumberRange
passed nums ranges = fold (λ rs num. map (passed_by num) rs) ranges nums

-- the interval has a buffer, and the number is one of those up to its level
pub record IsUpToLevel (levels : Levels) (number : ℕ) (i : Interval) : Type 0 where
  pub buffered : is_buffered i ≡ true
  pub first : i.from ≤ number
  pub last : number ≤ level_in levels i

abbrev pub IsReserved : List Interval → Levels → Num → Type 0
IsReserved intervals levels num = IsSomeAnd (find (is_named num.object num.nr) intervals)
    (IsUpToLevel levels num.number)

-- Numbers of a stock that may be committed: each is reserved, none stands among them twice, none is committed, and no
-- session has drawn one of them.
pub record IsStock (intervals : List Interval) (levels : Levels) (draws : List (List Num)) (committed : List Num)
    (stock : List Num) : Type 0 where
  pub reserved : AllByRecursion (IsReserved intervals levels) stock
  pub once : (i : Interval) → Contains intervals i → (number : ℕ) → times i number stock ≤ 1
  pub fresh : (i : Interval) → Contains intervals i → (number : ℕ) → 1 ≤ times i number stock
      → times_given i draws committed number ≡ 0

-- ---- rows that are written

-- the row of an interval, whole, with its level
abbrev pub stored_as : Interval → StoredInterval
stored_as i =
    record { object = i.object; nr = i.nr; from = i.from; to = i.to; level = i.level; buffered = is_buffered i }

-- an interval without a buffer, some of whose numbers are among these
abbrev pub is_settled_by : List Num → Interval → Bool
is_settled_by nums i = not (is_buffered i) && has_drawn i nums

-- its level at the last of these numbers
abbrev pub with_level_behind : List Num → Interval → Interval
with_level_behind nums i = with_level (i.level + drawn_of i nums) i

-- The rows of the intervals without a buffer, their levels at the last of these numbers. The level of a buffered one
-- was raised when the number was drawn.
abbrev pub settled_rows : Levels → List NumberRange → List Num → List StoredInterval
settled_rows levels ranges nums =
    map (λ i. stored_as (with_level_behind nums i))
    (filter (is_settled_by nums) (map (present levels) (intervals_of ranges)))
