-- Intervals of a landscape, over the levels that a store has.
use Rattle.std.specs.Prelude.{◌≡◌, ◌≤◌, ◌+◌, Contains, IfSome, IsTrue, ℕ, Bool, true, false, not, ◌&&◌, nat_eq, nat_le}
use Rattle.std.specs.Prelude.{List, [], ◌∷◌, map, Option, Some}
use Rattle.std.specs.Bool.{beq}
use Rattle.std.specs.FinMap.{get}
use Rattle.std.specs.List.{AllByRecursion, find, list_all, list_any, position}
use Rattle.std.specs.Option.{option_map_or}
use Rattle.enq_base.specs.Grammar.{is_name}
use Rattle.module_effects.specs.Rows.{RowName}
use Rattle.number_ranges.specs.Intervals.{IsInterval, is_buffered, is_named, with_level}
use Rattle.number_ranges.specs.declared.interval.Interval.{Interval}
use Rattle.ledger_steps.specs.Intervals.{in_row_order}
use Rattle.update_records.specs.Grammar.{IsNr}
use Rattle.update_records.specs.Ledger.{Levels}
use Rattle.update_records.specs.RecordRows.{Level}
use Rattle.update_records.specs.declared.stored.StoredInterval.{StoredInterval}
use Rattle.ledger_steps.specs.declared.range.LevelFault.{LevelFault}
use Rattle.ledger_steps.specs.declared.range.LevelFault.TheVariants.{Unfit}
use Rattle.ledger_steps.specs.declared.range.NumberRange.{NumberRange}

-- an interval is named by its object and its two digits
abbrev pub name_of : Interval → RowName
name_of i = (i.object, i.nr)

-- ---- what a landscape may have

-- an interval that nothing was drawn from
pub record IsUnused (i : Interval) : Type 0 where
  pub object : IsTrue (is_name i.object)
  pub nr : IsNr i.nr
  pub interval : IsInterval i
  pub first : i.level + 1 ≡ i.from

-- no two intervals have one name
abbrev pub AreApart : List Interval → Type 0
AreApart [] = Unit {0}
AreApart (i ∷ is) = (list_any (is_named i.object i.nr) is ≡ false) × AreApart is

-- the intervals of a landscape
pub record AreIntervals (intervals : List Interval) : Type 0 where
  pub each : AllByRecursion IsUnused intervals
  pub apart : AreApart intervals

-- ---- the levels of a store

-- the level that the store has for it, or else the one before its first number
abbrev pub level_in : Levels → Interval → ℕ
level_in levels i = option_map_or (λ (l : Level). l.level) (get levels (name_of i)) i.level

-- the interval with the level that holds now
abbrev pub present : Levels → Interval → Interval
present levels i = with_level (level_in levels i) i

-- a stored row is that of this interval: name, first number and buffering are one, and the level isn't past the end
abbrev pub is_row_of : StoredInterval → Interval → Bool
is_row_of row i =
    (is_named row.object row.nr i && nat_eq row.from i.from)
    && (beq row.buffered (is_buffered i) && nat_le row.level i.to)

-- a stored row is that of one of these intervals
abbrev pub fits : List Interval → StoredInterval → Bool
fits intervals row = list_any (is_row_of row) intervals

-- all stored rows are rows of these intervals
abbrev pub FitRows : List Interval → Levels → Type 0
FitRows intervals levels = list_all (fits intervals) (in_row_order levels) ≡ true

-- the first row that is none of theirs, counted from 1
pub record IsFirstUnfit (intervals : List Interval) (rows : List StoredInterval) (row : ℕ) : Type 0 where
  pub before : ℕ
  pub place : row ≡ before + 1
  pub first : position (λ (r : StoredInterval). not (fits intervals r)) rows ≡ Some before

-- why levels aren't taken over
abbrev pub IsLevelFault : List Interval → List StoredInterval → LevelFault → Type 0
IsLevelFault intervals rows (Unfit row) = IsFirstUnfit intervals rows row

-- what a store has of an interval
pub record IsRowOf (i : Interval) (l : Level) : Type 0 where
  pub first : l.from ≡ i.from
  pub buffered : l.buffered ≡ is_buffered i
  pub within : l.level ≤ i.to

-- the same by the names of the rows
abbrev pub FitLevels : List Interval → Levels → Type 0
FitLevels intervals levels =
    (name : RowName) → IfSome (get levels name)
    (λ l. (i : Interval) × Contains intervals i × (name_of i ≡ name) × IsRowOf i l)

-- ---- ranges

-- the range of this object and these two digits
abbrev pub range_at : List NumberRange → List ℕ → List ℕ → Option NumberRange
range_at ranges object nr = find (λ (r : NumberRange). is_named object nr r.interval) ranges

-- what a start finds: memory hands out what is behind the level
abbrev pub first_range : Levels → Interval → NumberRange
first_range levels i = record { interval = i; next = level_in levels i + 1 }

abbrev pub first_ranges : Levels → List Interval → List NumberRange
first_ranges levels intervals = map (first_range levels) intervals

abbrev pub intervals_of : List NumberRange → List Interval
intervals_of ranges = map (λ (r : NumberRange). r.interval) ranges
