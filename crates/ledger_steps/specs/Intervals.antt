-- Stored intervals as they are kept in a ledger.
use Rattle.std.specs.Prelude.{ℕ, ◌++◌, Bool, not, List, [], ◌∷◌, map, Option, Some, None, if◌then◌else◌, T}
use Rattle.std.specs.Cmp.Lexicographic.{slice_cmp}
use Rattle.std.specs.FinMap.{entries, from_entries, insert, is_sorted, values}
use Rattle.std.specs.List.{All, IsDistinct}
use Rattle.std.specs.Ordering.{eq_by_cmp, is_gt, nat_cmp}
use Rattle.std.specs.declared.cmp.Ordering.{Ordering}
use Rattle.enq_base.specs.declared.unit.Num.{Num as Number}
use Rattle.keeper_api.specs.declared.rows.Change.{Change}
use Rattle.module_effects.specs.Rows.{RowName, row_cmp}
use Rattle.update_records.specs.Business.{numbers_of}
use Rattle.update_records.specs.Grammar.{IsNr}
use Rattle.update_records.specs.Intervals.{level_of, named}
use Rattle.update_records.specs.Ledger.{Ledger, Levels, LevelsAgree}
use Rattle.update_records.specs.RecordRows.{Level, level_row, mark_row, meta_row, row_name}
use Rattle.update_records.specs.declared.records.Mark.{Mark}
use Rattle.update_records.specs.declared.stored.StoredInterval.{StoredInterval}

abbrev pub interval_of_entry : RowName × Level → StoredInterval
interval_of_entry e =
    record { object = e.0.0; nr = e.0.1; from = e.1.from; to = e.1.to; level = e.1.level; buffered = e.1.buffered }

-- each put under its name, in order
abbrev pub with_levels : List StoredInterval → Levels → Levels
with_levels [] levels = levels
with_levels (interval ∷ intervals) levels = with_levels intervals (insert levels (named interval) (level_of interval))

abbrev pub with_intervals : List StoredInterval → Ledger → Ledger
with_intervals intervals ledger = record ledger { levels = with_levels intervals ledger.levels }

-- one change for each interval
abbrev pub interval_row : StoredInterval → Change
interval_row interval = level_row (named interval) (level_of interval)

abbrev pub interval_rows : List StoredInterval → List Change
interval_rows intervals = map interval_row intervals

-- no name has two intervals
abbrev pub HasDistinctIntervals : List StoredInterval → Type 0
HasDistinctIntervals intervals = IsDistinct (eq_by_cmp row_cmp) (map named intervals)

-- its name has two digits
abbrev pub HasNr : StoredInterval → Type 0
HasNr interval = IsNr interval.nr

-- the changes that note a mark of numbers alone, with the intervals that they leave
abbrev pub draw_changes : ℕ → Mark → List StoredInterval → List Change
draw_changes start m intervals = (mark_row m ∷ meta_row start m.seq ∷ []) ++ interval_rows intervals

-- these intervals may be stored, together with these numbers: their names have two digits and are distinct, and where
-- the intervals agreed with the numbers they still do
pub record MayStore (ledger : Ledger) (intervals : List StoredInterval) (numbers : List Number) : Type 0 where
  pub digits : All HasNr intervals
  pub distinct : HasDistinctIntervals intervals
  pub agree : LevelsAgree ledger.levels (numbers_of ledger.units ledger.marks)
      → LevelsAgree (with_levels intervals ledger.levels) (numbers_of ledger.units ledger.marks ++ numbers)

-- names in the order of their rows' keys: the shorter object first, then by the object's bytes, and then by the digits
abbrev pub key_cmp : RowName → RowName → Ordering
key_cmp a b = slice_cmp nat_cmp (row_name a) (row_name b)

-- an interval behind the key of its row
abbrev pub keyed : StoredInterval → List ℕ × StoredInterval
keyed interval = (row_name (named interval), interval)

-- the keys of their rows rise
abbrev pub AreInOrder : List StoredInterval → Type 0
AreInOrder intervals = T (is_sorted (slice_cmp nat_cmp) (map keyed intervals))

-- the intervals in the order of their rows' keys
abbrev pub in_row_order : Levels → List StoredInterval
in_row_order levels = values (from_entries {R = slice_cmp nat_cmp} (map keyed (map interval_of_entry (entries levels))))

-- whether an interval stands before a name
abbrev pub is_before : RowName → StoredInterval → Bool
is_before name interval = is_gt (key_cmp name (named interval))

abbrev pub is_past : RowName → StoredInterval → Bool
is_past name interval = not (is_before name interval)

abbrev pub is_called : RowName → StoredInterval → Bool
is_called name interval = eq_by_cmp key_cmp name (named interval)

-- an interval, where it has this name
abbrev pub if_called : RowName → StoredInterval → Option StoredInterval
if_called name interval = if is_called name interval then Some interval else None

-- the intervals that are kept, and how many more take no memory
pub record IntervalsView : Type 0 where
  pub levels : Levels
  pub spare : ℕ
