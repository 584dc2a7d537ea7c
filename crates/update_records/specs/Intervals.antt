-- Stored intervals, by their names.
use Rattle.std.specs.Prelude.{List, map}
use Rattle.std.specs.FinMap.{from_entries}
use Rattle.module_effects.specs.Rows.{RowName}
use Rattle.update_records.specs.Ledger.{Levels}
use Rattle.update_records.specs.RecordRows.{Level}
use Rattle.update_records.specs.declared.stored.StoredInterval.{StoredInterval}

-- an interval is named by its object and its two digits
abbrev pub named : StoredInterval → RowName
named interval = (interval.object, interval.nr)

abbrev pub level_of : StoredInterval → Level
level_of interval =
    record { from = interval.from; to = interval.to; level = interval.level; buffered = interval.buffered }

abbrev pub entry_of : StoredInterval → RowName × Level
entry_of interval = (named interval, level_of interval)

-- the intervals of a list; where one name stands twice, the first
abbrev pub levels_of : List StoredInterval → Levels
levels_of intervals = from_entries (map entry_of intervals)
