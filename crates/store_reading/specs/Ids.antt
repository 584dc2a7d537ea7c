-- Rows, locks and intervals of units, as maps and sets look them up.
use Rattle.std.specs.Prelude.{ℕ, Bool, ◌==◌, ◌&&◌, List, Option, Some, None}
use Rattle.std.specs.Cmp.Lexicographic.{slice_cmp}
use Rattle.std.specs.Ordering.{eq_by_cmp, nat_cmp, on}
use Rattle.std.specs.Str.{bytes_eq}
use Rattle.std.specs.declared.cmp.Ordering.{Ordering}
use Rattle.enq_base.specs.declared.owner.UnitKey.{UnitKey}
use Rattle.lock_entry.specs.declared.entry.Asked.{Asked}
use Rattle.mode_rules.specs.Modes.{mode_number}
use Rattle.module_effects.specs.Rows.{RowName}
use Rattle.enq_base.specs.Ids.{id_of, same_id}
use Rattle.update_records.specs.RecordRows.{row_name}
use Rattle.update_records.specs.declared.stored.Record.{Record}
use Rattle.update_records.specs.declared.stored.Record.TheVariants as rec
use Rattle.store_reading.specs.declared.interval_id.IntervalId.{IntervalId}
use Rattle.store_reading.specs.declared.lock_id.LockId.{LockId}
use Rattle.store_reading.specs.declared.part_id.PartId.{PartId}
use Rattle.store_reading.specs.declared.row_id.RowId.{RowId}
use Rattle.store_reading.specs.declared.text_id.TextId.{TextId}

abbrev pub row_id : UnitKey → ℕ → ℕ → RowId
row_id key part n = record { start = key.start; session = key.session; luw = key.luw; part = part; number = n }

abbrev pub same_row : RowId → RowId → Bool
same_row a b = (((a.start == b.start && a.session == b.session) && a.luw == b.luw) && a.part == b.part)
    && a.number == b.number

-- the row of a unit that a record is
abbrev pub row_in : Record → Option RowId
row_in (rec.Module unit part count) = Some (row_id unit part count)
row_in (rec.Step unit part index effect) = Some (row_id unit part index)
row_in (rec.Lock unit index table mode count pattern) = Some (row_id unit 0 index)
row_in r = None

abbrev pub same_lock : LockId → LockId → Bool
same_lock a b = same_id a.unit b.unit
    && ((bytes_eq a.table b.table && bytes_eq a.pattern b.pattern) && a.mode == b.mode)

-- the name of a lock that a unit asked for
abbrev pub lock_id : UnitKey → Asked → LockId
lock_id key asked =
    record { unit = id_of key; table = asked.table; pattern = asked.pattern; mode = mode_number asked.mode }

abbrev pub interval_id : RowName → IntervalId
interval_id name = record { object = name.0; nr = name.1 }

abbrev pub same_interval : IntervalId → IntervalId → Bool
same_interval a b = bytes_eq a.object b.object && bytes_eq a.nr b.nr

abbrev pub part_id : UnitKey → ℕ → PartId
part_id key part = record { unit = id_of key; part = part }

abbrev pub same_part : PartId → PartId → Bool
same_part a b = same_id a.unit b.unit && a.part == b.part

-- the name of a business row
abbrev pub text_id : RowName → TextId
text_id name = record { table = name.0; key = name.1 }

-- the bytes of its key in table 6
abbrev pub text_name : TextId → List ℕ
text_name id = row_name (id.table, id.key)

-- in the order of these
abbrev pub text_cmp : TextId → TextId → Ordering
text_cmp = on text_name (slice_cmp nat_cmp)

abbrev pub same_text : TextId → TextId → Bool
same_text a b = eq_by_cmp text_cmp a b
