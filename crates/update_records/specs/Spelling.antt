-- The records of the store: which there are, and the row that each of them is spelled by.
use Rattle.std.specs.Prelude.{ℕ, ◌≡◌, ◌+◌, ◌≤◌, ◌<◌, ◌^◌, Bool, false, ◌||◌, nat_eq, List, [], ◌∷◌, ◌++◌, length}
use Rattle.std.specs.Prelude.{IsTrue}
use Rattle.std.specs.List.{All}
use Rattle.byteorder.specs.Endian.{big_bytes}
use Rattle.keeper_api.specs.declared.rows.Change.{Change}
use Rattle.keeper_api.specs.declared.rows.Change.TheVariants.{Put}
use Rattle.enq_base.specs.Grammar.{is_name, is_key, is_text, is_pattern}
use Rattle.enq_base.specs.declared.owner.UnitKey.{UnitKey}
use Rattle.enq_base.specs.declared.unit.Effect.{Effect}
use Rattle.enq_base.specs.declared.unit.Num.{Num as Number}
use Rattle.lock_entry.specs.declared.entry.Entry.{Entry}
use Rattle.update_records.specs.declared.records.MarkKind.{MarkKind}
use Rattle.update_records.specs.declared.records.MarkKind.TheVariants.{Num, Bad1, Bad2}
use Rattle.update_records.specs.declared.records.Unit.{Unit as UnitOfWork}
use Rattle.update_records.specs.declared.stored.Record.{Record}
use Rattle.update_records.specs.declared.stored.Record.TheVariants as rec
use Rattle.update_records.specs.Grammar.{IsWord, IsUnitKey, IsEffect, IsNr, IsNumber, is_optimistic}
use Rattle.update_records.specs.RecordRows.{unit_bytes, meta_row, header_value, step_row, mark_row, level_row}
use Rattle.update_records.specs.RecordRows.{business_row, lock_value}

-- ---- the grammar of a record

-- so many numbers as a count of two bytes can tell
pub record AreNumbers (numbers : List Number) : Type 0 where
  pub few : length numbers < 2 ^ 16
  pub each : All IsNumber numbers

abbrev pub HasFields : MarkKind → Type 0
HasFields (Num numbers) = AreNumbers numbers
HasFields (Bad1 index reason) = IsWord index
HasFields (Bad2 index reason) = IsWord index
HasFields kind = Unit {0}

-- part 1 or 2
abbrev pub IsPart : ℕ → Type 0
IsPart part = (1 ≤ part) × (part ≤ 2)

-- a place is counted from 1
abbrev pub IsPlace : ℕ → ℕ → Type 0
IsPlace limit index = (1 ≤ index) × (index < limit)

abbrev pub IsRecord : Record → Type 0
IsRecord (rec.Meta start marks) = IsWord start × (marks < 2 ^ 64)
IsRecord (rec.Header unit user v1 v2 locks numbers) =
    IsUnitKey unit × IsTrue (is_name user) × (v1 < 2 ^ 16) × (v2 < 2 ^ 16) × IsWord locks × AreNumbers numbers
IsRecord (rec.Module unit part count) = IsUnitKey unit × IsPart part × (count < 2 ^ 16)
IsRecord (rec.Step unit part index effect) = IsUnitKey unit × IsPart part × IsPlace (2 ^ 16) index × IsEffect effect
IsRecord (rec.Mark m) = (m.seq < 2 ^ 64) × IsUnitKey m.unit × HasFields m.kind
IsRecord (rec.Level object nr from to level buffered) =
    IsTrue (is_name object) × IsNr nr × (from < 2 ^ 64) × (to < 2 ^ 64) × (level < 2 ^ 64)
IsRecord (rec.Business table key text) = IsTrue (is_name table) × IsTrue (is_key key) × IsTrue (is_text text)
IsRecord (rec.Lock unit index table mode count pattern) =
    IsUnitKey unit × IsPlace (2 ^ 32) index × IsTrue (is_name table)
    × (is_optimistic mode ≡ false) × IsPlace 10000 count × IsTrue (is_pattern pattern)

-- ---- its spelling

abbrev pub record_row : Record → Change
record_row (rec.Meta start marks) = meta_row start marks
record_row (rec.Header unit user v1 v2 locks numbers) = Put 1 (unit_bytes unit) (header_value user v1 v2 locks numbers)
record_row (rec.Module unit part count) = Put 2 (unit_bytes unit ++ part ∷ []) (big_bytes 2 count)
record_row (rec.Step unit part index effect) = step_row unit part index effect
record_row (rec.Mark m) = mark_row m
record_row (rec.Level object nr from to level buffered) =
    level_row (object, nr) (record { from = from; to = to; level = level; buffered = buffered })
record_row (rec.Business table key text) = business_row (table, key) text
record_row (rec.Lock unit index table mode count pattern) =
    Put 7 (unit_bytes unit ++ big_bytes 4 index) (lock_value table mode count pattern)

-- the row with this key and this value, in this table, spells the record
pub record Spells (table : ℕ) (key value : List ℕ) (r : Record) : Type 0 where
  pub grammar : IsRecord r
  pub spelled : record_row r ≡ Put table key value

-- tables whose records have numbers or a text
abbrev pub takes_memory : ℕ → Bool
takes_memory table = nat_eq table 1 || nat_eq table 3 || nat_eq table 4 || nat_eq table 6

-- ---- the records of a unit

abbrev pub steps_of : UnitKey → ℕ → ℕ → List Effect → List Record
steps_of key part index [] = []
steps_of key part index (effect ∷ effects) = rec.Step key part index effect ∷ steps_of key part (index + 1) effects

-- an empty part has none
abbrev pub part_of : UnitKey → ℕ → List Effect → List Record
part_of key part [] = []
part_of key part (effect ∷ effects) =
    rec.Module key part (length (effect ∷ effects)) ∷ steps_of key part 1 (effect ∷ effects)

abbrev pub locks_of : UnitKey → ℕ → List Entry → List Record
locks_of key index [] = []
locks_of key index (entry ∷ entries) =
    rec.Lock key index entry.table entry.mode entry.count entry.pattern ∷ locks_of key (index + 1) entries

abbrev pub header_of : UnitOfWork → Record
header_of unit =
    rec.Header unit.key unit.user (length unit.parts.v1) (length unit.parts.v2) (length unit.entries) unit.numbers

-- all records of a unit but its marks
abbrev pub records_of : UnitOfWork → List Record
records_of unit =
    header_of unit ∷ part_of unit.key 1 unit.parts.v1 ++ part_of unit.key 2 unit.parts.v2
    ++ locks_of unit.key 1 unit.entries
