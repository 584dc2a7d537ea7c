-- The first place where the records of a store break a rule, and the ledger that they spell where they break none.
use Rattle.std.specs.Prelude.{ℕ, Bool, true, false, List, [], ◌∷◌, length, map, take, Option, None, if◌then◌else◌}
use Rattle.std.specs.FinMap.{from_entries}
use Rattle.std.specs.List.{find, flat_map, list_all}
use Rattle.std.specs.Option.{option_map_or}
use Rattle.enq_base.specs.Owners.{same_unit}
use Rattle.enq_base.specs.declared.owner.Owner.TheVariants.{Upd}
use Rattle.enq_base.specs.declared.owner.UnitKey.{UnitKey}
use Rattle.lock_entry.specs.declared.entry.Entry.{Entry}
use Rattle.module_effects.specs.Rows.{RowName}
use Rattle.update_records.specs.Ledger.{Ledger, Levels, no_ledger, recorded}
use Rattle.update_records.specs.RecordRows.{Level}
use Rattle.update_records.specs.declared.records.Unit.{Unit as UnitOfWork}
use Rattle.update_records.specs.declared.stored.Record.{Record}
use Rattle.update_records.specs.declared.stored.Record.TheVariants as rec
use Rattle.store_reading.specs.First.{◌else_at◌}
use Rattle.store_reading.specs.Intervals.{level_fault, numbers_at}
use Rattle.store_reading.specs.Lawful.{level_in}
use Rattle.store_reading.specs.Posts.{effects_of, post_fault}
use Rattle.store_reading.specs.Rules.{mark_fault, marks_in, meta_fault, number_fault}
use Rattle.store_reading.specs.Told.{records_in}
use Rattle.store_reading.specs.Units.{unit_fault}
use Rattle.store_reading.specs.declared.rules.Place.{Place}

-- ---- the rules

abbrev pub has_none : List Record → Bool
has_none [] = true
has_none (r ∷ records) = false

-- tables 0 to 7 have no record
abbrev pub is_bare : List (List Record) → Bool
is_bare records = list_all has_none (take 8 records)

abbrev pub start_told : Record → ℕ
start_told (rec.Meta start marks) = start
start_told r = 0

-- the start number that table 0 tells, or 0
abbrev pub start_in : List Record → ℕ
start_in [] = 0
start_in (r ∷ records) = start_told r

-- the place of the first rule that is broken, in the order of the rules: meta row, numbers of marks, marks, units,
-- business rows, intervals
abbrev pub rule_fault : List (List Record) → Option Place
rule_fault records =
    meta_fault (records_in records 0) (length (records_in records 4))
    else_at number_fault (records_in records 4)
    else_at mark_fault (start_in (records_in records 0)) (records_in records 1) (records_in records 4)
    else_at unit_fault (records_in records 1) (records_in records 2) (records_in records 3) (records_in records 4)
    (records_in records 7)
    else_at post_fault (records_in records 3) (records_in records 4) (records_in records 6)
    else_at level_fault (records_in records 1) (records_in records 4) (records_in records 5)

-- a store without rows breaks no rule
abbrev pub store_fault : List (List Record) → Option Place
store_fault records = if is_bare records then None else rule_fault records

-- ---- the ledger

abbrev pub is_header : UnitKey → Record → Bool
is_header key (rec.Header unit user v1 v2 locks numbers) = same_unit unit key
is_header key r = false

abbrev pub user_told : Record → List ℕ
user_told (rec.Header unit user v1 v2 locks numbers) = user
user_told r = []

-- the user that the header of a unit tells
abbrev pub user_at : List Record → UnitKey → List ℕ
user_at headers key = option_map_or user_told (find (is_header key) headers) []

abbrev pub entry_in : List ℕ → UnitKey → Record → List Entry
entry_in user key (rec.Lock unit index table mode count pattern) =
    if same_unit unit key
    then (record {
      owner = Upd unit;
      user = user;
      table = table;
      pattern = pattern;
      mode = mode;
      count = count;
      handed =
          true;
    } ∷ []) else []
entry_in user key r = []

-- the unit that the rows of a key spell, its effects and locks in the order of their rows
abbrev pub unit_in : (headers steps locks : List Record) → UnitKey → UnitOfWork
unit_in headers steps locks key = record {
  key = key;
  user = user_at headers key;
  numbers = numbers_at headers key;
  parts = record { v1 = effects_of steps key 1; v2 = effects_of steps key 2 };
  entries = flat_map (entry_in (user_at headers key) key) locks;
}

-- the recorded units, in the order of their marks
abbrev pub units_in : List (List Record) → List UnitOfWork
units_in records =
    map (unit_in (records_in records 1) (records_in records 3) (records_in records 7))
    (recorded (marks_in (records_in records 4)))

abbrev pub level_entry : Record → List (RowName × Level)
level_entry (rec.Level object nr from to level buffered) = ((object, nr), level_in from to level buffered) ∷ []
level_entry r = []

abbrev pub levels_in : List Record → Levels
levels_in records = from_entries (flat_map level_entry records)

-- the ledger that the records spell
abbrev pub ledger_in : List (List Record) → Ledger
ledger_in records =
    if is_bare records then no_ledger
    else record {
      start = start_in (records_in records 0);
      units = units_in records;
      marks = marks_in (records_in records 4);
      levels = levels_in (records_in records 5);
    }
