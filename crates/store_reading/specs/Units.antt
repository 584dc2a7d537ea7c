-- The rule on units: each recorded unit has a header and the rows that its header counts, and no other row stands.
use Rattle.std.specs.Prelude.{ℕ, ◌+◌, Bool, true, false, ◌&&◌, ◌||◌, not, nat_eq, nat_le, List, [], ◌∷◌, length, Option}
use Rattle.std.specs.Prelude.{if◌then◌else◌}
use Rattle.std.specs.List.{filter, flat_map, list_all, list_any, range_with_len}
use Rattle.enq_base.specs.Owners.{same_owner, same_unit}
use Rattle.enq_base.specs.declared.owner.Owner.TheVariants.{Upd}
use Rattle.enq_base.specs.declared.owner.UnitKey.{UnitKey}
use Rattle.lock_entry.specs.Names.{all_pairs, same_name}
use Rattle.lock_entry.specs.declared.entry.LockName.{LockName}
use Rattle.update_records.specs.Marks.{is_rec}
use Rattle.update_records.specs.declared.records.MarkKind.TheVariants.{Num, Rec}
use Rattle.update_records.specs.declared.stored.Record.{Record}
use Rattle.update_records.specs.declared.stored.Record.TheVariants as rec
use Rattle.store_reading.specs.First.{first_wrong, ◌else_at◌}
use Rattle.store_reading.specs.declared.counts.Counts.{Counts}
use Rattle.store_reading.specs.declared.rules.Place.{Place}

-- ---- what headers count

abbrev pub no_counts : Counts
no_counts = record { v1 = 0; v2 = 0; locks = 0; numbers = 0 }

-- what the header of this unit tells; another record changes nothing
abbrev pub told : UnitKey → Counts → Record → Counts
told key before (rec.Header unit user v1 v2 locks numbers) =
    if same_unit unit key then record { v1 = v1; v2 = v2; locks = locks; numbers = length numbers } else before
told key before r = before

abbrev pub counts_after : UnitKey → Counts → List Record → Counts
counts_after key before [] = before
counts_after key before (r ∷ records) = counts_after key (told key before r) records

-- what the headers count of a unit: nothing where it has none
abbrev pub counts_at : List Record → UnitKey → Counts
counts_at headers key = counts_after key no_counts headers

abbrev pub effects_in : Counts → ℕ → ℕ
effects_in counts part = if nat_eq part 1 then counts.v1 else counts.v2

-- a header counts the module row of a part with effects, and each effect and each lock up to its number
abbrev pub is_counted : List Record → Record → Bool
is_counted headers (rec.Module unit part count) = nat_le 1 (effects_in (counts_at headers unit) part)
is_counted headers (rec.Step unit part index effect) = nat_le index (effects_in (counts_at headers unit) part)
is_counted headers (rec.Lock unit index table mode count pattern) = nat_le index (counts_at headers unit).locks
is_counted headers r = false

-- ---- the rows of a unit

-- the row of a unit's part with this number: a module row tells how many effects the part has, that of an effect or a
-- lock its place. Locks stand in part 0.
abbrev pub is_row : UnitKey → ℕ → ℕ → Record → Bool
is_row key part n (rec.Module unit p count) = (same_unit unit key && nat_eq p part) && nat_eq count n
is_row key part n (rec.Step unit p index effect) = (same_unit unit key && nat_eq p part) && nat_eq index n
is_row key part n (rec.Lock unit index table mode count pattern) =
    (same_unit unit key && nat_eq 0 part) && nat_eq index n
is_row key part n r = false

abbrev pub has_row : List Record → UnitKey → ℕ → ℕ → Bool
has_row records key part n = list_any (is_row key part n) records

-- the rows 1 to n stand
abbrev pub has_rows : List Record → UnitKey → ℕ → ℕ → Bool
has_rows records key part n = list_all (has_row records key part) (range_with_len 1 n)

-- a part of so many effects: its module row tells them, and each has a row; an empty part has none
abbrev pub has_part : List Record → List Record → UnitKey → ℕ → ℕ → Bool
has_part modules steps key part n = nat_eq n 0 || (has_row modules key part n && has_rows steps key part n)

-- the names of the locks that headers count, each owned by its unit
abbrev pub names_in : List Record → Record → List LockName
names_in headers (rec.Lock unit index table mode count pattern) =
    if is_counted headers (rec.Lock unit index table mode count pattern)
    then (record { owner = Upd unit; asked = record { table = table; pattern = pattern; mode = mode } } ∷ []) else []
names_in headers r = []

abbrev pub is_named_for : UnitKey → LockName → Bool
is_named_for key name = same_owner name.owner (Upd key)

abbrev pub differ : LockName → LockName → Bool
differ a b = not (same_name a b)

-- no two of the names that are this unit's are one
abbrev pub are_distinct : UnitKey → List LockName → Bool
are_distinct key names = all_pairs differ (filter (is_named_for key) names)

-- no two locks of a unit have one name
abbrev pub has_distinct_locks : List Record → List Record → UnitKey → Bool
has_distinct_locks headers locks key = are_distinct key (flat_map (names_in headers) locks)

-- 1 to 200 effects, and at most 64 numbers
abbrev pub has_few : Counts → Bool
has_few counts = nat_le 1 (counts.v1 + counts.v2) && (nat_le (counts.v1 + counts.v2) 200 && nat_le counts.numbers 64)

abbrev pub has_parts : List Record → List Record → UnitKey → Counts → Bool
has_parts modules steps key counts = has_part modules steps key 1 counts.v1 && has_part modules steps key 2 counts.v2

-- a unit has as many effects and numbers as it may, and all rows that its header counts, with distinct locks
abbrev pub is_whole : List Record → List Record → List Record → List Record → UnitKey → Bool
is_whole headers modules steps locks key =
    has_few (counts_at headers key)
    && (has_parts modules steps key (counts_at headers key)
    && (has_rows locks key 0 (counts_at headers key).locks && has_distinct_locks headers locks key))

-- ---- the rule

-- a recorded unit is whole, and a mark of numbers has 1 to 64
abbrev pub is_right_unit : List Record → List Record → List Record → List Record → Record → Bool
is_right_unit headers modules steps locks (rec.Mark m) = elim m.kind [
  | Num numbers ↦ nat_le 1 (length numbers) && nat_le (length numbers) 64
  | Rec ↦ is_whole headers modules steps locks m.unit
  | _ ↦ true
]
is_right_unit headers modules steps locks r = true

abbrev pub records_unit : UnitKey → Record → Bool
records_unit key (rec.Mark m) = is_rec m.kind && same_unit m.unit key
records_unit key r = false

abbrev pub is_recorded : List Record → UnitKey → Bool
is_recorded marks key = list_any (records_unit key) marks

abbrev pub is_recorded_header : List Record → Record → Bool
is_recorded_header marks (rec.Header unit user v1 v2 locks numbers) = is_recorded marks unit
is_recorded_header marks r = false

-- the first wrong mark, else the first header without a mark, else the first row that no header counts
abbrev pub unit_fault : (headers modules steps marks locks : List Record) → Option Place
unit_fault headers modules steps marks locks =
    first_wrong (λ before. is_right_unit headers modules steps locks) 4 [] marks
    else_at first_wrong (λ before. is_recorded_header marks) 1 [] headers
    else_at first_wrong (λ before. is_counted headers) 2 [] modules
    else_at first_wrong (λ before. is_counted headers) 3 [] steps
    else_at first_wrong (λ before. is_counted headers) 7 [] locks
