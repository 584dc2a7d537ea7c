-- What a run over the marks has seen of the units.
use Rattle.std.specs.Prelude.{ℕ, ◌≡◌, Bool, ◌&&◌, ◌||◌, not, nat_eq, List, [], Option, unwrap_or}
use Rattle.std.specs.Global.{Vec}
use Rattle.std.specs.Option.{option_and_then, option_map_or}
use Rattle.std.specs.List.{flat_map, list_all, list_any, range_with_len, slice_get}
use Rattle.std.specs.HashMap.{HashMap, get}
use Rattle.std.specs.HashSet.{HashSet, contains}
use Rattle.enq_base.specs.declared.owner.Owner.TheVariants.{Upd}
use Rattle.enq_base.specs.declared.owner.UnitKey.{UnitKey}
use Rattle.enq_base.specs.declared.unit.Status.{Status}
use Rattle.enq_base.specs.declared.unit.Num.{Num as Number}
use Rattle.lock_entry.specs.Names.{named, same_name}
use Rattle.lock_entry.specs.declared.entry.Asked.{Asked}
use Rattle.lock_entry.specs.declared.entry.LockName.{LockName}
use Rattle.module_effects.specs.Rows.{RowName}
use Rattle.update_records.specs.Business.{numbers_from}
use Rattle.update_records.specs.declared.stored.Record.{Record}
use Rattle.update_records.specs.declared.stored.Record.TheVariants as rec
use Rattle.store_reading.specs.Intervals.{has_level, numbers_at}
use Rattle.store_reading.specs.Ids.{interval_id, lock_id, same_interval, same_lock, row_id, same_row}
use Rattle.enq_base.specs.Ids.{id_of, same_id}
use Rattle.store_reading.specs.Rules.{has_second, marks_in, status_in}
use Rattle.store_reading.specs.Units.{are_distinct, counts_at, has_few, has_row, is_recorded, names_in, no_counts}
use Rattle.store_reading.specs.declared.counts.Counts.{Counts}
use Rattle.store_reading.specs.declared.interval_id.IntervalId.{IntervalId}
use Rattle.store_reading.specs.declared.lock_id.LockId.{LockId}
use Rattle.store_reading.specs.declared.row_id.RowId.{RowId}
use Rattle.enq_base.specs.declared.unit_id.UnitId.{UnitId}

-- the units that have a V2 part, by their headers
abbrev pub AreSecond : {S : Type 0} → HashSet UnitId S → List Record → Type 0
AreSecond second headers = (key : UnitKey) → contains same_id second (id_of key) ≡ has_second headers key

-- the status of each unit, by the marks so far
abbrev pub AreStatuses : {S : Type 0} → HashMap UnitId Status S → List Record → List Record → Type 0
AreStatuses statuses headers marks = (key : UnitKey) → get same_id statuses (id_of key) ≡ status_in headers
    (marks_in marks) key

-- what the headers count of each unit
abbrev pub counts_for : {S : Type 0} → HashMap UnitId Counts S → UnitKey → Counts
counts_for counts key = unwrap_or (get same_id counts (id_of key)) no_counts

abbrev pub AreCounts : {S : Type 0} → HashMap UnitId Counts S → List Record → Type 0
AreCounts counts headers = (key : UnitKey) → counts_for counts key ≡ counts_at headers key

-- the rows of a table, by unit, part and number
abbrev pub AreRows : {S : Type 0} → HashSet RowId S → List Record → Type 0
AreRows rows records = (key : UnitKey) (part n : ℕ) → contains same_row rows
    (row_id key part n) ≡ has_row records key part n

-- the units that were recorded
abbrev pub AreRecorded : {S : Type 0} → HashSet UnitId S → List Record → Type 0
AreRecorded recorded marks = (key : UnitKey) → contains same_id recorded (id_of key) ≡ is_recorded marks key

-- the same tests as of the records themselves
abbrev pub lists_row : {S : Type 0} → HashSet RowId S → UnitKey → ℕ → ℕ → Bool
lists_row rows key part n = contains same_row rows (row_id key part n)

abbrev pub lists_rows : {S : Type 0} → HashSet RowId S → UnitKey → ℕ → ℕ → Bool
lists_rows rows key part n = list_all (lists_row rows key part) (range_with_len 1 n)

abbrev pub lists_part : {S : Type 0} → HashSet RowId S → HashSet RowId S → UnitKey → ℕ → ℕ → Bool
lists_part modules steps key part n = nat_eq n 0 || (lists_row modules key part n && lists_rows steps key part n)

abbrev pub lists_parts : {S : Type 0} → HashSet RowId S → HashSet RowId S → UnitKey → Counts → Bool
lists_parts modules steps key counts = lists_part modules steps key 1 counts.v1
    && lists_part modules steps key 2 counts.v2

-- the names of locks so far
abbrev pub AreNames : {S : Type 0} → HashSet LockId S → List LockName → Type 0
AreNames seen names = (key : UnitKey) (asked : Asked) → contains same_lock seen (lock_id key asked) ≡ list_any
    (λ name. same_name name (named (Upd key) asked)) names

-- the units with two locks of one name
abbrev pub AreTwins : {S : Type 0} → HashSet UnitId S → List LockName → Type 0
AreTwins twins names = (key : UnitKey) → contains same_id twins (id_of key) ≡ not (are_distinct key names)

-- what is known of the units of a store, by their keys
pub record IsIndex {S T U : Type 0} (counts : HashMap UnitId Counts S) (modules steps locks : HashSet RowId T)
    (twins : HashSet UnitId U) (headers module_rows step_rows lock_rows : List Record) : Type 0 where
  pub counted : AreCounts counts headers
  pub in_modules : AreRows modules module_rows
  pub in_steps : AreRows steps step_rows
  pub in_locks : AreRows locks lock_rows
  pub doubled : AreTwins twins (flat_map (names_in headers) lock_rows)

abbrev pub looks_whole : {S T U : Type 0} → HashMap UnitId Counts S → HashSet RowId T → HashSet RowId T
    → HashSet RowId T → HashSet UnitId U → UnitKey → Bool
looks_whole counts modules steps locks twins key =
    has_few (counts_for counts key)
    && (lists_parts modules steps key (counts_for counts key)
    && (lists_rows locks key 0 (counts_for counts key).locks && not (contains same_id twins (id_of key))))

-- the numbers of an interval, by its name
abbrev pub numbers_for : {S : Type 0} → HashMap IntervalId (Vec ℕ) S → RowName → List ℕ
numbers_for lists name = option_map_or (λ (list : Vec ℕ). list.items) (get same_interval lists (interval_id name)) []

abbrev pub AreNumbers : {S : Type 0} → HashMap IntervalId (Vec ℕ) S → List Number → Type 0
AreNumbers lists numbers = (name : RowName) → numbers_for lists name ≡ numbers_from name numbers

-- the numbers of the header at this place
abbrev pub numbers_in_header : Record → List Number
numbers_in_header (rec.Header unit user v1 v2 locks numbers) = numbers
numbers_in_header r = []

abbrev pub numbers_there : List Record → Option ℕ → List Number
numbers_there headers place = option_map_or numbers_in_header (option_and_then (slice_get headers) place) []

-- the place of each unit's header
abbrev pub ArePlaces : {S : Type 0} → HashMap UnitId ℕ S → List Record → Type 0
ArePlaces places headers = (key : UnitKey) → numbers_there headers
    (get same_id places (id_of key)) ≡ numbers_at headers key

-- the intervals that have a row
abbrev pub AreStored : {S : Type 0} → HashSet IntervalId S → List Record → Type 0
AreStored stored levels = (name : RowName) → contains same_interval stored (interval_id name) ≡ has_level levels name
