-- Which records the rows of a store spell, and the first row that spells none.
use Rattle.std.specs.Prelude.{ℕ, ◌≡◌, ◌+◌, ◌<◌, List, [], ◌∷◌, ◌++◌, length, slice_index_or}
use Rattle.std.specs.List.{AllByRecursion}
use Rattle.keeper_api.specs.declared.rows.Row.{Row}
use Rattle.keeper_api.specs.Rows.{Rows, RiseFrom}
use Rattle.update_records.specs.Spelling.{Spells}
use Rattle.update_records.specs.declared.stored.Record.{Record}
use Rattle.table_reading.specs.Tables.{rows_in}

-- the rows of a table spell these records, in this order
abbrev pub SpellEach : ℕ → List Row → List Record → Type 0
SpellEach table [] [] = Unit {0}
SpellEach table [] (r ∷ records) = ⊥
SpellEach table (row ∷ rows) [] = ⊥
SpellEach table (row ∷ rows) (r ∷ records) = Spells table row.key row.value r × SpellEach table rows records

-- the row is inside the grammar of its table
abbrev pub IsSpelled : ℕ → Row → Type 0
IsSpelled table row = (r : Record) × Spells table row.key row.value r

-- the first row of a table that is outside the grammar stands at this place, counted from 1
pub record IsFirstBad (table : ℕ) (rows : List Row) (place : ℕ) : Type 0 where
  pub front : List Row
  pub bad : Row
  pub rest : List Row
  pub whole : rows ≡ front ++ bad ∷ rest
  pub spelled : AllByRecursion (IsSpelled table) front
  pub outside : IsSpelled table bad → ⊥
  pub counted : place ≡ length front + 1

-- the first row of a store that is outside the grammar: the tables before have none
pub record IsFirstBadRow (rows : Rows) (table row : ℕ) : Type 0 where
  pub own : table < 8
  pub before : (other : ℕ) → other < table → AllByRecursion (IsSpelled other) (rows_in rows other)
  pub here : IsFirstBad table (rows_in rows table) row

-- the records of a table, of those of all tables
abbrev pub records_in : List (List Record) → ℕ → List Record
records_in records table = slice_index_or records table []

-- the rows of the tables below a number spell these records
abbrev pub SpellBelow : ℕ → Rows → List (List Record) → Type 0
SpellBelow n rows records = (table : ℕ) → table < n → SpellEach table (rows_in rows table) (records_in records table)

-- the rows of tables 0 to 7 spell these records
abbrev pub SpellAll : Rows → List (List Record) → Type 0
SpellAll rows records = SpellBelow 8 rows records

-- the records are those of a table's rows, whose keys rise
abbrev pub IsTableRead : ℕ → List Record → Type 0
IsTableRead table records = (rows : List Row) × RiseFrom [] rows × SpellEach table rows records

abbrev pub AreReadBelow : ℕ → List (List Record) → Type 0
AreReadBelow n records = (table : ℕ) → table < n → IsTableRead table (records_in records table)

-- the records of tables 0 to 7, also where it isn't told which rows a store has
abbrev pub AreRead : List (List Record) → Type 0
AreRead records = AreReadBelow 8 records
