-- The ledger that a store stands for, and when a store is good.
use Rattle.std.specs.Prelude.{ℕ, ◌≡◌, ◌⊎◌, ◌≤◌, ◌<◌, ◌^◌, ◌+◌, ◌-◌, nat_eq, nat_lt, Bool, true, false, ◌&&◌, IsTrue}
use Rattle.std.specs.Prelude.{List, [], ◌∷◌, ◌++◌, map, length, if◌then◌else◌, IfSome, IsSome}
use Rattle.std.specs.List.{All, filter, flat_map, range_with_len, IsDistinct}
use Rattle.std.specs.FinMap.{FinMap, empty, entries, get, insert, retain_keys}
use Rattle.keeper_api.specs.declared.rows.Change.{Change}
use Rattle.keeper_api.specs.Rows.{Spot, Rows}
use Rattle.keeper_api.specs.Batch.{changed}
use Rattle.enq_base.specs.Grammar.{is_name}
use Rattle.enq_base.specs.declared.owner.UnitKey.{UnitKey}
use Rattle.enq_base.specs.declared.unit.Num.{Num as Number}
use Rattle.module_effects.specs.Rows.{Tables, RowName, row_cmp}
use Rattle.update_records.specs.declared.records.Mark.{Mark}
use Rattle.update_records.specs.declared.records.Unit.{Unit as UnitOfWork}
use Rattle.update_records.specs.Business.{tables_of, AreRight, numbers_of, numbers_from, interval_of}
use Rattle.update_records.specs.Grammar.{IsUnit, IsKind, IsNr}
use Rattle.update_records.specs.Marks.{IsLegal, is_rec}
use Rattle.update_records.specs.RecordRows.{Level, row_name, unit_rows, mark_row, meta_row, level_value}

-- the stored intervals of numbers, each under its object and its two digits
abbrev pub Levels : Type 0
Levels = FinMap row_cmp Level

-- the start number (0 before the first), the units in the order in which they were recorded, the marks in order, and
-- the stored intervals
pub record Ledger : Type 0 where
  pub start : ℕ
  pub units : List UnitOfWork
  pub marks : List Mark
  pub levels : Levels

-- a store that nobody has opened
abbrev pub no_ledger : Ledger
no_ledger = record { start = 0; units = []; marks = []; levels = empty }

-- rows of a finite map in one table, laid over other rows
abbrev pub with_entries : {X : Type 0} → ℕ → (X → List ℕ) → List (RowName × X) → Rows → Rows
with_entries table value [] rows = rows
with_entries table value (e ∷ es) rows = insert (with_entries table value es rows) (table, row_name e.0) (value e.1)

abbrev pub with_map : {X : Type 0} → ℕ → (X → List ℕ) → FinMap row_cmp X → Rows → Rows
with_map table value xs rows = with_entries table value (entries xs) rows

-- tables 5 and 6: the intervals and the business rows
abbrev pub map_rows : Levels → Tables → Rows
map_rows levels tables = with_map 5 level_value levels (with_map 6 (λ text. text) tables empty)

-- table 0: before the first start there is no row
abbrev pub meta_rows : ℕ → ℕ → List Change
meta_rows start marks = if nat_eq start 0 then [] else (meta_row start marks ∷ [])

-- the rows of the units, of the marks, and of the start number
abbrev pub book_rows : Ledger → List Change
book_rows ledger = flat_map unit_rows ledger.units ++ map mark_row ledger.marks ++ meta_rows ledger.start
    (length ledger.marks)

-- the rows that stand for a ledger
abbrev pub rows_of : Ledger → Rows
rows_of ledger = changed (book_rows ledger) (map_rows ledger.levels (tables_of ledger.units ledger.marks))

-- the units whose recording the marks tell, in order
abbrev pub recorded : List Mark → List UnitKey
recorded marks = map (λ (m : Mark). m.unit) (filter (λ (m : Mark). is_rec m.kind) marks)

-- a mark of a unit of this start or an earlier one
pub record IsMarkUnder (start : ℕ) (m : Mark) : Type 0 where
  pub kind : IsKind m.kind
  pub first : 1 ≤ m.unit.start
  pub last : m.unit.start ≤ start
  pub session : m.unit.session < 2 ^ 32
  pub luw : m.unit.luw < 2 ^ 32

-- the committed numbers of an interval: without a buffer all from the first to the level, in order; with one no number
-- twice, and each from the first to the level
abbrev pub AreDrawn : Bool → Level → List ℕ → Type 0
AreDrawn false level numbers = numbers ≡ range_with_len level.from (level.level + 1 - level.from)
AreDrawn true level numbers = IsDistinct nat_eq numbers × All (λ n. (level.from ≤ n) × (n ≤ level.level)) numbers

pub record IsRightLevel (name : RowName) (numbers : List Number) (level : Level) : Type 0 where
  pub object : IsTrue (is_name name.0)
  pub nr : IsNr name.1
  pub low : 1 ≤ level.from
  pub order : level.from ≤ level.to
  pub high : level.to < 2 ^ 64
  pub begun : level.from ≤ level.level + 1
  pub within : level.level ≤ level.to
  pub drawn : AreDrawn level.buffered level (numbers_from name numbers)

-- each stored interval has the numbers that were committed, and each committed number has a stored interval
pub record LevelsAgree (levels : Levels) (numbers : List Number) : Type 0 where
  pub right : (name : RowName) → IfSome (get levels name) (IsRightLevel name numbers)
  pub stored : All (λ num. IsSome (get levels (interval_of num))) numbers

-- a ledger that a store may stand for
pub record IsLawful (ledger : Ledger) : Type 0 where
  pub started : 1 ≤ ledger.start
  pub start : ledger.start < 2 ^ 32
  pub few : length ledger.marks ≤ 1048576
  pub numbered : map (λ (m : Mark). m.seq) ledger.marks ≡ range_with_len 1 (length ledger.marks)
  pub marks : All (IsMarkUnder ledger.start) ledger.marks
  pub legal : IsLegal ledger.units ledger.marks
  pub units : All IsUnit ledger.units
  pub recorded : map (λ (unit : UnitOfWork). unit.key) ledger.units ≡ recorded ledger.marks
  pub right : AreRight ledger.units empty ledger.marks
  pub levels : LevelsAgree ledger.levels (numbers_of ledger.units ledger.marks)

abbrev pub has_bytes : List ℕ → Bool
has_bytes [] = false
has_bytes (b ∷ bs) = true

-- tables 0 to 7 are the store's; a key has at least one byte
abbrev pub is_own : Spot → Bool
is_own spot = nat_lt spot.0 8 && has_bytes spot.1

-- rows of other tables aren't read
abbrev pub own : Rows → Rows
own rows = retain_keys rows is_own

-- the rows stand for this ledger: that of a store that nobody has opened, or a lawful one
pub record StandFor (rows : Rows) (ledger : Ledger) : Type 0 where
  pub exact : own rows ≡ rows_of ledger
  pub lawful : (ledger ≡ no_ledger) ⊎ IsLawful ledger

-- a good store: its rows are exactly the rows of some ledger that is lawful or empty
abbrev pub IsGood : Rows → Type 0
IsGood rows = (ledger : Ledger) × StandFor rows ledger
