-- Tables by their numbers, each a list of rows.
use Rattle.std.specs.Prelude.{ℕ, zero, suc, ◌+◌, ◌≤◌, List, [], ◌∷◌, ◌++◌, vec_len, vec_capacity}
use Rattle.std.specs.Global.{Vec}
use Rattle.std.specs.FinMap.{from_sorted}
use Rattle.keeper_api.specs.Batch.{spot_of}
use Rattle.keeper_api.specs.Rows.{Rows}
use Rattle.keeper_api.specs.declared.rows.Change.{Change}
use Rattle.keeper_api.specs.declared.rows.Row.{Row}
use Rattle.sorted_rows.specs.Places.{Entry, entries_in}

-- the entries of tables whose numbers count up from the first
abbrev pub entries_from : ℕ → List (Vec Row) → List Entry
entries_from first [] = []
entries_from first (rows ∷ more) = entries_in first rows.items ++ entries_from (suc first) more

abbrev pub rows_of : List (Vec Row) → Rows
rows_of tables = from_sorted (entries_from 0 tables)

-- a table has room for n more rows
abbrev pub HasPlace : ℕ → ℕ → List (Vec Row) → Type 0
HasPlace n table [] = ⊥
HasPlace n zero (rows ∷ more) = vec_len rows + n ≤ vec_capacity rows
HasPlace n (suc table) (rows ∷ more) = HasPlace n table more

-- each table that a change is made in has room for n more rows
abbrev pub HasRoom : ℕ → List Change → List (Vec Row) → Type 0
HasRoom n [] tables = Unit {0}
HasRoom n (change ∷ changes) tables = HasPlace n (spot_of change).0 tables × HasRoom n changes tables
