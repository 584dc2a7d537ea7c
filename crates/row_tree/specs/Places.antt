-- The places of a tree, and the rows that stand there.
use Rattle.std.specs.Prelude.{List, [], ◌∷◌, map, ℕ, Option, Some, None}
use Rattle.std.specs.FinMap.{from_sorted}
use Rattle.std.specs.List.Sorted.{IsStrictlySortedBy}
use Rattle.std.specs.BTreeMap.{is_at}
use Rattle.std.specs.Map.{keys_of, lookup}
use Rattle.std.specs.List.{filter}
use Rattle.keeper_api.specs.Rows.{Rows, Spot, is_behind, row_of}
use Rattle.keeper_api.specs.declared.rows.Row.{Row}
use Rattle.row_tree.specs.Keys.{spot, key_at, key_cmp}
use Rattle.row_tree.specs.declared.row_key.RowKey.{RowKey}

abbrev pub Entry : Type 0
Entry = Spot × List ℕ

-- a place with a row, or one that is kept free
abbrev pub Place : Type 0
Place = RowKey × Option (List ℕ)

abbrev pub with_value : Spot → Option (List ℕ) → List Entry → List Entry
with_value at None rows = rows
with_value at (Some value) rows = (at, value) ∷ rows

-- the rows that stand in places
abbrev pub held : List Place → List Entry
held [] = []
held (p ∷ ps) = with_value (spot p.0) p.1 (held ps)

abbrev pub rows_of : List Place → Rows
rows_of ps = from_sorted (held ps)

abbrev pub AreInOrder : List Place → Type 0
AreInOrder ps = IsStrictlySortedBy key_cmp (keys_of ps)

-- what stands at a spot: nothing, or a place with a row or without one
abbrev pub place_at : List Place → Spot → Option (Option (List ℕ))
place_at ps s = lookup (is_at (key_cmp (key_at s))) ps

-- the rows of a table behind a key, among those that stand there
abbrev pub behind : ℕ → List ℕ → List Entry → List Row
behind table after es = map row_of (filter (is_behind table after) es)
