-- Rows in numbered tables, in order of table and then of key.
use Rattle.std.specs.Prelude.{ℕ, ◌≤◌, Bool, ◌&&◌, List, [], ◌∷◌, map, length, take, nat_eq, Option, IsTrue}
use Rattle.std.specs.List.{filter}
use Rattle.std.specs.declared.cmp.Ordering.{Ordering}
use Rattle.std.specs.Ordering.{nat_cmp, ordering_then, is_lt}
use Rattle.std.specs.Cmp.Lexicographic.{slice_cmp}
use Rattle.std.specs.FinMap.{FinMap, get, entries}
use Rattle.keeper_api.specs.declared.rows.Row.{Row}

-- a key in a table, whose number stands first
abbrev pub Spot : Type 0
Spot = ℕ × List ℕ

-- by the table's number, and then by the key's bytes
abbrev pub spot_cmp : Spot → Spot → Ordering
spot_cmp a b = ordering_then (nat_cmp a.0 b.0) (slice_cmp nat_cmp a.1 b.1)

abbrev pub Rows : Type 0
Rows = FinMap spot_cmp (List ℕ)

abbrev pub value_at : Rows → ℕ → List ℕ → Option (List ℕ)
value_at rows table key = get rows (table, key)

-- the first key is less than the second
abbrev pub is_below : List ℕ → List ℕ → Bool
is_below a b = is_lt (slice_cmp nat_cmp a b)

-- an entry of the table whose key is greater
abbrev pub is_behind : ℕ → List ℕ → Spot × List ℕ → Bool
is_behind table after e = nat_eq e.0.0 table && is_below after e.0.1

abbrev pub row_of : Spot × List ℕ → Row
row_of e = record { key = e.0.1; value = e.1 }

-- the first n rows of a table behind a key
abbrev pub page_of : Rows → ℕ → List ℕ → ℕ → List Row
page_of rows table after n = take n (map row_of (filter (is_behind table after) (entries rows)))

-- the keys rise, the first of them above `after`
abbrev pub RiseFrom : List ℕ → List Row → Type 0
RiseFrom after [] = Unit {0}
RiseFrom after (row ∷ rows) = IsTrue (is_below after row.key) × RiseFrom row.key rows

-- at most n rows, whose keys rise behind `after`
pub record IsPage (after : List ℕ) (n : ℕ) (page : List Row) : Type 0 where
  pub few : length page ≤ n
  pub rise : RiseFrom after page
