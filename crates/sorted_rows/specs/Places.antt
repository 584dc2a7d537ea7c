-- The rows of a table as entries, and where a key stands among them.
use Rattle.std.specs.Prelude.{ℕ, suc, ◌<◌, ◌≤◌, List, [], ◌∷◌, map, IsTrue}
use Rattle.std.specs.FinMap.Entries.{by_order, is_sorted}
use Rattle.keeper_api.specs.Rows.{Spot, spot_cmp}
use Rattle.keeper_api.specs.declared.rows.Row.{Row}
use Rattle.sorted_rows.specs.declared.table.Place.{Place}
use Rattle.sorted_rows.specs.declared.table.Place.TheVariants.{At, Before}

abbrev pub Entry : Type 0
Entry = Spot × List ℕ

abbrev pub entry_in : ℕ → Row → Entry
entry_in table row = ((table, row.key), row.value)

abbrev pub entries_in : ℕ → List Row → List Entry
entries_in table rows = map (entry_in table) rows

abbrev pub AreSorted : List Entry → Type 0
AreSorted es = IsTrue (is_sorted spot_cmp es)

-- the same place behind one more entry
abbrev pub next : Place → Place
next (At i) = At (suc i)
next (Before i) = Before (suc i)

-- at the first entry that isn't below the key, or before it
abbrev pub place_in : Spot → List Entry → Place
place_in spot [] = Before 0
place_in spot (e ∷ es) = by_order (spot_cmp e.0 spot) (next (place_in spot es)) (At 0) (Before 0)

-- how many entries aren't above the key
abbrev pub end_of : Place → ℕ
end_of (At i) = suc i
end_of (Before i) = i

abbrev pub IsInside : ℕ → Place → Type 0
IsInside n (At i) = i < n
IsInside n (Before i) = i ≤ n
