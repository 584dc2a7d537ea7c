-- What changes make of rows.
use Rattle.std.specs.Prelude.{◌≤◌, Bool, List, [], ◌∷◌, map, length, Option, Some, None}
use Rattle.std.specs.FinMap.{insert, remove}
use Rattle.std.specs.List.{AllByRecursion, IsDistinct}
use Rattle.std.specs.Ordering.{eq_by_cmp}
use Rattle.keeper_api.specs.declared.rows.Change.{Change}
use Rattle.keeper_api.specs.declared.rows.Change.TheVariants.{Put, Del}
use Rattle.keeper_api.specs.Rows.{Spot, spot_cmp, Rows}

-- where a change is made
abbrev pub spot_of : Change → Spot
spot_of (Put table key value) = (table, key)
spot_of (Del table key) = (table, key)

-- the rows after one change
abbrev pub changed_once : Change → Rows → Rows
changed_once (Put table key value) rows = insert rows (table, key) value
changed_once (Del table key) rows = remove rows (table, key)

-- the rows after the changes, the first of them first
abbrev pub changed : List Change → Rows → Rows
changed [] rows = rows
changed (change ∷ changes) rows = changed changes (changed_once change rows)

-- the same where the rows are told
abbrev pub held_after : List Change → Option Rows → Option Rows
held_after batch None = None
held_after batch (Some rows) = Some (changed batch rows)

abbrev pub is_same_spot : Spot → Spot → Bool
is_same_spot a b = eq_by_cmp spot_cmp a b

-- no key is empty, and no row is changed twice
pub record IsBatch (batch : List Change) : Type 0 where
  pub keys : AllByRecursion (λ change. 1 ≤ length (spot_of change).1) batch
  pub distinct : IsDistinct is_same_spot (map spot_of batch)
