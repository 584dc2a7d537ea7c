-- Changes as the values that they leave in their rows.
use Rattle.std.specs.Prelude.{List, ℕ, Option, Some, None, map, IsTrue, is_some}
use Rattle.std.specs.List.{AllByRecursion, IsDistinct}
use Rattle.keeper_api.specs.Batch.{is_same_spot}
use Rattle.keeper_api.specs.declared.rows.Change.{Change}
use Rattle.keeper_api.specs.declared.rows.Change.TheVariants.{Put, Del}
use Rattle.row_tree.specs.Keys.{spot}
use Rattle.row_tree.specs.Places.{Place, place_at}
use Rattle.row_tree.specs.declared.row_key.RowKey.{RowKey}
use Rattle.row_tree.specs.declared.steps.Step.{Step}

-- the value that is put, or none where the row goes
abbrev pub change_to : RowKey → Option (List ℕ) → Change
change_to key None = Del key.table key.key
change_to key (Some value) = Put key.table key.key value

abbrev pub change_of : Step → Change
change_of step = change_to step.key step.value

abbrev pub HasPlace : List Place → Step → Type 0
HasPlace ps step = IsTrue (is_some (place_at ps (spot step.key)))

-- each step has a place
abbrev pub ArePlaced : List Place → List Step → Type 0
ArePlaced ps steps = AllByRecursion (HasPlace ps) steps

-- no row is changed twice
abbrev pub AreApart : List Step → Type 0
AreApart steps = IsDistinct is_same_spot (map (λ step. spot step.key) steps)
