-- Rows that effects touch.
use Rattle.std.specs.Prelude.{List, map}
use Rattle.std.specs.List.{IsDistinct}
use Rattle.std.specs.Ordering.{eq_by_cmp}
use Rattle.module_effects.specs.Rows.{row_cmp}
use Rattle.module_effects.specs.Spots.{row_at}
use Rattle.module_effects.specs.declared.spot.Spot.{Spot}

-- no row stands twice
abbrev pub HasRowsOnce : List Spot → Type 0
HasRowsOnce spots = IsDistinct (eq_by_cmp row_cmp) (map row_at spots)
