-- What sorted rows show.
use Rattle.std.specs.Coded.{Coded, coded×, coded_ℕ, coded_list}
use Rattle.std.specs.FinMap as map
use Rattle.keeper_api.specs.Rows.{Rows}

-- the rows, and the rows that the waiting batch would make
pub record RowsView : Type 0 where
  pub rows : Rows
  pub made : Rows

abbrev pub rows_code : Coded Rows
rows_code = map.code (coded× coded_ℕ (coded_list coded_ℕ)) (coded_list coded_ℕ)
