-- Business tables that are kept in memory.
use Rattle.std.specs.Prelude.{ℕ, List, map}
use Rattle.std.specs.Coded.{Coded, coded×, coded_ℕ, coded_list}
use Rattle.std.specs.FinMap as finite
use Rattle.std.specs.FinMap.{from_entries}
use Rattle.std.specs.HashMap.{HashMap}
use Rattle.module_effects.specs.Rows.{RowName, Tables}
use Rattle.business_rows.specs.Keys.{name_of}
use Rattle.business_rows.specs.declared.business_key.BusinessKey.{BusinessKey}

-- the tables, and how many more rows take no memory
pub record RowsView : Type 0 where
  pub tables : Tables
  pub room : ℕ

abbrev pub row_entry : BusinessKey × List ℕ → RowName × List ℕ
row_entry e = (name_of e.0, e.1)

-- the tables that a map keeps
abbrev pub tables_in : {S : Type 0} → HashMap BusinessKey (List ℕ) S → Tables
tables_in texts = from_entries (map row_entry texts.entries)

-- how tables are told apart, which a struct that shows them cites in its `coded`
abbrev pub tables_code : Coded Tables
tables_code = finite.code (coded× (coded_list coded_ℕ) (coded_list coded_ℕ)) (coded_list coded_ℕ)
