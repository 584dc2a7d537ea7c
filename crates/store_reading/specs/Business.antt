-- The business rows that records tell.
use Rattle.std.specs.Prelude.{List, [], ◌∷◌}
use Rattle.std.specs.FinMap.{empty, insert}
use Rattle.module_effects.specs.Rows.{Tables}
use Rattle.update_records.specs.declared.stored.Record.{Record}
use Rattle.update_records.specs.declared.stored.Record.TheVariants as rec

-- the tables with the row of a record, where that is a business row
abbrev pub with_business : Record → Tables → Tables
with_business (rec.Business table key text) tables = insert tables (table, key) text
with_business r tables = tables

-- those of all records; where one row stands twice, the first
abbrev pub business_in : List Record → Tables
business_in [] = empty
business_in (r ∷ records) = with_business r (business_in records)
