-- What is seen of the ledger in memory and of the business rows beside it.
use Rattle.std.specs.Prelude.{ℕ}
use Rattle.module_effects.specs.Rows.{Tables}
use Rattle.update_records.specs.Business.{tables_of}
use Rattle.update_records.specs.Ledger.{Ledger}

-- the business rows that the marks of a ledger make
abbrev pub business : Ledger → Tables
business ledger = tables_of ledger.units ledger.marks

-- the ledger, and how many more units and marks, how many more intervals, and how many more business rows, take no
-- memory
pub record MirrorView : Type 0 where
  pub ledger : Ledger
  pub room : ℕ
  pub spare : ℕ
  pub places : ℕ
