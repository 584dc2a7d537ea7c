-- What is seen of the ledger in memory.
use Rattle.std.specs.Prelude.{ℕ}
use Rattle.update_records.specs.Ledger.{Ledger}

-- the ledger, and how many more units and marks, and how many more intervals, take no memory
pub record RegisterView : Type 0 where
  pub ledger : Ledger
  pub room : ℕ
  pub spare : ℕ
