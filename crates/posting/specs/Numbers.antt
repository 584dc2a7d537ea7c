-- What holds of the committed numbers of a good store.
use Rattle.std.specs.Prelude.{ℕ, ◌≡◌, ◌≤◌, ◌+◌, ◌-◌, nat_eq, false, List, IfSome, IsSome}
use Rattle.std.specs.FinMap.{get}
use Rattle.std.specs.List.{All, IsDistinct, range_with_len}
use Rattle.enq_base.specs.declared.unit.Num.{Num as Number}
use Rattle.module_effects.specs.Rows.{RowName}
use Rattle.update_records.specs.Business.{interval_of, numbers_from, numbers_of}
use Rattle.update_records.specs.Ledger.{Ledger}

-- all numbers that the marks commit, in order
abbrev pub committed : Ledger → List Number
committed ledger = numbers_of ledger.units ledger.marks

-- those of one interval
abbrev pub drawn_from : Ledger → RowName → List ℕ
drawn_from ledger name = numbers_from name (committed ledger)

-- no number of an interval is committed twice, and none outside what was drawn from it; without a buffer they are
-- consecutive from the first to the level; and each has its interval
pub record AreNumbersRight (ledger : Ledger) : Type 0 where
  pub once : (name : RowName) → IsDistinct nat_eq (drawn_from ledger name)
  pub consecutive : (name : RowName) → IfSome (get ledger.levels name) (λ level. level.buffered ≡ false
      → drawn_from ledger name ≡ range_with_len level.from (level.level + 1 - level.from))
  pub within : (name : RowName) → IfSome (get ledger.levels name) (λ level.
      All (λ n. (level.from ≤ n) × (n ≤ level.level)) (drawn_from ledger name))
  pub stored : All (λ num. IsSome (get ledger.levels (interval_of num))) (committed ledger)
