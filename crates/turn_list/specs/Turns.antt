-- The turns in which units wait.
use Rattle.std.specs.Prelude.{ℕ, List, Option}
use Rattle.std.specs.List.{filter_map}
use Rattle.enq_base.specs.declared.owner.UnitKey.{UnitKey}

-- at each turn the unit that waits, if any, and how many more turns take no memory
pub record TurnsView : Type 0 where
  pub turns : List (Option UnitKey)
  pub room : ℕ

-- those that wait, in the order of their turns
abbrev pub waiting_in : List (Option UnitKey) → List UnitKey
waiting_in turns = filter_map (λ turn. turn) turns
