-- What the keepers show.
use Rattle.std.specs.Prelude.{ℕ, Bool, false, List}
use Rattle.enq_base.specs.Causes.{one_more}
use Rattle.keeper_sqlite.specs.declared.gate.Gate.{Gate}

-- shut by a fault, which is counted
abbrev pub after_fault : Gate → Gate
after_fault gate = record { is_open = false; faults = one_more gate.faults }

-- the file's path, whether calls other than `reopen` are allowed, and how many calls failed
pub record FileView : Type 0 where
  pub path : List ℕ
  pub is_open : Bool
  pub faults : ℕ

-- whether there was a `reopen`, whether other calls are allowed, and how many calls failed
pub record AdoptedView : Type 0 where
  pub was_opened : Bool
  pub is_open : Bool
  pub faults : ℕ
