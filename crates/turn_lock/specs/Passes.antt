-- What clauses say of a lock and its passes.
use Rattle.std.specs.Prelude.{◌≡◌, ◌<◌, ◌++◌, ℕ, List, All, drop, length}
use mathlib.Core.List.{IsPrefix}
use Rattle.turn_lock.specs.declared.history.History.{Ghosts}
use Rattle.turn_lock.specs.declared.view.View.{View}
use Rattle.turn_lock.specs.declared.pass.Pass.{Pass}
use Rattle.turn_lock.specs.declared.lock.TurnLock.{TurnLock}
use Rattle.turn_lock.specs.Rule.{called, own_entries}

module _ {S E : Type 0} {g : Ghosts S E} where
  -- what the pass knows
  abbrev pub known : Pass S E g → View E
  known p = p.seat.me.0

  abbrev pub IsPassOf : TurnLock S E → Pass S E g → Type 0
  IsPassOf lock p = p.seat.table_id ≡ lock.table.shared.table_id

-- the parts of all passes of the lock
abbrev pub all_parts : {S E : Type 0} → TurnLock S E → ℕ
all_parts lock = lock.table.shared.key.0

-- One turn: the act ran once, on a state whose history begins with what the pass had seen. The pass has then seen the
-- whole history of the state that the act left, and what the act added to it is the pass's own, behind all that was its
-- own
pub record IsTurn {S E : Type 0} (past : S → List E) (does : S → S → Type 0) (v w : View E) : Type 0 where
  pub before : S
  pub after : S
  pub ran : does before after
  pub began : IsPrefix v.seen (past before)
  pub grew : IsPrefix (past before) (past after)
  pub behind : All (λ k. k < length (past before)) v.own
  pub knows : w ≡ called (past before) (past after) v
  pub own : own_entries w ≡ own_entries v ++ drop (length (past before)) (past after)
