-- What an actor did.
use Rattle.std.specs.Prelude.{Bool}
use Rattle.turn_lock.specs.declared.history.History.{Ghosts}
use Rattle.turn_tests.specs.declared.actor.Actor.{Actor}

module _ {S A E : Type 0} {g : Ghosts S E} where
  -- its act ran once, and this is its answer
  abbrev pub HasActed : (A → S → A → S → Bool → Type 0) → Actor S A E g → Actor S A E g → Type 0
  HasActed does before after = (x y : S) × does before.act x after.act y after.answer
