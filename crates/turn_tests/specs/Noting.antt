-- What a pass has of its own after a turn in which a number is noted.
use Rattle.std.specs.Prelude.{◌≡◌, ◌∷◌, ◌++◌, [], ℕ, Bool, MatchBool}
use Rattle.turn_lock.specs.declared.history.History.{Ghosts}
use Rattle.turn_lock.specs.declared.pass.Pass.{Pass}
use Rattle.turn_lock.specs.Passes.{known}
use Rattle.turn_lock.specs.Rule.{own_entries}

module _ {S : Type 0} {g : Ghosts S ℕ} where
  -- the pass has this one entry more, where it was noted
  abbrev pub NotedOne : Pass S ℕ g → Pass S ℕ g → ℕ → Bool → Type 0
  NotedOne before after number noted =
      MatchBool noted
      (own_entries (known after) ≡ own_entries (known before) ++ number ∷ [])
      (own_entries (known after) ≡ own_entries (known before))
