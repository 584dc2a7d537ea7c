-- What a pass has of its own after turns that were counted.
use Rattle.std.specs.Prelude.{◌≡◌, ◌+◌, ℕ, length}
use Rattle.turn_lock.specs.declared.history.History.{Ghosts}
use Rattle.turn_lock.specs.declared.pass.Pass.{Pass}
use Rattle.turn_lock.specs.Passes.{known}
use Rattle.turn_lock.specs.Rule.{own_entries}

module _ {S E : Type 0} {g : Ghosts S E} where
  -- how many entries are the pass's own
  abbrev pub own_count : Pass S E g → ℕ
  own_count pass = length (own_entries (known pass))

  -- the pass has so many entries of its own more
  abbrev pub AddedEntries : Pass S E g → Pass S E g → ℕ → Type 0
  AddedEntries before after more = own_count after ≡ own_count before + more
