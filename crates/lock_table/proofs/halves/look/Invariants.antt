use Rattle.std.proofs.Common.{◌≡◌, ℕ, List, take, Option, None}
use Rattle.std.specs.List.{find, position}
use Rattle.lock_entry.specs.declared.entry.Asked.{Asked}
use Rattle.lock_entry.specs.declared.entry.Asker.{Asker}
use Rattle.lock_entry.specs.declared.entry.Entry.{Entry}
use Rattle.lock_entry.specs.declared.entry.LockName.{LockName}
use Rattle.lock_entry.specs.Names.{has_name}
use Rattle.lock_entry.specs.Barring.{bars}
use Rattle.lock_table.proofs.halves.look.Given as goal

-- none of the first entries bars, and these are the places of the two names among them
pub record Looked (entries : List Entry) (asker : Asker) (asked : Asked) (dialogue update : LockName) (at at' : Option ℕ) : Type 0 where
  pub free : find (bars asker asked) entries ≡ None
  pub dialogue_at : at ≡ position (has_name dialogue) entries
  pub update_at : at' ≡ position (has_name update) entries

abbrev pub invariant-loop-i : goal.invariant-loop-i
invariant-loop-i l = Looked (take l.i l.entries) l.asker l.asked l.dialogue l.update l.places.dialogue l.places.update
