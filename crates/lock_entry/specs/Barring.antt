-- Which entries bar a request.
use Rattle.std.specs.Prelude.{◌≡◌, Bool, true, false, ◌&&◌, ◌||◌, IsTrue}
use Rattle.std.specs.Str.{bytes_eq}
use Rattle.mode_rules.specs.declared.Mode.{Mode}
use Rattle.mode_rules.specs.declared.Mode.TheVariants.{X}
use Rattle.mode_rules.specs.Modes.{modes_clash, same_mode}
use Rattle.lock_entry.specs.declared.entry.Asked.{Asked}
use Rattle.lock_entry.specs.declared.entry.Asker.{Asker}
use Rattle.lock_entry.specs.declared.entry.Entry.{Entry}
use Rattle.lock_entry.specs.Argument.{Meets, meets}
use Rattle.lock_entry.specs.Names.{asked_of}
use Rattle.lock_entry.specs.Pairs.{in_pair}

-- one table, and arguments that meet
abbrev pub places_meet : Asked → Asked → Bool
places_meet a b = bytes_eq a.table b.table && meets a.pattern b.pattern

-- inside the pair X alone bars, outside it the modes that clash
abbrev pub modes_bar : (inside : Bool) → (held asked : Mode) → Bool
modes_bar true held asked = same_mode held X || same_mode asked X
modes_bar false held asked = modes_clash held asked

-- the entry meets the request, and its owner is outside the pair and the modes clash, or inside it and one of them is X
abbrev pub bars : Asker → Asked → Entry → Bool
bars asker asked e = places_meet (asked_of e) asked && modes_bar (in_pair asker e.owner) e.mode asked.mode

-- one table, and a key that fits both arguments
pub record PlacesMeet (a b : Asked) : Type 0 where
  pub table : a.table ≡ b.table
  pub arguments : Meets a.pattern b.pattern

-- what `bars` tests, in terms of keys
pub record Bars (asker : Asker) (asked : Asked) (e : Entry) : Type 0 where
  pub meets : PlacesMeet (asked_of e) asked
  pub modes : IsTrue (modes_bar (in_pair asker e.owner) e.mode asked.mode)
