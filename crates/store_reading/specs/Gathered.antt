-- What the rows of the units of a store tell, looked up by the keys of the units.
use Rattle.std.specs.Prelude.{ℕ, ◌≡◌, List, [], Option, Some, None, IsSome, if◌then◌else◌}
use Rattle.std.specs.Global.{Vec}
use Rattle.std.specs.HashMap.{HashMap, get}
use Rattle.std.specs.List.{find, flat_map}
use Rattle.std.specs.Option.{option_map, option_map_or}
use Rattle.enq_base.specs.declared.owner.UnitKey.{UnitKey}
use Rattle.lock_entry.specs.declared.entry.Entry.{Entry}
use Rattle.enq_base.specs.Ids.{id_of, same_id}
use Rattle.update_records.specs.Marks.{is_rec}
use Rattle.update_records.specs.declared.stored.Record.{Record}
use Rattle.update_records.specs.declared.stored.Record.TheVariants as rec
use Rattle.enq_base.specs.declared.unit_id.UnitId.{UnitId}
use Rattle.store_reading.specs.Posting.{AreParts}
use Rattle.store_reading.specs.Standings.{ArePlaces}
use Rattle.store_reading.specs.declared.units.UnitsTold.{UnitsTold}
use Rattle.store_reading.specs.Stores.{entry_in, is_header, user_at, user_told}

-- the user that a record tells of a unit
abbrev pub user_in : UnitKey → Record → Option (List ℕ)
user_in key r = if is_header key r then Some (user_told r) else None

-- the user of each unit that has a header
abbrev pub AreUsers : {S : Type 0} → HashMap UnitId (List ℕ) S → List Record → Type 0
AreUsers users headers = (key : UnitKey) → get same_id users (id_of key) ≡ option_map user_told
    (find (is_header key) headers)

-- the locks of a unit, by its key
abbrev pub entries_for : {S : Type 0} → HashMap UnitId (Vec Entry) S → UnitKey → List Entry
entries_for lists key = option_map_or (λ (list : Vec Entry). list.items) (get same_id lists (id_of key)) []

-- the locks of each unit that has a header
abbrev pub AreEntries : {S : Type 0} → HashMap UnitId (Vec Entry) S → List Record → List Record → Type 0
AreEntries lists headers locks =
    (key : UnitKey) → IsSome (find (is_header key) headers)
    → entries_for lists key ≡ flat_map (entry_in (user_at headers key) key) locks

-- the unit that a mark records
abbrev pub key_in : Record → Option UnitKey
key_in (rec.Mark m) = if is_rec m.kind then Some m.unit else None
key_in r = None

-- what is looked up is what the records tell
pub record AreUnitsTold (told : UnitsTold) (headers steps locks : List Record) : Type 0 where
  pub users : AreUsers told.users headers
  pub places : ArePlaces told.places headers
  pub parts : AreParts told.parts steps
  pub entries : AreEntries told.locks headers locks
