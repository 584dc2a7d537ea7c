-- How optimistic entries turn into exclusive ones: in a lock table, and in a replica that follows it.
use Rattle.std.specs.Prelude.{ℕ, ◌+◌, min, Bool, ◌&&◌, cond, List, Option, Some, None}
use Rattle.std.specs.List.{filter_map, find}
use Rattle.std.specs.Option.{option_map_or}
use Rattle.std.specs.Str.{bytes_eq}
use Rattle.enq_base.specs.Owners.{same_owner}
use Rattle.enq_base.specs.declared.owner.Owner.{Owner}
use Rattle.mode_rules.specs.declared.Mode.{Mode}
use Rattle.mode_rules.specs.declared.Mode.TheVariants.{S, E, X, O}
use Rattle.lock_entry.specs.declared.entry.Entry.{Entry}
use Rattle.lock_entry.specs.declared.entry.LockName.{LockName}
use Rattle.lock_entry.specs.Names.{has_name, stands}

abbrev pub name_at : Mode → Owner → (table pattern : List ℕ) → LockName
name_at mode owner table pattern =
    record { owner = owner; asked = record { table = table; pattern = pattern; mode = mode } }

-- the name of the entry, in this mode
abbrev pub name_in : Mode → Entry → LockName
name_in mode e = name_at mode e.owner e.table e.pattern

-- the entry with the other's count added, up to 9,999
abbrev pub with_count_of : Entry → Entry → Entry
with_count_of e other = record e { count = min 9999 (e.count + other.count) }

-- what becomes of an entry where the O entries of its owner, table and argument turn: an O entry becomes E, or goes
-- where the E entry stands, and that one takes its count
abbrev pub turned_by : Mode → List Entry → Entry → Option Entry
turned_by O entries e = cond (stands entries (name_in E e)) None (Some (record e { mode = E }))
turned_by E entries e = Some (option_map_or (with_count_of e) (find (has_name (name_in O e)) entries) e)
turned_by S entries e = Some e
turned_by X entries e = Some e

abbrev pub turned_entry : (Entry → Bool) → List Entry → Entry → Option Entry
turned_entry turns entries e = cond (turns e) (turned_by e.mode entries e) (Some e)

-- the O entries turn whose owner, table and argument pass the test
abbrev pub turned : List Entry → (Entry → Bool) → List Entry
turned entries turns = filter_map (turned_entry turns entries) entries

-- the test of one owner, table and argument
abbrev pub is_at : Owner → (table pattern : List ℕ) → Entry → Bool
is_at owner table pattern e = same_owner owner e.owner && (bytes_eq table e.table && bytes_eq pattern e.pattern)

-- the entry of this name takes the other's count
abbrev pub joined : LockName → Entry → Entry → Entry
joined n other e = cond (has_name n e) (with_count_of e other) e

-- the entry of this name becomes exclusive
abbrev pub made_exclusive : LockName → Entry → Entry
made_exclusive n e = cond (has_name n e) (record e { mode = E }) e
