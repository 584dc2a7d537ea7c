-- Handing a unit's entries over.
use Rattle.std.specs.Prelude.{◌≡◌, ℕ, ◌<◌, ◌≤◌, true, List, length, map, IsTrue}
use Rattle.std.specs.List.{AllByRecursion}
use Rattle.enq_base.specs.Grammar.{is_name, is_pattern}
use Rattle.enq_base.specs.declared.owner.UnitKey.{UnitKey}
use Rattle.enq_base.specs.declared.owner.Owner.TheVariants.{Upd}
use Rattle.lock_entry.specs.declared.entry.Entry.{Entry}
use Rattle.backup_file.specs.declared.handed.Handed.{Handed}
use Rattle.backup_file.specs.declared.handed.Record.TheVariants.{Hand}
use Rattle.backup_file.specs.Spelling.{IsRecord, user_of}
use Rattle.mode_rules.specs.Modes.{mode_number}
use Rattle.lock_entry.specs.Names.{has_distinct_names}

-- the table and the argument are in their grammars
pub record HasNames (e : Entry) : Type 0 where
  pub table : IsTrue (is_name e.table)
  pub pattern : IsTrue (is_pattern e.pattern)

-- an entry that the unit may hand over: its own, of mode S, E or X, and with a count in its range
pub record MayBeHanded (unit : UnitKey) (e : Entry) : Type 0 where
  pub owned : e.owner ≡ Upd unit
  pub lasting : 0 < mode_number e.mode
  pub counted : 0 < e.count
  pub countable : e.count ≤ 9999

pub record IsHandable (unit : UnitKey) (entries : List Entry) : Type 0 where
  pub some : 0 < length entries
  pub each : AllByRecursion (MayBeHanded unit) entries
  pub distinct : IsTrue (has_distinct_names entries)

-- the entry as the file has it
abbrev pub as_handed : List ℕ → Entry → Entry
as_handed user e =
    record {
      owner = e.owner;
      user = user;
      table = e.table;
      pattern = e.pattern;
      mode = e.mode;
      count =
          e.count;
      handed = true;
    }

-- the list as the file has it: each entry is handed, and has the user of the first
abbrev pub handed_of : UnitKey → List Entry → Handed
handed_of unit entries = record { unit = unit; entries = map (as_handed (user_of entries)) entries }

-- a list as a hand record of the file may have it
pub record IsList (h : Handed) : Type 0 where
  pub is_record : IsRecord (Hand h)
  pub distinct : IsTrue (has_distinct_names h.entries)
