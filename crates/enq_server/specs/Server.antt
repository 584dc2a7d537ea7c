-- A lock table and its backup file.
use Rattle.std.specs.Prelude.{ℕ, ◌≡◌, ◌≤◌, Bool, ◌&&◌, not, [], ◌∷◌, ◌++◌, List, length, if◌then◌else◌, map, nat_le}
use Rattle.std.specs.Prelude.{Ok, Option, Some, None}
use Rattle.std.specs.List.{All, filter}
use Rattle.std.specs.Option.{option_map_or}
use Rattle.enq_base.specs.declared.owner.Owner.{Owner}
use Rattle.enq_base.specs.declared.owner.Owner.TheVariants.{Upd}
use Rattle.enq_base.specs.declared.owner.UnitKey.{UnitKey}
use Rattle.mode_rules.specs.declared.Mode.TheVariants.{O}
use Rattle.mode_rules.specs.Modes.{same_mode}
use Rattle.lock_entry.specs.Converting.{converted}
use Rattle.lock_entry.specs.Freeing.{freed_owner}
use Rattle.lock_entry.specs.Names.{is_of}
use Rattle.lock_entry.specs.Table.{Table}
use Rattle.lock_entry.specs.declared.entry.Asked.{Asked}
use Rattle.lock_entry.specs.declared.entry.Asker.{Asker}
use Rattle.lock_entry.specs.declared.entry.Entry.{Entry}
use Rattle.lock_entry.specs.declared.entry.UnitLocks.{UnitLocks}
use Rattle.backup_file.specs.Backup.{BackupView, IsHandFor, IsReady, ReadyView}
use Rattle.backup_file.specs.File.{Stands}
use Rattle.backup_file.specs.Plans.{IsShortened}
use Rattle.backup_file.specs.Handing.{handed_of}
use Rattle.backup_file.specs.Lists.{after}
use Rattle.backup_file.specs.declared.handed.Handed.{Handed}
use Rattle.backup_file.specs.declared.handed.Record.TheVariants.{Hand}
use Rattle.enq_server.specs.Replica.{ReplicaView}
use Rattle.enq_server.specs.Recovery.{Agrees, joined, lists_among}

-- `table` is `no_table` where none stands
pub record Server (D L : Type 0) : Type 0 where
  pub stands : Bool
  pub table : Table
  pub file : BackupView D
  pub replica : ReplicaView L

-- what a lock server has beside its table
pub record Remains (D L : Type 0) : Type 0 where
  pub file : BackupView D
  pub replica : ReplicaView L

abbrev pub no_table : Table
no_table = record { entries = []; limit = 0 }

-- the table of a store, where one stands
abbrev pub table_of : {T : Type 0} → (T → Table) → Option T → Table
table_of table store = option_map_or table store no_table

abbrev pub larger : ℕ → ℕ → ℕ
larger a b = if nat_le a b then b else a

-- the table of the units' entries: where they are more than the limit, it is their number
abbrev pub recovered : ℕ → List UnitLocks → Table
recovered limit units = record { entries = joined units; limit = larger limit (length (joined units)) }

-- the table of a replica's list
abbrev pub replicated : ℕ → List Entry → Table
replicated limit entries = record { entries = entries; limit = larger limit (length entries) }

-- the bytes stood for lists with which the units agree, and the file is ready with those of these units alone
pub record IsFreed {D : Type 0} (reads : D → List ℕ) (may_leave : D → List ℕ → Type 0) (bytes : List ℕ)
    (units : List UnitLocks) (file : BackupView D) : Type 0 where
  pub lists : List Handed
  pub stood : Stands bytes lists
  pub agree : All (Agrees lists) units
  pub ready : IsReady reads may_leave file (lists_among units lists)

-- The same, and the log in force of the file has one hand of each of these lists and no other record, unless the
-- generation in force was at its end before.
pub record IsRecovered {D : Type 0} (reads : D → List ℕ) (may_leave : D → List ℕ → Type 0) (bytes : List ℕ)
    (units : List UnitLocks) (file : BackupView D) : Type 0 where
  pub freed : IsFreed reads may_leave bytes units file
  pub shortened : IsShortened bytes (reads file.disk) (lists_among units freed.lists)

-- an S, E or X entry of the unit
abbrev pub is_lasting : UnitKey → Entry → Bool
is_lasting unit e = is_of (Upd unit) e && not (same_mode e.mode O)

-- the unit's S, E and X entries
abbrev pub lasting : UnitKey → List Entry → List Entry
lasting unit entries = filter (is_lasting unit) entries

-- the entry under this user
abbrev pub with_user : List ℕ → Entry → Entry
with_user user e = record e { user = user }

abbrev pub of_user : List ℕ → List Entry → List Entry
of_user user entries = map (with_user user) entries

-- the lists with that of the unit last, where it has entries
abbrev pub with_list : UnitKey → List Entry → List Handed → List Handed
with_list unit [] l = l
with_list unit (e ∷ es) l = after l (Hand (handed_of unit (e ∷ es)))

-- ready to be written is the unit's list, and nothing where it has no entries
abbrev pub IsListFor : UnitKey → List Entry → Option ReadyView → Type 0
IsListFor unit entries None = entries ≡ []
IsListFor unit entries (Some ready) = (1 ≤ length entries) × IsHandFor unit entries ready

-- the given entries stand in place of the owner's, behind those of the others
abbrev pub put_back : List Entry → Owner → List Entry → List Entry
put_back entries owner given = freed_owner entries owner ++ given

-- the conversion leaves these entries
abbrev pub IsConverted : List Entry → Asker → List Asked → List Entry → Type 0
IsConverted entries asker asked after = (removed : List Entry)
    × (converted entries asker asked ≡ Ok (record { entries = after; removed = removed }))
