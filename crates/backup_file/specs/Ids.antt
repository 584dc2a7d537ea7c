-- Units and names of locks, as sets look them up.
use Rattle.std.specs.Prelude.{ℕ, Bool, ◌==◌, ◌&&◌}
use Rattle.std.specs.Str.{bytes_eq}
use Rattle.enq_base.specs.declared.owner.Owner.{Owner}
use Rattle.enq_base.specs.declared.owner.Owner.TheVariants.{Dlg, Upd}
use Rattle.enq_base.specs.Ids.{id_of, same_id}
use Rattle.lock_entry.specs.declared.entry.Entry.{Entry}
use Rattle.mode_rules.specs.Modes.{mode_number}
use Rattle.backup_file.specs.declared.ids.LockId.{LockId}
use Rattle.enq_base.specs.declared.unit_id.UnitId.{UnitId}

-- 0 for a dialogue, 1 for an update
abbrev pub kind_of : Owner → ℕ
kind_of (Dlg start session) = 0
kind_of (Upd unit) = 1

-- the numbers of an owner, a dialogue as a unit with the number 0
abbrev pub numbers_of : Owner → UnitId
numbers_of (Dlg start session) = record { start = start; session = session; luw = 0 }
numbers_of (Upd unit) = id_of unit

-- what names an entry
abbrev pub lock_id : Entry → LockId
lock_id e = record {
  kind = kind_of e.owner;
  numbers = numbers_of e.owner;
  table = e.table;
  pattern = e.pattern;
  mode =
      mode_number e.mode;
}

abbrev pub same_lock : LockId → LockId → Bool
same_lock a b = (a.kind == b.kind && same_id a.numbers b.numbers)
    && ((bytes_eq a.table b.table && bytes_eq a.pattern b.pattern) && a.mode == b.mode)
