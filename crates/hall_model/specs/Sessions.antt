-- Sessions that log on and off.
use Rattle.std.specs.Prelude.{ℕ, ◌+◌, Bool, true, false, not, ◌||◌, if◌then◌else◌, List, [], ◌∷◌, ◌++◌, Option, Some}
use Rattle.std.specs.Prelude.{None, map}
use Rattle.std.specs.List.{find, filter, list_any}
use Rattle.std.specs.Str.{bytes_eq}
use Rattle.enq_base.specs.declared.owner.UnitKey.{UnitKey}
use Rattle.enq_base.specs.declared.unit.Num.{Num}
use Rattle.enq_base.specs.declared.owner.Owner.TheVariants.{Dlg, Upd}
use Rattle.lock_entry.specs.Freeing.{replace_first}
use Rattle.lock_entry.specs.Pairs.{in_pair}
use Rattle.lock_entry.specs.declared.entry.Asker.{Asker}
use Rattle.lock_entry.specs.declared.entry.Entry.{Entry}
use Rattle.hall_model.specs.declared.command.Session.{Session}

abbrev pub is_called : List ℕ → Session → Bool
is_called name x = bytes_eq x.name name

-- the session of this name
abbrev pub session_at : List Session → List ℕ → Option Session
session_at sessions name = find (is_called name) sessions

-- the sessions but for the one of this name
abbrev pub without_session : List ℕ → List Session → List Session
without_session name sessions = filter (λ x. not (is_called name x)) sessions

-- the sessions, with the one of this name changed
abbrev pub with_session : List ℕ → (Session → Session) → List Session → List Session
with_session name change sessions = replace_first (is_called name) (λ x. change x ∷ []) sessions

-- a session that has just logged on
abbrev pub begun : List ℕ → List ℕ → ℕ → Session
begun name user number =
    record { name = name; user = user; number = number; luw = 1; draws = []; marked = false; lost = false }

-- the session with its next unit open, for which nothing is drawn yet
abbrev pub with_next_unit : Session → Session
with_next_unit x = record x { luw = x.luw + 1; draws = [] }

-- a session that rolls back may go on, also where it lost a lock with a lock server
abbrev pub with_fresh_unit : Session → Session
with_fresh_unit x = record (with_next_unit x) { lost = false }

-- the session has one number more
abbrev pub with_draw : Num → Session → Session
with_draw num x = record x { draws = x.draws ++ num ∷ [] }

-- what it has drawn is recorded
abbrev pub without_draws : Session → Session
without_draws x = record x { draws = [] }

-- the unit that a session has open
abbrev pub unit_key : ℕ → Session → UnitKey
unit_key start x = record { start = start; session = x.number; luw = x.luw }

-- the dialogue owner of a session, and the update owner of its open unit
abbrev pub pair_of : ℕ → Session → Asker
pair_of start x = record { dialogue = Dlg start x.number; update = Upd (unit_key start x) }

-- one of the locks is of the session's dialogue or of its open unit
abbrev pub has_one_of : ℕ → List Entry → Session → Bool
has_one_of start locks x = list_any (λ (e : Entry). in_pair (pair_of start x) e.owner) locks

-- whether the session had a lock in a table that is gone
abbrev pub with_mark : (Session → Bool) → Session → Session
with_mark had_lock x = record x { marked = had_lock x }

-- each session with its mark
abbrev pub with_marks : (Session → Bool) → List Session → List Session
with_marks had_lock sessions = map (with_mark had_lock) sessions

-- none of them had one
abbrev pub without_marks : List Session → List Session
without_marks sessions = with_marks (λ x. false) sessions

-- a session that lost a lock with a lock server: its open unit comes to nothing, and it has to roll back first
abbrev pub bereft : Session → Session
bereft x = record (with_next_unit x) { marked = false; lost = true }

-- the session is the one of this name
abbrev pub is_caller : Option (List ℕ) → Session → Bool
is_caller None x = false
is_caller (Some name) x = is_called name x

-- the session is marked, or made the call in which a device failed
abbrev pub loses : Option (List ℕ) → Session → Bool
loses caller x = x.marked || is_caller caller x

-- that is so of each session that loses
abbrev pub bereft_if : Option (List ℕ) → Session → Session
bereft_if caller x = if loses caller x then bereft x else x

-- the dialogue of the session that recorded a unit, and the unit's update
abbrev pub owners_of : UnitKey → Asker
owners_of unit = record { dialogue = Dlg unit.start unit.session; update = Upd unit }
