-- What is needed of lock tables: which calls leave an owner the locks that it asked for, and that two exclusive ones on one row clash.
use Rattle.std.specs.Prelude.{◌≡◌, ℕ, ◌≤◌, false, List, ◌++◌, Contains, IsTrue, Ok, count_by, fold, length, map}
use Rattle.std.specs.List.{filter, list_all}
use Rattle.enq_base.specs.Owners.{same_owner}
use Rattle.enq_base.specs.declared.owner.Owner.{Owner}
use Rattle.enq_base.specs.declared.owner.Owner.TheVariants.{Upd}
use Rattle.enq_base.specs.declared.owner.UnitKey.{UnitKey}
use Rattle.enq_server.specs.Server.{of_user}
use Rattle.lock_entry.specs.Converting.{Conversion, converted}
use Rattle.lock_entry.specs.Freeing.{freed, freed_owner, handed_over}
use Rattle.lock_entry.specs.Granting.{asked}
use Rattle.lock_entry.specs.Names.{asked_of, count_at, halves, is_of, named, same_asked}
use Rattle.lock_entry.specs.Sound.{IsSound}
use Rattle.lock_entry.specs.Table.{Table}
use Rattle.lock_entry.specs.declared.entry.Asked.{Asked}
use Rattle.lock_entry.specs.declared.entry.Asker.{Asker}
use Rattle.lock_entry.specs.declared.entry.Entry.{Entry}
use Rattle.lock_entry.specs.declared.entry.Request.{Request}
use Rattle.coverage.specs.Locks.{covered, covers, is_exclusive}
use Rattle.coverage.specs.Lacks.{without}

-- how often a lock is among those asked for
abbrev pub often : List Asked → Asked → ℕ
often held a = count_by (same_asked a) held

-- the owner has each of these as often as it is there
abbrev pub Holds : List Entry → Owner → List Asked → Type 0
Holds locks owner held = (a : Asked) → often held a ≤ count_at locks (named owner a)

-- the locks of requests that are the update owner's
abbrev pub update_asked : List Request → List Asked
update_asked requests = map (λ (r : Request). r.asked) (filter (λ (r : Request). r.update) requests)

abbrev pub AreExclusive : List Asked → Type 0
AreExclusive held = IsTrue (list_all (λ (a : Asked). is_exclusive a.mode) held)

-- ---- calls of the session itself

-- locks that were granted: the update owner has those before, and those of the requests
abbrev pub AskingAdds : Type 0
AskingAdds =
    (t : Table) (asker : Asker) (user : List ℕ) (requests : List Request) (locks : List Entry) (held added : List Asked)
    → same_owner asker.dialogue asker.update ≡ false → asked t asker user requests ≡ Ok locks → Holds t.entries asker.update held
    → ((a : Asked) → often added a ≤ often (update_asked requests) a) → Holds locks asker.update (held ++ added)

-- locks that were freed: it has those before but for those of the requests
abbrev pub FreeingLeaves : Type 0
FreeingLeaves =
    (locks : List Entry) (asker : Asker) (requests : List Request) (held : List Asked)
    → same_owner asker.dialogue asker.update ≡ false → Holds locks asker.update held
    → Holds (fold freed locks (halves asker requests)) asker.update (without held (update_asked requests))

-- a conversion takes away no exclusive lock, whoever makes it
abbrev pub ConvertingLeaves : Type 0
ConvertingLeaves =
    (locks : List Entry) (asker : Asker) (asked : List Asked) (c : Conversion) (owner : Owner) (held : List Asked)
    → converted locks asker asked ≡ Ok c → AreExclusive held → Holds locks owner held → Holds c.entries owner held

-- ---- calls of others

abbrev pub AskingLeaves : Type 0
AskingLeaves =
    (t : Table) (asker : Asker) (user : List ℕ) (requests : List Request) (locks : List Entry) (owner : Owner) (held : List Asked)
    → asked t asker user requests ≡ Ok locks → Holds t.entries owner held → Holds locks owner held

-- the requests name no lock of the owner
abbrev pub OthersFreeingLeaves : Type 0
OthersFreeingLeaves =
    (locks : List Entry) (asker : Asker) (requests : List Request) (owner : Owner) (held : List Asked)
    → same_owner asker.dialogue owner ≡ false → same_owner asker.update owner ≡ false → Holds locks owner held
    → Holds (fold freed locks (halves asker requests)) owner held

abbrev pub OwnerFreeingLeaves : Type 0
OwnerFreeingLeaves =
    (locks : List Entry) (other owner : Owner) (held : List Asked) → same_owner other owner ≡ false → Holds locks owner held
    → Holds (freed_owner locks other) owner held

abbrev pub HandingLeaves : Type 0
HandingLeaves =
    (locks : List Entry) (unit : UnitKey) (owner : Owner) (held : List Asked) → AreExclusive held → Holds locks owner held
    → Holds (handed_over locks unit) owner held

-- ---- rows

-- among the locks is an exclusive one of the owner that covers the row
pub record IsCoveredIn (locks : List Entry) (owner : Owner) (table key : List ℕ) : Type 0 where
  pub lock : Entry
  pub stands : Contains locks lock
  pub owned : lock.owner ≡ owner
  pub exclusive : IsTrue (is_exclusive lock.mode)
  pub fits : IsTrue (covers table key (asked_of lock))

-- where what an owner asked for covers a row, one of its locks does: it is one that was asked for
pub record IsCoveredByHeld (locks : List Entry) (owner : Owner) (held : List Asked) (table key : List ℕ) : Type 0 where
  pub covers : IsCoveredIn locks owner table key
  pub asked : Contains held (asked_of covers.lock)

abbrev pub HeldCovers : Type 0
HeldCovers =
    (locks : List Entry) (owner : Owner) (held : List Asked) (table key : List ℕ) → AreExclusive held → Holds locks owner held
    → IsTrue (covered table key held) → IsCoveredByHeld locks owner held table key

-- and it is handed over with the unit, and stored with it
abbrev pub HandingCovers : Type 0
HandingCovers =
    (user : List ℕ) (locks : List Entry) (unit : UnitKey) (held : List Asked) (table key : List ℕ) → AreExclusive held → Holds locks (Upd unit) held
    → IsTrue (covered table key held)
    → IsCoveredByHeld (of_user user (filter (is_of (Upd unit)) (handed_over locks unit))) (Upd unit) held table key

-- no two units have exclusive locks on one row in a table whose locks may stand together, where these locks have one length
abbrev pub OneCovers : Type 0
OneCovers =
    (locks : List Entry) (first second : UnitKey) (table key : List ℕ)
    (a : IsCoveredIn locks (Upd first) table key) (b : IsCoveredIn locks (Upd second) table key)
    → IsSound locks → length a.lock.pattern ≡ length b.lock.pattern → first ≡ second
