-- The locks of the units that wait for their V1 part, in the table and in the store.
use Rattle.std.specs.Prelude.{◌≡◌, Bool, true, ◌&&◌, nat_lt, List, length, Option, Some, None}
use Rattle.std.specs.List.{AllByRecursion, filter}
use Rattle.enq_base.specs.declared.owner.Owner.{Owner}
use Rattle.enq_base.specs.declared.owner.Owner.TheVariants.{Dlg, Upd}
use Rattle.enq_base.specs.declared.owner.UnitKey.{UnitKey}
use Rattle.enq_base.specs.declared.unit.Status.TheVariants.{Open}
use Rattle.enq_server.specs.Recovery.{joined}
use Rattle.lock_entry.specs.Names.{is_of}
use Rattle.lock_entry.specs.declared.entry.Entry.{Entry}
use Rattle.ledger_steps.specs.Posts.{entries_of}
use Rattle.ledger_steps.specs.Steps.{IsOpenUnit}
use Rattle.ledger_steps.specs.Views.{open_locks}
use Rattle.update_records.specs.Ledger.{Ledger}
use Rattle.update_records.specs.Marks.{has_status, status_of}

-- the unit waits for its V1 part, and locks were stored with it
abbrev pub waits_with_locks : Ledger → UnitKey → Bool
waits_with_locks ledger unit =
    has_status Open (status_of ledger.units ledger.marks unit) && nat_lt 0 (length (entries_of ledger.units unit))

-- ---- in the table

-- the table has just the locks that were stored with the unit, in their order
abbrev pub HasItsLocks : List Entry → Ledger → UnitKey → Type 0
HasItsLocks locks ledger unit = filter (is_of (Upd unit)) locks ≡ entries_of ledger.units unit

-- the update of a unit that waits for its V1 part
abbrev pub IsOpenOwner : Ledger → Owner → Type 0
IsOpenOwner ledger (Dlg start session) = ⊥
IsOpenOwner ledger (Upd unit) = IsOpenUnit ledger unit

-- a lock that was handed over is one of an open unit
abbrev pub IsOpenIfHanded : Ledger → Entry → Type 0
IsOpenIfHanded ledger e = e.handed ≡ true → IsOpenOwner ledger e.owner

-- the handed locks of the table are just the locks of the open units
pub record HoldsOpenUnits (locks : List Entry) (ledger : Ledger) : Type 0 where
  pub units : (unit : UnitKey) → IsOpenUnit ledger unit → HasItsLocks locks ledger unit
  pub handed : AllByRecursion (IsOpenIfHanded ledger) locks

-- the locks of the open units as the store has them, one unit behind the other, the one that has waited longest first
abbrev pub open_entries : Ledger → List Entry
open_entries ledger = joined (open_locks ledger)

-- ---- in both, with a change in flight

-- what is said of the ledger with the change in flight, if there is one
abbrev pub OfInFlight : Option Ledger → (Ledger → Type 0) → Type 0
OfInFlight None P = Unit {0}
OfInFlight (Some in_flight) P = P in_flight
