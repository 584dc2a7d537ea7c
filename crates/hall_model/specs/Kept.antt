-- What a state that calls lead to keeps.
use Rattle.std.specs.Prelude.{◌≡◌, ◌≢◌, ◌⊎◌, ℕ, ◌+◌, ◌^◌, ◌≤◌, ◌<◌, Bool, true, false, not, ◌&&◌, nat_eq, List, [], ◌∷◌}
use Rattle.std.specs.Prelude.{length, map, count_by, Option, Some, None, IfSome, IsSomeAnd, IsTrue}
use Rattle.std.specs.List.{AllByRecursion, list_all}
use Rattle.enq_base.specs.declared.condition.Condition.{Condition}
use Rattle.enq_base.specs.declared.condition.Condition.TheVariants as condition
use Rattle.enq_base.specs.declared.owner.Owner.{Owner}
use Rattle.enq_base.specs.declared.owner.Owner.TheVariants.{Dlg, Upd}
use Rattle.enq_base.specs.declared.owner.UnitKey.{UnitKey}
use Rattle.enq_base.specs.declared.unit.Status.{Status}
use Rattle.enq_base.specs.declared.unit.Status.TheVariants.{Open}
use Rattle.lock_entry.specs.declared.entry.Entry.{Entry}
use Rattle.lock_entry.specs.Sound.{IsSound, ReadmitsOnly}
use Rattle.lock_entry.specs.Table.{IsTable}
use Rattle.mode_rules.specs.declared.Mode.TheVariants.{O}
use Rattle.mode_rules.specs.Modes.{same_mode}
use Rattle.ledger_steps.specs.Steps.{IsOpenUnit, IsPostedUnit}
use Rattle.enq_base.specs.declared.unit.Num.{Num}
use Rattle.ledger_steps.specs.Drawn.{AreDrawnRight}
use Rattle.update_records.specs.Business.{numbers_of}
use Rattle.update_records.specs.Ledger.{Ledger}
use Rattle.update_records.specs.Marks.{status_of, unit_at}
use Rattle.update_records.specs.declared.records.Unit.{Unit as UnitOfWork}
use Rattle.hall_model.specs.declared.command.Session.{Session}
use Rattle.hall_model.specs.OpenUnits.{HoldsOpenUnits, OfInFlight, open_entries}
use Rattle.hall_model.specs.Orders.{is_claimed}
use Rattle.hall_model.specs.Sessions.{is_called, is_caller, owners_of}
use Rattle.hall_model.specs.State.{State, is_honest}

-- the session's open unit has at most this number
abbrev pub IsYoung : ℕ → Session → Type 0
IsYoung n x = x.luw ≤ n

-- after so many calls: few sessions and units, since each call makes at most one of each
pub record HasFew (calls : ℕ) (s : State) : Type 0 where
  pub sessions : s.next_session ≤ calls + 1
  pub units : AllByRecursion (IsYoung (calls + 1)) s.sessions

-- the numbers of the sessions rise, and are below the next one
abbrev pub AreNumbered : ℕ → List Session → Type 0
AreNumbered next [] = Unit {0}
AreNumbered next (x ∷ xs) =
    (x.number < next) × AllByRecursion (λ (y : Session). x.number < y.number) xs × AreNumbered next xs

-- no two sessions have one name
abbrev pub HaveOwnNames : List Session → Type 0
HaveOwnNames sessions = (name : List ℕ) → count_by (is_called name) sessions ≤ 1

-- what each session has drawn and not recorded
abbrev pub draws_in : List Session → List (List Num)
draws_in sessions = map (λ (x : Session). x.draws) sessions

-- what the sessions have drawn goes with the intervals, their levels, and the numbers that are recorded
abbrev pub IsDrawn : State → Type 0
IsDrawn s = AreDrawnRight s.ranges s.stored.levels (draws_in s.sessions) (numbers_of s.stored.units s.stored.marks)

-- a unit that is stored has a status
abbrev pub HaveMarks : Ledger → Type 0
HaveMarks ledger = (key : UnitKey) → status_of ledger.units ledger.marks key ≡ None → unit_at ledger.units key ≡ None

-- nothing is recorded of a unit of this start
abbrev pub IsUnheard : Ledger → ℕ → ℕ → Type 0
IsUnheard ledger session luw =
    status_of ledger.units ledger.marks (record { start = ledger.start; session = session; luw = luw }) ≡ None

-- nothing is recorded of the session's open unit, nor of a later one
abbrev pub IsAhead : Ledger → Session → Type 0
IsAhead ledger x = (luw : ℕ) → x.luw ≤ luw → IsUnheard ledger x.number luw

-- nothing is recorded of the units that are yet to come
pub record HasFreshKeys (s : State) : Type 0 where
  pub numbered : AreNumbered s.next_session s.sessions
  pub ahead : AllByRecursion (IsAhead s.stored) s.sessions
  pub later : (session luw : ℕ) → s.next_session ≤ session → IsUnheard s.stored session luw

-- the unit waits for its V1 part or for its V2 part
abbrev pub IsWaiting : Ledger → UnitKey → Type 0
IsWaiting ledger unit = IsOpenUnit ledger unit ⊎ IsPostedUnit ledger unit

-- each order is for a unit that waits for a part, for which no other worker has one
abbrev pub AreOrders : Ledger → List (Option UnitKey) → Type 0
AreOrders ledger [] = Unit {0}
AreOrders ledger (None ∷ orders) = AreOrders ledger orders
AreOrders ledger (Some unit ∷ orders) =
    IsWaiting ledger unit × (is_claimed orders unit ≡ false) × AreOrders ledger orders

-- whether the owner is one of the session of this number, of this start
abbrev pub is_of_session : ℕ → ℕ → Owner → Bool
is_of_session start number (Dlg other session) = nat_eq other start && nat_eq session number
is_of_session start number (Upd unit) = nat_eq unit.start start && nat_eq unit.session number

-- the owner is none of a session that is yet to come
abbrev pub IsKnown : ℕ → ℕ → Owner → Type 0
IsKnown start next owner = (number : ℕ) → next ≤ number → is_of_session start number owner ≡ false

-- where the owner is one of this session's, this is its user
abbrev pub IsUserOf : ℕ → Owner → List ℕ → Session → Type 0
IsUserOf start owner user x = is_of_session start x.number owner ≡ true → user ≡ x.user

-- an owner of one of these sessions has the session's user
abbrev pub HasItsUser : ℕ → List Session → Owner → List ℕ → Type 0
HasItsUser start sessions owner user = AllByRecursion (IsUserOf start owner user) sessions

-- a unit that isn't recorded yet, or that waits for its V1 part
abbrev pub may_hold : Option Status → Bool
may_hold None = true
may_hold (Some Open) = true
may_hold (Some status) = false

-- locks of the update stand for units that aren't recorded yet, and for those that wait for their V1 part
abbrev pub MayHold : Ledger → Owner → Type 0
MayHold ledger (Dlg start session) = Unit {0}
MayHold ledger (Upd unit) = may_hold (status_of ledger.units ledger.marks unit) ≡ true

-- what is said of a lock by its owner and its user
abbrev pub OfLock : (Owner → List ℕ → Type 0) → Entry → Type 0
OfLock Q e = Q e.owner e.user

-- the same of all locks that are stored with a unit
abbrev pub OfStored : (Owner → List ℕ → Type 0) → UnitOfWork → Type 0
OfStored Q unit = AllByRecursion (OfLock Q) unit.entries

-- whose the locks are: those that stand, where they can be told from the calls, and those that are stored with units
pub record IsOwned (honest : Bool) (ledger : Ledger) (next : ℕ) (sessions : List Session) (locks : List Entry) :
    Type 0 where
  pub known : IsTrue honest → AllByRecursion (OfLock (λ owner user. IsKnown ledger.start next owner)) locks
  pub users : IsTrue honest → AllByRecursion (OfLock (HasItsUser ledger.start sessions)) locks
  pub holders : IsTrue honest → AllByRecursion (OfLock (λ owner user. MayHold ledger owner)) locks
  pub stored_known : AllByRecursion (OfStored (λ owner user. IsKnown ledger.start next owner)) ledger.units
  pub stored_users : AllByRecursion (OfStored (HasItsUser ledger.start sessions)) ledger.units

-- a lock that was handed over, and isn't optimistic
abbrev pub is_firm : Entry → Bool
is_firm e = e.handed && not (same_mode e.mode O)

-- the locks that are stored with a unit are its own, have its user, were handed over to it, and can stand together
pub record HasGoodLocks (unit : UnitOfWork) : Type 0 where
  pub own : ReadmitsOnly (owners_of unit.key) unit.entries
  pub firm : list_all is_firm unit.entries ≡ true
  pub used : AllByRecursion (λ (e : Entry). e.user ≡ unit.user) unit.entries

-- the locks of the state may stand together, and so may those of each unit
pub record HasSoundLocks (s : State) : Type 0 where
  pub table : IsTable (record { entries = s.locks; limit = s.limit })
  pub stored : AllByRecursion HasGoodLocks s.stored.units

-- what holds where the server is up
abbrev pub WhileUp : Condition → Type 0 → Type 0
WhileUp condition.Up P = P
WhileUp condition.NoServer P = Unit {0}
WhileUp (condition.Doubt k) P = Unit {0}

-- what holds where the server is not in doubt
abbrev pub OutsideDoubt : Condition → Type 0 → Type 0
OutsideDoubt condition.Up P = P
OutsideDoubt condition.NoServer P = P
OutsideDoubt (condition.Doubt k) P = Unit {0}

-- what holds where there is a table, or where there is none the list of the replica that followed it
abbrev pub WhileListed : Condition → (follows : Bool) → Type 0 → Type 0
WhileListed condition.Up follows P = P
WhileListed condition.NoServer follows P = IsTrue follows → P
WhileListed (condition.Doubt k) follows P = Unit {0}

-- a change is in flight that makes a difference
abbrev pub IsInFlight : Ledger → Option Ledger → Type 0
IsInFlight stored in_flight = IsSomeAnd in_flight (λ changed. changed ≢ stored)

abbrev pub IsKnownRight : Option Bool → Ledger → Option Ledger → Type 0
IsKnownRight found stored in_flight = IfSome found (λ taken. IsTrue taken → IsInFlight stored in_flight)

pub record IsSteady (s : State) : Type 0 where
  pub started : 1 ≤ s.stored.start
  pub limited : s.mark_limit ≤ 1048576
  pub locks_fit : s.max_locks < 2 ^ 32
  pub named : HaveOwnNames s.sessions
  pub drawn : IsDrawn s
  pub marked : HaveMarks s.stored
  -- in doubt alone a change is in flight, or known to be in the store or not, and has a session a call that failed
  pub settled : OutsideDoubt s.condition (s.in_flight ≡ None)
  pub unknown : OutsideDoubt s.condition (s.found ≡ None)
  pub unfailed : OutsideDoubt s.condition (s.failed_caller ≡ None)
  -- a change that is known to be there is in flight
  pub known : IsKnownRight s.found s.stored s.in_flight
  pub fresh : HasFreshKeys s
  pub places : length s.orders ≡ 256
  -- in doubt an order may stand whose unit waits no more
  pub orders : OutsideDoubt s.condition (AreOrders s.stored s.orders)
  pub owned : IsOwned (is_honest s) s.stored s.next_session s.sessions s.locks

-- the locks of the open units may stand together, in a table of 32 bits
pub record CanStand (ledger : Ledger) : Type 0 where
  pub together : IsSound (open_entries ledger)
  pub fit : length (open_entries ledger) < 2 ^ 32

-- Where the locks can be told from the calls, the handed locks of the table are just those of the open units; and these
-- may stand together, so that the next start can take them over, with the change in flight or without it.
pub record HasOpenUnits (s : State) : Type 0 where
  pub held : WhileListed s.condition (s.attached && s.link_told)
      (IsTrue (is_honest s) → HoldsOpenUnits s.locks s.stored)
  pub stored : IsTrue (is_honest s) → CanStand s.stored
  pub in_flight : OfInFlight s.in_flight (λ ledger. IsTrue (is_honest s) → IsSound (open_entries ledger))

-- ---- a change in flight

-- the same session, maybe at its next unit
pub record IsMovedOn (x y : Session) : Type 0 where
  pub name : y.name ≡ x.name
  pub user : y.user ≡ x.user
  pub number : y.number ≡ x.number
  pub low : x.luw ≤ y.luw
  pub high : y.luw ≤ x.luw + 1

-- where it hasn't moved on it is as it was
abbrev pub MayHaveMoved : Bool → Session → Session → Type 0
MayHaveMoved true x y = IsMovedOn x y
MayHaveMoved false x y = y ≡ x

-- only the caller has moved on
abbrev pub AreSameButCaller : Option (List ℕ) → List Session → List Session → Type 0
AreSameButCaller caller [] [] = Unit {0}
AreSameButCaller caller (x ∷ xs) (y ∷ ys) = MayHaveMoved (is_caller caller x) x y × AreSameButCaller caller xs ys
AreSameButCaller caller xs ys = ⊥

-- With the change there is a state in order, over the same ranges and with the same sessions, but for the one whose
-- call it is. Where the locks can be told from the calls, those of its open units may stand together.
pub record HasStateInFlight (s : State) (changed : Ledger) : Type 0 where
  pub state : State
  pub stored : state.stored ≡ changed
  pub ranges : state.ranges ≡ s.ranges
  pub next : state.next_session ≡ s.next_session
  pub sessions : AreSameButCaller s.failed_caller s.sessions state.sessions
  pub steady : IsSteady state
  pub units : AllByRecursion HasGoodLocks changed.units
  pub together : IsTrue (is_honest s) → CanStand changed

pub record IsKept (s : State) : Type 0 where
  pub within : length s.past ≤ 262144
  pub few : HasFew (length s.past) s
  pub steady : IsSteady s
  pub sound : HasSoundLocks s
  pub open_units : HasOpenUnits s
  pub state_in_flight : OfInFlight s.in_flight (HasStateInFlight s)
