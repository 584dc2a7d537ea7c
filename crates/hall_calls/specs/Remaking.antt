-- A lock server that is made anew, and what that leaves of state, store and backup file.
use Rattle.std.specs.Prelude.{ℕ, ◌≡◌, ◌⊎◌, ◌+◌, Bool, true, false, List, Option, Some, None, IfSome, IsSomeAnd, IsTrue}
use Rattle.std.specs.Option.{option_map}
use Rattle.backup_file.specs.Backup.{BackupView}
use Rattle.enq_base.specs.declared.condition.Bad.TheVariants as bad
use Rattle.enq_base.specs.declared.condition.Condition.{Condition}
use Rattle.enq_base.specs.declared.condition.Condition.TheVariants as condition
use Rattle.enq_base.specs.declared.owner.UnitKey.{UnitKey}
use Rattle.enq_base.specs.declared.refusal.Refusal.{Refusal}
use Rattle.enq_base.specs.declared.refusal.Refusal.TheVariants as refusal
use Rattle.enq_server.specs.declared.fault.OpenFault.{OpenFault}
use Rattle.enq_server.specs.declared.fault.OverFault.{OverFault}
use Rattle.enq_server.specs.declared.fault.OverFault.TheVariants as over
use Rattle.enq_server.specs.declared.fault.OpenFault.TheVariants as opening
use Rattle.keeper_api.specs.Rows.{Rows}
use Rattle.ledger_steps.specs.Views.{open_locks}
use Rattle.lock_entry.specs.Table.{Table}
use Rattle.lock_entry.specs.declared.entry.UnitLocks.{UnitLocks}
use Rattle.posting.specs.declared.opening.BooksFault.{BooksFault}
use Rattle.posting.specs.declared.opening.BooksFault.TheVariants as books
use Rattle.posting.specs.Settling.{FoundAnew}
use Rattle.posting.specs.BooksView.{IsUsable, BooksView}
use Rattle.posting.specs.declared.settling.SettleFault.{SettleFault}
use Rattle.posting.specs.declared.settling.SettleFault.TheVariants as settling
use Rattle.number_ranges.specs.declared.interval.Interval.{Interval}
use Rattle.update_records.specs.Ledger.{Ledger, Levels}
use Rattle.hall_model.specs.Calls.{OfAdmin, Restarts}
use Rattle.hall_model.specs.Devices.{IsAsBefore, is_doubt}
use Rattle.hall_calls.specs.Filing.{AllRecover, HasOpenLists}
use Rattle.ledger_steps.specs.Intervals.{in_row_order}
use Rattle.ledger_steps.specs.Levels.{FitRows, IsFirstUnfit}
use Rattle.ledger_steps.specs.Steps.{after_step}
use Rattle.hall_model.specs.History.{doubted, known_behind}
use Rattle.hall_model.specs.Kept.{IsInFlight}
use Rattle.hall_calls.specs.Leaving.{HasStoreCause, StandForKnown}
use Rattle.hall_model.specs.State.{State}
use Rattle.hall_model.specs.Step.{stored_anew}
use Rattle.hall_model.specs.declared.command.Reply.{Reply}
use Rattle.hall_model.specs.declared.command.Reply.TheVariants as reply
use Rattle.hall_model.specs.declared.command.Session.{Session}
use Rattle.hall_calls.specs.declared.remaking.Remade.{Remade}
use Rattle.hall_calls.specs.declared.remaking.Remade.TheVariants.{Done, Refused, InDoubt}
use Rattle.hall_calls.specs.declared.units.Failure.{Failure}

-- ---- why the lock server wasn't made anew

-- by its backup file
abbrev pub remake_refusal : OpenFault → Refusal
remake_refusal opening.Failed = refusal.BackupFault
remake_refusal (opening.Bad place) = refusal.Unsound (bad.Backup place)
remake_refusal opening.NoMemory = refusal.NoMemory

abbrev pub books_refusal : BooksFault → Refusal
books_refusal books.StoreFault = refusal.StoreFault
books_refusal (books.BadStore table row) = refusal.Unsound (bad.Store table row)
books_refusal books.NoStart = refusal.NoMemory
books_refusal books.NoMemory = refusal.NoMemory

-- a store that has neither what it had nor the change in flight is told by the first of its intervals that is none of
-- the landscape's, a row of table 5, or else by no row, of table 0
abbrev pub IsOtherRefusal : List Interval → Levels → Refusal → Type 0
IsOtherRefusal intervals levels r =
    ((row : ℕ) × IsFirstUnfit intervals (in_row_order levels) row × (r ≡ refusal.Unsound (bad.Store 5 row)))
    ⊎ (FitRows intervals levels × (r ≡ refusal.Unsound (bad.Store 0 0)))

-- by its store, which isn't read, or which has another ledger
abbrev pub IsStoreRefusal : List Interval → SettleFault → Refusal → Type 0
IsStoreRefusal intervals (settling.Books fault) r = r ≡ books_refusal fault
IsStoreRefusal intervals (settling.Other ledger) r = IsOtherRefusal intervals ledger.levels r

-- ---- what it comes to

abbrev pub remade_reply : Remade → Reply
remade_reply (Done taken) = reply.Done
remade_reply (Refused r) = reply.Refused r
remade_reply (InDoubt r read) = reply.Refused r

-- it was done, and the store has the change that was in flight
abbrev pub remade_taken : Remade → Bool
remade_taken (Done taken) = taken
remade_taken (Refused r) = false
remade_taken (InDoubt r read) = false

abbrev pub remade_condition : Condition → ℕ → Remade → Condition
remade_condition before calls (Done taken) = condition.Up
remade_condition before calls (Refused r) = before
remade_condition before calls (InDoubt r read) = condition.Doubt (calls + 1)

-- whether the table was taken over from a replica: not where it was made anew, and else as before
abbrev pub remade_over : Bool → Remade → Bool
remade_over before (Done taken) = false
remade_over before (Refused r) = before
remade_over before (InDoubt r read) = before

-- what is left of the failure since which the server was in doubt
abbrev pub no_failure : Failure
no_failure = record { in_flight = None; found = None; caller = None }

abbrev pub remade_failure : Failure → Remade → Failure
remade_failure before (Done taken) = no_failure
remade_failure before (Refused r) = before
remade_failure before (InDoubt r read) = record before { found = known_behind before.found read }

-- the state behind it, with these sessions, orders and this table, over what the books have then
abbrev pub remade_state : State → List Session → List (Option UnitKey) → Table → Ledger → Remade → State
remade_state s sessions orders table ledger (Done taken) =
    record s {
      condition = condition.Up;
      sessions = sessions;
      orders = orders;
      locks = table.entries;
      limit = table.limit;
      taken_over = false;
      attached = false;
      stored = ledger;
      in_flight = None;
      found = None;
      failed_caller = None;
    }
remade_state s sessions orders table ledger (Refused r) = s
remade_state s sessions orders table ledger (InDoubt r read) =
    record (doubted s (OfAdmin Restarts) read s.in_flight) { sessions = sessions }

-- what is said of a lock server that was made anew
abbrev pub OnRemade : Remade → Type 0 → Type 0
OnRemade (Done taken) P = P
OnRemade (Refused r) P = Unit {0}
OnRemade (InDoubt r read) P = Unit {0}

-- and of one that wasn't
abbrev pub OnNotRemade : Remade → Type 0 → Type 0
OnNotRemade (Done taken) P = Unit {0}
OnNotRemade (Refused r) P = P
OnNotRemade (InDoubt r read) P = P

-- and of one for which no device was called
abbrev pub OnRefusedFirst : Remade → Type 0 → Type 0
OnRefusedFirst (Done taken) P = Unit {0}
OnRefusedFirst (Refused r) P = P
OnRefusedFirst (InDoubt r read) P = Unit {0}

-- ---- what it reads

-- the ledger that the books have once they have what was read, if anything was
abbrev pub ledger_read : Ledger → Option FoundAnew → Ledger
ledger_read before None = before
ledger_read before (Some found) = found.ledger

-- whether the change in flight was found
abbrev pub taken_read : Option FoundAnew → Bool
taken_read None = false
taken_read (Some found) = found.taken

-- the same, if anything was read
abbrev pub taken_in : Option FoundAnew → Option Bool
taken_in None = None
taken_in (Some found) = Some found.taken

-- what may have been in flight, over what was stored before
abbrev pub flight_over : Ledger → Failure → Option Ledger
flight_over ledger failure = option_map (after_step ledger) failure.in_flight

-- where the keeper tells its rows, those that a stop may leave stand for what is stored, with or without the change in
-- flight
abbrev pub LeavesKnown : {K : Type 0} → (K → Option Rows) → (K → Rows → Type 0) → K → Option Bool → Ledger
    → Option Ledger → Type 0
LeavesKnown held may_leave keeper found stored in_flight =
    IfSome (held keeper) (λ _. (left : Rows) → may_leave keeper left → StandForKnown found left stored in_flight)

-- what the store has, with the change in flight or without it, as it was read before if it was
pub record IsFoundRight (before : Ledger) (failure : Failure) (found : FoundAnew) : Type 0 where
  pub ledger : found.ledger ≡ stored_anew found.taken before (flight_over before failure)
  pub flight : IsTrue found.taken → IsInFlight before (flight_over before failure)
  pub known : IsAsBefore failure.found found.taken

-- it is taken up with the locks of its open units, as it was read before if it was
pub record IsTakenUp (found : Option Bool) (reread : FoundAnew) (units : List UnitLocks) (taken_up : Option FoundAnew) :
    Type 0 where
  pub all : taken_up ≡ Some reread
  pub known : IsAsBefore found reread.taken
  pub waiting : units ≡ open_locks reread.ledger

-- or it isn't, since it isn't as it was read before, or since memory is wanting
abbrev pub IsNotTaken : Option Bool → Bool → Remade → Type 0
IsNotTaken found taken (Done done) = ⊥
IsNotTaken found taken (Refused r) = ⊥
IsNotTaken found taken (InDoubt r None) = (r ≡ refusal.Unsound (bad.Store 0 0)) × (IsAsBefore found taken → ⊥)
IsNotTaken found taken (InDoubt r (Some read)) = (r ≡ refusal.NoMemory) × (read ≡ taken) × IsAsBefore found taken

-- it is read in doubt alone
abbrev pub IsReadAs : Condition → Ledger → Failure → Option FoundAnew → Type 0
IsReadAs condition.Up before failure found = found ≡ None
IsReadAs condition.NoServer before failure found = found ≡ None
IsReadAs (condition.Doubt k) before failure found = IsSomeAnd found (IsFoundRight before failure)

-- calls are allowed once the books have what was read
abbrev pub IsUsableAs : {K : Type 0} → (K → Option Rows) → (K → Type 0) → BooksView K → Option FoundAnew → Type 0
IsUsableAs held is_open shelf None = Unit {0}
IsUsableAs held is_open shelf (Some found) = IsUsable held is_open (record shelf { ledger = found.ledger })

-- why the store isn't read, with what was read of the change in flight
abbrev pub IsReadFault : Refusal → Option Bool → Type 0
IsReadFault refusal.StoreFault read = read ≡ None
IsReadFault refusal.NoMemory read = Unit {0}
IsReadFault (refusal.Unsound (bad.Store table row)) read = Unit {0}
IsReadFault r read = ⊥

pub record IsReadInVain {K : Type 0} (held : K → Option Rows) (may_leave : K → Rows → Type 0) (faults : K → ℕ)
    (failure : Failure) (old new : BooksView K) (r : Refusal) (read : Option Bool) : Type 0 where
  pub why : IsReadFault r read
  pub flight : IfSome read (λ taken. IsTrue taken → IsInFlight old.ledger (flight_over old.ledger failure))
  pub known : IfSome read (IsAsBefore failure.found)
  pub cause : HasStoreCause (faults old.keeper) (faults new.keeper) (reply.Refused r)
  pub left : LeavesKnown held may_leave new.keeper (known_behind failure.found read) old.ledger
      (flight_over old.ledger failure)

-- the same of a lock server that isn't made since the store isn't read
abbrev pub IsUnreadInDoubt : {K : Type 0} → (K → Option Rows) → (K → Rows → Type 0) → (K → ℕ) → Failure
    → (old new : BooksView K) → Remade → Type 0
IsUnreadInDoubt held may_leave faults failure old new (Done taken) = ⊥
IsUnreadInDoubt held may_leave faults failure old new (Refused r) = ⊥
IsUnreadInDoubt held may_leave faults failure old new (InDoubt r read) =
    IsReadInVain held may_leave faults failure old new r read

-- or outside doubt since memory is wanting for the units
abbrev pub IsUnread : {K : Type 0} → (K → Option Rows) → (K → Rows → Type 0) → (K → ℕ) → Condition → Failure
    → (old new : BooksView K) → Remade → Type 0
IsUnread held may_leave faults k failure old new (Done taken) = ⊥
IsUnread held may_leave faults k failure old new (Refused r) = (r ≡ refusal.NoMemory) × (is_doubt k ≡ false)
IsUnread held may_leave faults k failure old new (InDoubt r read) =
    (is_doubt k ≡ true) × IsReadInVain held may_leave faults failure old new r read

-- ---- what it leaves

-- what is left of the store, over what it had and the failure before
abbrev pub LeavesRemade : {K : Type 0} → (K → Option Rows) → (K → Rows → Type 0) → K → (before now : Ledger) → Failure
    → Remade → Type 0
LeavesRemade held may_leave keeper before now failure (Done taken) = LeavesKnown held may_leave keeper None now None
LeavesRemade held may_leave keeper before now failure (Refused r) =
    LeavesKnown held may_leave keeper failure.found before (flight_over before failure)
LeavesRemade held may_leave keeper before now failure (InDoubt r read) =
    LeavesKnown held may_leave keeper (known_behind failure.found read) before (flight_over before failure)

-- What is left of the backup file: it is ready with the lists of just the open units, or as it was, or in doubt each
-- image stands for lists with which these agree.
abbrev pub IsLeftReady : {D : Type 0} → (tells : Bool) → (D → List ℕ) → (D → List ℕ → Type 0) → (before now : Ledger)
    → Failure → (old new : BackupView D) → Remade → Type 0
IsLeftReady tells reads may_leave before now failure old new (Done taken) = HasOpenLists tells reads may_leave now new
IsLeftReady tells reads may_leave before now failure old new (Refused r) = new ≡ old
IsLeftReady tells reads may_leave before now failure old new (InDoubt r read) =
    (calls : ℕ) → AllRecover tells may_leave (condition.Doubt (calls + 1)) before (flight_over before failure)
    (known_behind failure.found read) new

-- why the list of a replica doesn't become the table
abbrev pub over_refusal : OverFault → Refusal
over_refusal over.NotAttached = refusal.NotAttached
over_refusal over.Link = refusal.LinkFault
over_refusal (over.Clash first second) = refusal.Unsound (bad.Replica first second)
over_refusal over.NoMemory = refusal.NoMemory
