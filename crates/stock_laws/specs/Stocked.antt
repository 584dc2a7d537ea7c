-- A stock of numbers of an interval with a buffer, from which sessions draw beside the hall, and what is so of a state
-- in which they may be committed.
use Rattle.std.specs.Prelude.{◌≡◌, ◌⊎◌, ℕ, ◌+◌, ◌<◌, ◌≤◌, Bool, true, false, All, Contains, List, [], ◌++◌}
use Rattle.std.specs.Prelude.{Option, count_by, map, nat_eq}
use Rattle.std.specs.List.{AllByRecursion}
use Rattle.enq_base.specs.declared.refusal.Refusal.TheVariants as refusal
use Rattle.enq_base.specs.declared.unit.Num.{Num}
use Rattle.number_ranges.specs.Intervals.{block_level, is_buffered, is_named}
use Rattle.number_ranges.specs.declared.interval.Interval.{Interval}
use Rattle.update_records.specs.Business.{numbers_of}
use Rattle.update_records.specs.Ledger.{Ledger, Levels}
use Rattle.ledger_steps.specs.Drawn.{AreOfOne, drawn_from, drawn_of, times}
use Rattle.ledger_steps.specs.Levels.{intervals_of, level_in, present}
use Rattle.ledger_steps.specs.declared.range.NumberRange.{NumberRange}
use Rattle.hall_model.specs.Calls.{Call, OfSession, SessionCall, Draws, Commits}
use Rattle.hall_model.specs.OpenUnits.{OfInFlight}
use Rattle.hall_model.specs.State.{State}
use Rattle.hall_model.specs.declared.command.Reply.{Reply}
use Rattle.hall_model.specs.declared.command.Reply.TheVariants as reply
use Rattle.hall_model.specs.declared.command.Session.{Session}

-- What is known of a stock: its interval, the number of its first ticket, how many tickets may be answered, and those
-- that sessions handed over as they committed. A ticket's number is the first one plus the ticket.
pub record Lot : Type 0 where
  pub interval : Interval
  pub base : ℕ
  pub limit : ℕ
  pub handed : List ℕ

abbrev pub IsAmong : ℕ → List ℕ → Type 0
IsAmong t tickets = 1 ≤ count_by (nat_eq t) tickets

-- no ticket is there twice
abbrev pub AreDistinct : List ℕ → Type 0
AreDistinct tickets = (t : ℕ) → count_by (nat_eq t) tickets < 2

-- a number that an earlier start gave out, or that of a ticket which was handed over
abbrev pub WasGiven : Lot → ℕ → Type 0
WasGiven b n = (n < b.base) ⊎ ((t : ℕ) × (n ≡ b.base + t) × IsAmong t b.handed)

-- so are all numbers of the interval that stand among these
abbrev pub AreGiven : Lot → List Num → Type 0
AreGiven b nums = (n : ℕ) → 1 ≤ times b.interval n nums → WasGiven b n

-- a ledger with no lower a level of the interval, which has no other numbers of it
pub record GoesOn (b : Lot) (levels : Levels) (ledger : Ledger) : Type 0 where
  pub risen : level_in levels b.interval ≤ level_in ledger.levels b.interval
  pub given : AreGiven b (numbers_of ledger.units ledger.marks)

-- the session has drawn no number of the interval by the hall
abbrev pub HasNone : Interval → Session → Type 0
HasNone i x = drawn_of i x.draws ≡ 0

pub record IsLotOf (ranges : List NumberRange) (sessions : List Session) (stored : Ledger) (in_flight : Option Ledger)
    (b : Lot) : Type 0 where
  pub one : Contains (intervals_of ranges) b.interval
  pub buffered : is_buffered b.interval ≡ true
  pub first : b.interval.from ≤ b.base
  -- the level reserves the numbers of all tickets that may be answered
  pub level : b.base + b.limit ≤ level_in stored.levels b.interval + 1
  pub committed : AreGiven b (numbers_of stored.units stored.marks)
  pub flight_goes : OfInFlight in_flight (GoesOn b stored.levels)
  pub undrawn : AllByRecursion (HasNone b.interval) sessions

-- the numbers of the lot's other tickets up to the limit are free to be committed
abbrev pub IsStocked : State → Lot → Type 0
IsStocked s b = IsLotOf s.ranges s.sessions s.stored s.in_flight b

-- ---- calls

-- The call was refused, and it has left no change in flight: where the store fails it may have.
abbrev pub is_undone : Reply → Bool
is_undone (reply.Refused refusal.StoreFault) = false
is_undone (reply.Refused r) = true
is_undone r = false

abbrev pub SessionRespects : Lot → SessionCall → Type 0
SessionRespects b (Draws object nr) = is_named object nr b.interval ≡ false
SessionRespects b (Commits parts stock) = AreGiven b stock
SessionRespects b call = Unit {0}

-- the call draws no number of the interval by the hall, and the tickets of those that it commits are handed over
abbrev pub Respects : Lot → Call → Type 0
Respects b (OfSession session call) = SessionRespects b call
Respects b call = Unit {0}

-- ---- a stock that is committed

-- its numbers of the interval are those of tickets, in order, that may be answered and weren't handed over before
pub record IsShare (b : Lot) (stock : List Num) : Type 0 where
  pub tickets : List ℕ
  pub numbers : drawn_from b.interval stock ≡ map (λ t. b.base + t) tickets
  pub below : All (λ t. t < b.limit) tickets
  pub distinct : AreDistinct (b.handed ++ tickets)

pub record HasLot (s : State) (stock : List Num) (i : Interval) : Type 0 where
  pub lot : Lot
  pub own : lot.interval ≡ i
  pub stocked : IsStocked s lot
  pub share : IsShare lot stock

-- each number is of an interval, and each interval that has a number among them has a lot
pub record IsOfLots (s : State) (stock : List Num) : Type 0 where
  pub known : AreOfOne (intervals_of s.ranges) stock
  pub lots : (i : Interval) → Contains (intervals_of s.ranges) i → 1 ≤ drawn_of i stock → HasLot s stock i

-- ---- other lots

-- at a start tickets begin behind the level, and none may be answered yet
abbrev pub first_lot : Levels → Interval → Lot
first_lot levels i = record { interval = i; base = level_in levels i + 1; limit = 0; handed = [] }

-- these tickets are handed over too
abbrev pub handing : List ℕ → Lot → Lot
handing tickets b = record b { handed = b.handed ++ tickets }

-- so many tickets may be answered
abbrev pub limited : ℕ → Lot → Lot
limited limit b = record b { limit = limit }

-- a level that was told is the interval's, reaches this number, and is whole blocks above the level before
pub record HasReached (before after : Levels) (i : Interval) (upto level : ℕ) : Type 0 where
  pub reached : upto ≤ level
  pub stands : level_in after i ≡ level
  pub blocks : level ≡ block_level (present before i) upto

-- a reservation is told a level, or refused
abbrev pub answers_reservation : Reply → Bool
answers_reservation (reply.Level level) = true
answers_reservation (reply.Refused r) = true
answers_reservation r = false

-- a commit is done, or its unit is recorded, or it is refused
abbrev pub answers_commit : Reply → Bool
answers_commit reply.Done = true
answers_commit (reply.Unit unit) = true
answers_commit (reply.Refused r) = true
answers_commit r = false
