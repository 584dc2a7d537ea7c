-- Numbers that sessions draw, and what becomes of them.
use Rattle.std.specs.Prelude.{◌≡◌, ℕ, ◌+◌, Bool, true, false, not, ◌&&◌, nat_eq, nat_le, nat_lt, List, [], ◌∷◌, length}
use Rattle.std.specs.Prelude.{if◌then◌else◌, Option, Some, None}
use Rattle.std.specs.List.{find}
use Rattle.enq_base.specs.declared.unit.Num.{Num}
use Rattle.number_ranges.specs.Draws.{RangeState}
use Rattle.number_ranges.specs.Intervals.{block_level, is_buffered, with_level}
use Rattle.number_ranges.specs.declared.interval.Interval.{Interval}
use Rattle.ledger_steps.specs.Intervals.{with_intervals}
use Rattle.ledger_steps.specs.Drawn.{drawn_of, handed_out, num_of, passed, settled_rows, stored_as}
use Rattle.ledger_steps.specs.Levels.{present, range_at}
use Rattle.ledger_steps.specs.declared.range.NumberRange.{NumberRange}
use Rattle.update_records.specs.Ledger.{Ledger, Levels}
use Rattle.hall_model.specs.declared.command.Session.{Session}
use Rattle.hall_model.specs.Sessions.{is_called, session_at, with_draw, with_session}
use Rattle.hall_model.specs.State.{State}

-- the session has drawn numbers of the interval that are neither recorded nor given back
abbrev pub holds : Interval → Session → Bool
holds i x = nat_lt 0 (drawn_of i x.draws)

-- another session that an interval belongs to; a buffered one belongs to nobody
abbrev pub other_holder : List Session → List ℕ → Interval → Option Session
other_holder sessions name i =
    if is_buffered i then None else find (λ x. not (is_called name x) && holds i x) sessions

-- the number that is drawn next: from memory, or behind those that the session has drawn
abbrev pub next_number : NumberRange → Interval → Session → ℕ
next_number r i x = if is_buffered i then r.next else i.level + drawn_of i x.draws + 1

-- the level that reserves a number: without a buffer none has to
abbrev pub level_for : Interval → ℕ → ℕ
level_for i number = if is_buffered i then block_level i number else i.level

-- a level that is raised to this one, if it isn't there
abbrev pub raised_by : Interval → ℕ → Ledger → Ledger
raised_by i level ledger =
    if nat_eq level i.level then ledger else with_intervals (stored_as (with_level level i) ∷ []) ledger

-- A level that doesn't reach this number is raised, in whole blocks that do. One that reaches it is written nowhere.
abbrev pub raised_to : Interval → ℕ → Ledger → Ledger
raised_to i upto ledger =
    if nat_le upto i.level then ledger
    else with_intervals (stored_as (with_level (block_level i upto) i) ∷ []) ledger

-- memory and level after a number of a buffered interval
abbrev pub from_memory : Interval → ℕ → State → State
from_memory i number s =
    if is_buffered i
    then record s { ranges = handed_out i s.ranges; stored = raised_to i number s.stored }
    else s

-- what a session draws next of an interval: nothing stands against it, and the level is one that reserves the number
pub record IsNextDraw (sessions : List Session) (ranges : List NumberRange) (levels : Levels) (name object nr : List ℕ)
    (i : Interval) (number level : ℕ) (draws : List Num) : Type 0 where
  pub session : Session
  pub found : session_at sessions name ≡ Some session
  pub range : NumberRange
  pub chosen : range_at ranges object nr ≡ Some range
  pub interval : i ≡ present levels range.interval
  pub few : nat_le 64 (length session.draws) ≡ false
  pub free : other_holder sessions name i ≡ None
  pub next : number ≡ next_number range i session
  pub within : nat_lt i.to number ≡ false
  pub reserved : level ≡ level_for i number
  pub drawn : draws ≡ (with_draw (num_of i number) session).draws

-- what a session may reserve next: numbers up to this one, with this level
pub record IsNextReserve (sessions : List Session) (ranges : List NumberRange) (levels : Levels)
    (name object nr : List ℕ) (upto : ℕ) (i : Interval) (level : ℕ) : Type 0 where
  pub session : Session
  pub found : session_at sessions name ≡ Some session
  pub range : NumberRange
  pub chosen : range_at ranges object nr ≡ Some range
  pub interval : i ≡ present levels range.interval
  pub buffered : is_buffered i ≡ true
  pub within : nat_lt i.to upto ≡ false
  pub reserved : level ≡ level_for i upto

-- the session has the number
abbrev pub drawn : State → Session → Interval → ℕ → State
drawn s x i number =
    from_memory i number (record s { sessions = with_session x.name (with_draw (num_of i number)) s.sessions })

-- the store with these numbers recorded, the levels of intervals without a buffer at the last of them
abbrev pub with_numbers : State → List Num → Ledger → Ledger
with_numbers s numbers ledger = with_intervals (settled_rows s.stored.levels s.ranges numbers) ledger

-- memory hands out what is behind these numbers of a stock
abbrev pub stocked : List Num → State → State
stocked stock s = record s { ranges = passed stock s.ranges }

-- ---- ranges as their monitor shows them

-- the session that an interval belongs to; a buffered one belongs to nobody
abbrev pub holder_of : List Session → Interval → Option Session
holder_of sessions i = if is_buffered i then None else find (holds i) sessions

-- the number that memory hands out next; an interval without a buffer has none but the one behind its level
abbrev pub next_of : NumberRange → Interval → ℕ
next_of r i = if is_buffered i then r.next else i.level + 1

-- the interval with its present level, the session that it belongs to, how many numbers that has drawn, and the next
-- number of memory
abbrev pub shown_range : Interval → ℕ → Option Session → RangeState
shown_range i next None = record { interval = i; holder = None; drawn = 0; next = next }
shown_range i next (Some x) = record { interval = i; holder = Some x.name; drawn = drawn_of i x.draws; next = next }

-- a range with these sessions, over these levels
abbrev pub range_shown : List Session → Levels → NumberRange → RangeState
range_shown sessions levels r =
    let i = present levels r.interval in
    shown_range i (next_of r i) (holder_of sessions i)

abbrev pub range_state : State → NumberRange → RangeState
range_state s r = range_shown s.sessions s.stored.levels r
