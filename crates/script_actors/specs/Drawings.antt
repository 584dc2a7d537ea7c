-- Numbers that a session draws from stocks, without a call of the server, and what becomes of them.
use Rattle.std.specs.Prelude.{◌≡◌, ℕ, ◌+◌, Bool, true, false, nat_le, List, [], ◌∷◌, ◌++◌, fold, map, min}
use Rattle.std.specs.Prelude.{if◌then◌else◌, Option, Some, None}
use Rattle.std.specs.List.{find}
use Rattle.enq_base.specs.declared.refusal.Refusal.{Refusal}
use Rattle.enq_base.specs.declared.refusal.Refusal.TheVariants as refusal
use Rattle.enq_base.specs.declared.unit.Num.{Num}
use Rattle.hall_model.specs.History.{is_unrecorded}
use Rattle.hall_model.specs.declared.command.Command.{Command}
use Rattle.hall_model.specs.declared.command.Command.TheVariants as command
use Rattle.hall_model.specs.declared.command.PastEntry.{PastEntry}
use Rattle.hall_model.specs.declared.command.Reply.{Reply}
use Rattle.hall_model.specs.declared.command.Reply.TheVariants as reply
use Rattle.number_ranges.specs.Intervals.{code_of, is_buffered, is_named}
use Rattle.number_ranges.specs.declared.interval.Interval.{Interval}
use Rattle.script_actors.specs.declared.drawing.Drawing.{Drawing as Drawn}
use Rattle.script_actors.specs.declared.uncommitted.Settling.{Settling}
use Rattle.script_actors.specs.declared.uncommitted.Settling.TheVariants as settling

-- a call with its answer, as the history keeps it; who makes it follows from the command
pub record DeskCall : Type 0 where
  pub line : ℕ
  pub command : Command
  pub reply : Reply

abbrev pub desk_call : PastEntry → DeskCall
desk_call e = record { line = e.line; command = e.command; reply = e.reply }

-- A number of a stock that a line asked for, with its answer. Where the numbers that are reserved ran out it needed a
-- reservation, which is a call of the server.
pub record Drawing : Type 0 where
  pub line : ℕ
  pub object : List ℕ
  pub nr : List ℕ
  pub reservation : Option DeskCall
  pub reply : Reply

-- what a desk did: a call that the history keeps, or a drawing
pub data DeskEntry : Type 0 where
  Called : DeskCall → DeskEntry
  Drew : Drawing → DeskEntry

-- ---- what the history has of it

abbrev pub calls_of : DeskEntry → List DeskCall
calls_of (Called c) = c ∷ []
calls_of (Drew d) = elim d.reservation [ None ↦ [] | Some c ↦ c ∷ [] ]

abbrev pub calls_in : List DeskEntry → List DeskCall
calls_in [] = []
calls_in (e ∷ es) = calls_of e ++ calls_in es

-- the calls with one more, unless the history keeps none that is answered so
abbrev pub with_call : List DeskCall → ℕ → Command → Reply → List DeskCall
with_call calls n c r = if is_unrecorded r then calls else calls ++ record { line = n; command = c; reply = r } ∷ []

-- the same among all that a desk did
abbrev pub with_called : List DeskEntry → ℕ → Command → Reply → List DeskEntry
with_called entries n c r =
    if is_unrecorded r then entries else entries ++ Called (record { line = n; command = c; reply = r }) ∷ []

-- ---- how a drawing is answered

-- the reservation of numbers up to this one
abbrev pub reservation_of : List ℕ → Drawing → ℕ → Reply → DeskCall
reservation_of session d upto r = record { line = 0; command = command.Reserve session d.object d.nr upto; reply = r }

-- A number was reserved before, or by the reservation of this drawing, up to just this number. A reservation that is
-- refused is the drawing's answer, also where the history keeps none that is refused so.
pub data IsDrawing (session : List ℕ) (i : Interval) (d : Drawing) : Type 0 where
  Ready : (n : ℕ) → d.reservation ≡ None → d.reply ≡ reply.Number n (code_of i n) → IsDrawing session i d
  Reserved : (n level : ℕ) → d.reservation ≡ Some (reservation_of session d n (reply.Level level))
      → d.reply ≡ reply.Number n (code_of i n) → IsDrawing session i d
  Refused : (n : ℕ) (x : Refusal) → d.reservation ≡ Some (reservation_of session d n (reply.Refused x))
      → d.reply ≡ reply.Refused x → IsDrawing session i d
  Unkept : (x : Refusal) → d.reservation ≡ None → d.reply ≡ reply.Refused x → is_unrecorded (reply.Refused x) ≡ true
      → IsDrawing session i d

-- ---- the numbers of a session's next COMMIT

-- the number that was drawn, if one was
abbrev pub number_in : List ℕ → List ℕ → Reply → List Num
number_in object nr (reply.Number n code) = record { object = object; nr = nr; number = n } ∷ []
number_in object nr r = []

abbrev pub is_done : Reply → Bool
is_done reply.Done = true
is_done r = false

-- a COMMIT that is recorded, or that has nothing to record
abbrev pub is_committed : Reply → Bool
is_committed (reply.Unit unit) = true
is_committed reply.Done = true
is_committed r = false

-- a COMMIT whose numbers may be recorded: that of a store which failed may be there
abbrev pub may_be_committed : Reply → Bool
may_be_committed (reply.Refused refusal.StoreFault) = true
may_be_committed r = is_committed r

abbrev pub settling_of : Command → Settling
settling_of (command.Commit session parts stock) = settling.Commits
settling_of (command.Rollback session) = settling.GivesUp
settling_of (command.Logoff session) = settling.GivesUp
settling_of c = settling.Neither

-- behind a call that is answered so the session has no numbers that its next COMMIT hands over
abbrev pub settles : Settling → Reply → Bool
settles settling.Commits r = may_be_committed r
settles settling.GivesUp r = is_done r
settles settling.Neither r = false

abbrev pub stock_left : List Num → Settling → Reply → List Num
stock_left stock s r = if settles s r then [] else stock

abbrev pub stock_behind : List Num → DeskEntry → List Num
stock_behind stock (Called c) = stock_left stock (settling_of c.command) c.reply
stock_behind stock (Drew d) = stock ++ number_in d.object d.nr d.reply

-- the numbers of stocks that were drawn and are neither handed over nor given up, in the order of their lines
abbrev pub stock_of : List DeskEntry → List Num
stock_of entries = fold stock_behind [] entries

-- ---- all numbers that were drawn

abbrev pub drawn_at : ℕ → Num → Drawn
drawn_at line num = record { line = line; num = num }

-- each with its line, in the order of their lines, whatever became of them
abbrev pub drawn_in : List DeskEntry → List Drawn
drawn_in [] = []
drawn_in (Called c ∷ es) = drawn_in es
drawn_in (Drew d ∷ es) = map (drawn_at d.line) (number_in d.object d.nr d.reply) ++ drawn_in es

-- ---- how many numbers a unit has

-- behind a call that is answered so the session has no uncommitted numbers
abbrev pub ends_unit : Settling → Reply → Bool
ends_unit settling.Commits r = is_committed r
ends_unit settling.GivesUp r = is_done r
ends_unit settling.Neither r = false

abbrev pub is_number : Reply → Bool
is_number (reply.Number n code) = true
is_number r = false

abbrev pub one_number : Reply → ℕ
one_number r = if is_number r then 1 else 0

abbrev pub count_left : ℕ → Settling → Reply → ℕ
count_left n s r = if ends_unit s r then 0 else n + one_number r

abbrev pub count_behind : ℕ → DeskEntry → ℕ
count_behind n (Called c) = count_left n (settling_of c.command) c.reply
count_behind n (Drew d) = n + one_number d.reply

-- how many numbers the session has that aren't committed, of the server and of stocks together, by its answers
abbrev pub uncommitted : List DeskEntry → ℕ
uncommitted entries = fold count_behind 0 entries

-- ---- what a line asks of its desk

pub data Asking : Type 0 where
  -- this call
  Makes : Command → Asking
  -- a number of a stock
  Draws : Interval → Asking
  -- nothing more, since it is refused so
  Declined : Refusal → Asking

abbrev pub interval_at : List Interval → List ℕ → List ℕ → Option Interval
interval_at intervals object nr = find (is_named object nr) intervals

-- a number of this interval, for a session with so many that aren't committed
abbrev pub drawing_at : ℕ → Command → Option Interval → Asking
drawing_at count c None = Makes c
drawing_at count c (Some i) =
    if nat_le 64 count then Declined refusal.UnitTooLarge else if is_buffered i then Draws i else Makes c

-- a number of an interval with a buffer comes from its stock, and a COMMIT has the numbers of stocks
abbrev pub asking : List Interval → List DeskEntry → Command → Asking
asking intervals entries (command.Number session object nr) =
    drawing_at (uncommitted entries) (command.Number session object nr) (interval_at intervals object nr)
asking intervals entries (command.Commit session parts stock) =
    Makes (command.Commit session parts (stock_of entries))
asking intervals entries c = Makes c

-- a COMMIT with these numbers of stocks
abbrev pub with_stock : List Num → Command → Command
with_stock nums (command.Commit session parts stock) = command.Commit session parts nums
with_stock nums c = c

-- 64 where there are more
abbrev pub capped : ℕ → ℕ
capped n = min n 64
