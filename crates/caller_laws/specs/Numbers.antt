-- What a session's lines, its calls and its drawings say of numbers of intervals with a buffer.
use Rattle.std.specs.Prelude.{◌≡◌, ℕ, Bool, true, false, Contains, IfSome, List, map, Some}
use Rattle.std.specs.List.{AllByRecursion, filter}
use Rattle.hall_model.specs.declared.command.Command.{Command}
use Rattle.hall_model.specs.declared.command.Command.TheVariants as command
use Rattle.hall_model.specs.declared.command.PastEntry.{PastEntry}
use Rattle.hall_model.specs.declared.command.Who.TheVariants as caller
use Rattle.number_ranges.specs.Intervals.{is_buffered}
use Rattle.number_ranges.specs.declared.interval.Interval.{Interval}
use Rattle.script_actors.specs.Actors.{is_stop, lines_of_actor, saying}
use Rattle.script_actors.specs.Drawings.{DeskCall, DeskEntry, Drawing, Drew, IsDrawing, calls_in, desk_call, drawn_in}
use Rattle.script_actors.specs.Drawings.{interval_at}
use Rattle.script_actors.specs.declared.actor.Said.{Said}
use Rattle.script_actors.specs.declared.line.NumberedLine.{NumberedLine}
use Rattle.script_lang.specs.declared.script_line.ScriptLine.TheVariants as line
use Rattle.turn_desks.specs.Parts.{IsPart}
use Rattle.caller_laws.specs.Callers.{entries_by}
use Rattle.caller_laws.specs.Doing.{Left}

-- it calls for no number of an interval with a buffer
abbrev pub IsNoBuffered : List Interval → Command → Type 0
IsNoBuffered intervals (command.Number session object nr) =
    IfSome (interval_at intervals object nr) (λ i. is_buffered i ≡ false)
IsNoBuffered intervals c = Unit {0}

-- no call of the history does
abbrev pub NoneBuffered : List Interval → List PastEntry → Type 0
NoneBuffered intervals past = AllByRecursion (λ (e : PastEntry). IsNoBuffered intervals e.command) past

-- ---- the drawings of a session's lines

-- a line, and what became of the number that it asked for
pub record LineDraw : Type 0 where
  pub line : NumberedLine
  pub drawing : Drawing

-- The line asks for a number of an interval with a buffer, and was answered as drawings are: with a number that was
-- reserved before, or by the one reservation that it made, up to just this number, or with the refusal of that.
pub record IsLineDraw (intervals : List Interval) (session : List ℕ) (x : LineDraw) : Type 0 where
  pub variable : List ℕ
  pub asks : x.line.line ≡ line.Num session x.drawing.object x.drawing.nr variable
  pub number : x.drawing.line ≡ x.line.number
  pub interval : Interval
  pub found : interval_at intervals x.drawing.object x.drawing.nr ≡ Some interval
  pub buffered : is_buffered interval ≡ true
  pub is : IsDrawing session interval x.drawing

abbrev pub drawings_of : List LineDraw → List DeskEntry
drawings_of draws = map (λ (x : LineDraw). Drew x.drawing) draws

abbrev pub is_reserve : Command → Bool
is_reserve (command.Reserve session object nr upto) = true
is_reserve c = false

abbrev pub is_reservation : DeskCall → Bool
is_reservation c = is_reserve c.command

-- unless the drawing stopped the session, its reply is among what the lines were answered
abbrev pub IsAnswered : List Said → LineDraw → Type 0
IsAnswered said x = is_stop x.drawing.reply ≡ false → Contains said (saying x.line.number x.drawing.reply)

-- What a session did with numbers of stocks. The calls by which it reserved numbers belong to its drawings, in order,
-- and the numbers that it drew are theirs.
pub record DrewNumbers (intervals : List Interval) (lines : List NumberedLine) (past : List PastEntry)
    (session : List ℕ) (left : Left) : Type 0 where
  pub draws : List LineDraw
  -- each is of a line of the session, in the order of these
  pub order : IsPart (map (λ (x : LineDraw). x.line) draws) (lines_of_actor (caller.Session session) lines)
  pub each : AllByRecursion (IsLineDraw intervals session) draws
  pub reserved : filter is_reservation (map desk_call (entries_by (caller.Session session) past))
      ≡ calls_in (drawings_of draws)
  pub drawn : left.drawn ≡ drawn_in (drawings_of draws)
  pub answered : IfSome left.said (λ said. AllByRecursion (IsAnswered said) draws)
