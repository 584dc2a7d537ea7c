-- What one actor makes of its lines: a session, or the administrator.
use Rattle.std.specs.List.{filter}
use Rattle.std.specs.Prelude.{◌≡◌, ◌+◌, ◌≤◌, ℕ, Bool, true, false, List, [], ◌∷◌, ◌++◌, if◌then◌else◌}
use Rattle.std.specs.Prelude.{Contains, IfSome, MatchBool, Option, Some, None, count_by, is_some}
use Rattle.enq_base.specs.declared.refusal.Refusal.{Refusal}
use Rattle.enq_base.specs.declared.refusal.Refusal.TheVariants as refusal
use Rattle.hall_model.specs.declared.command.Command.{Command}
use Rattle.hall_model.specs.declared.command.Command.TheVariants as command
use Rattle.hall_model.specs.declared.command.Reply.{Reply}
use Rattle.hall_model.specs.declared.command.Reply.TheVariants as reply
use Rattle.hall_model.specs.declared.command.Who.{Who}
use Rattle.hall_model.specs.declared.command.Who.TheVariants as caller
use Rattle.lock_objects.specs.Objects.{Object}
use Rattle.number_ranges.specs.Intervals.{is_buffered, is_named}
use Rattle.number_ranges.specs.declared.interval.Interval.{Interval}
use Rattle.dialogue_session.specs.Private.{Private}
use Rattle.script_lang.specs.declared.script_line.ScriptLine.{ScriptLine}
use Rattle.script_lang.specs.declared.script_line.ScriptLine.TheVariants as line
use Rattle.script_runner.specs.Lines.{Calls, Declines, Changes, Meaning, meaning, settled}
use Rattle.script_runner.specs.Sides.{side_of}
use Rattle.script_runner.specs.World.{setting}
use Rattle.script_actors.specs.Doers.{is_done_by}
use Rattle.script_actors.specs.Drawings.{Asking, DeskCall, DeskEntry, Drawing, Declined, Draws, Drew, IsDrawing, Makes}
use Rattle.script_actors.specs.Drawings.{asking, interval_at, stock_of, with_called}
use Rattle.script_actors.specs.Texts.{reply_text}
use Rattle.script_actors.specs.declared.actor.Done.{Done}
use Rattle.script_actors.specs.declared.actor.Done.TheVariants as done
use Rattle.script_actors.specs.declared.actor.Said.{Said}
use Rattle.script_actors.specs.declared.line.NumberedLine.{NumberedLine}

-- an actor's lines, in the order of the script
abbrev pub lines_of_actor : Who → List NumberedLine → List NumberedLine
lines_of_actor w lines = filter (λ (l : NumberedLine). is_done_by w l.line) lines

-- ---- calls

-- what is known of a script's surroundings: the lock objects and the intervals of its landscape
pub record Land : Type 0 where
  pub objects : List Object
  pub intervals : List Interval

abbrev pub land_of : List Object → List Interval → Land
land_of objects intervals = record { objects = objects; intervals = intervals }

abbrev pub is_full : Reply → Bool
is_full (reply.Refused refusal.LogFull) = true
is_full r = false

-- the line of the last call that found the history full, with one call more
abbrev pub full_after : Option ℕ → ℕ → Reply → Option ℕ
full_after before n r = if is_full r then Some n else before

-- what is seen of a desk: what it did, and the line of the last call that found the history full
pub record DeskView : Type 0 where
  pub entries : List DeskEntry
  pub full_at : Option ℕ

abbrev pub desk_view : {K : Type 0} → (K → List DeskEntry) → (K → Option ℕ) → K → DeskView
desk_view entries full_at desk = record { entries = entries desk; full_at = full_at desk }

-- a desk with one call more
abbrev pub with_asked : DeskView → ℕ → Command → Reply → DeskView
with_asked v n c r = record { entries = with_called v.entries n c r; full_at = full_after v.full_at n r }

-- a desk with one drawing more
abbrev pub with_drawn : DeskView → Drawing → DeskView
with_drawn v d = record { entries = v.entries ++ Drew d ∷ []; full_at = full_after v.full_at d.line d.reply }

-- What may be asked of a desk that did this: a COMMIT has the numbers that its drawings gave, and a number of an
-- interval with a buffer is no call.
abbrev pub MayAskIn : List Interval → List DeskEntry → Command → Type 0
MayAskIn intervals entries (command.Commit session parts stock) = stock ≡ stock_of entries
MayAskIn intervals entries (command.Number session object nr) =
    IfSome (interval_at intervals object nr) (λ i. is_buffered i ≡ false)
MayAskIn intervals entries c = Unit {0}

-- an actor stops behind a call that finds the history full, or for which memory was wanting
abbrev pub is_stop : Reply → Bool
is_stop (reply.Refused refusal.NoMemory) = true
is_stop (reply.Refused refusal.LogFull) = true
is_stop r = false

-- ---- private sides

-- a session that has a private side keeps it where it is logged on once more
abbrev pub keeps_side : ScriptLine → List Private → Bool
keeps_side (line.Logon s user) sides = is_some (side_of sides s)
keeps_side l sides = false

-- the private sides behind a call's answer
abbrev pub followed : ScriptLine → Reply → List Private → List Private
followed l r sides = if keeps_side l sides then sides else settled l r sides

-- ---- what is done

-- What an actor has so far: its private sides, its calls with their answers at the desk, what its other lines were
-- answered, and whether a call stopped it.
pub record Deeds : Type 0 where
  pub sides : List Private
  pub desk : DeskView
  pub said : List Said
  pub stopped : Bool

abbrev pub deeds : List Private → DeskView → List Said → Bool → Deeds
deeds sides desk said stopped = record { sides = sides; desk = desk; said = said; stopped = stopped }

-- before any line, behind these calls
abbrev pub no_deeds : DeskView → Deeds
no_deeds desk = deeds [] desk [] false

abbrev pub saying : ℕ → Reply → Said
saying n r = record { line = n; text = reply_text r }

-- The answers behind a call. Its own stands in the history, but for an idle one, which no call of an actor has.
abbrev pub with_answer : List Said → ℕ → Reply → List Said
with_answer said n (reply.Refused refusal.Idle) = said ++ saying n (reply.Refused refusal.Idle) ∷ []
with_answer said n r = said

-- what a desk answers a line: the reply, and of a drawing the reservation that it needed
pub record Given : Type 0 where
  pub reply : Reply
  pub reservation : Option DeskCall

abbrev pub drawing : ℕ → Interval → Given → Drawing
drawing n i g = record { line = n; object = i.object; nr = i.nr; reservation = g.reservation; reply = g.reply }

-- The answers behind a drawing: its own, unless it stopped the actor.
abbrev pub with_number : List Said → ℕ → Reply → List Said
with_number said n r = if is_stop r then said else said ++ saying n r ∷ []

-- what a line asks of the desk is done, which answers it so
abbrev pub asks : Deeds → NumberedLine → Given → Asking → Deeds
asks d l g (Makes c) =
    deeds (followed l.line g.reply d.sides) (with_asked d.desk l.number c g.reply)
    (with_answer d.said l.number g.reply) (is_stop g.reply)
asks d l g (Draws i) =
    deeds (followed l.line g.reply d.sides) (with_drawn d.desk (drawing l.number i g))
    (with_number d.said l.number g.reply) (is_stop g.reply)
asks d l g (Declined x) = deeds d.sides d.desk (d.said ++ saying l.number (reply.Refused x) ∷ []) false

-- What a line comes to is done: what it asks of the desk, or else a change of the private side or a refusal, which is
-- said.
abbrev pub acts : List Interval → Deeds → NumberedLine → Given → Meaning → Deeds
acts intervals d l g (Calls c) = asks d l g (asking intervals d.desk.entries c)
acts intervals d l g (Declines x) = deeds d.sides d.desk (d.said ++ saying l.number (reply.Refused x) ∷ []) false
acts intervals d l g (Changes sides) = deeds sides d.desk (d.said ++ saying l.number reply.Done ∷ []) false
acts intervals d l g m = d

abbrev pub own_meaning : List Object → List Private → NumberedLine → Meaning
own_meaning objects sides l = meaning (setting objects sides) l.line

-- one line, with what the desk answers it, if it asks something; an actor that was stopped does no more
abbrev pub does : Land → Deeds → NumberedLine → Given → Deeds
does land d l g = if d.stopped then d else acts land.intervals d l g (own_meaning land.objects d.sides l)

abbrev pub session_of : Who → List ℕ
session_of (caller.Session s) = s
session_of w = []

-- a drawing is answered as drawings are, and a call needs no reservation
abbrev pub IsGivenFor : Who → ℕ → Given → Asking → Type 0
IsGivenFor w n g (Draws i) = IsDrawing (session_of w) i (drawing n i g)
IsGivenFor w n g a = g.reservation ≡ None

abbrev pub IsGiven : Land → Who → Deeds → NumberedLine → Given → Meaning → Type 0
IsGiven land w d l g (Calls c) = IsGivenFor w l.number g (asking land.intervals d.desk.entries c)
IsGiven land w d l g m = Unit {0}

-- the line was done: what it asked was answered somehow, or it asked nothing
abbrev pub DoesLine : Land → Who → NumberedLine → Deeds → Deeds → Type 0
DoesLine land w l old new =
    (g : Given) × IsGiven land w old l g (own_meaning land.objects old.sides l) × (new ≡ does land old l g)

-- the lines were done one behind another, until a call stopped the actor
abbrev pub DoesLines : Land → Who → List NumberedLine → Deeds → Deeds → Type 0
DoesLines land w [] old new = new ≡ old
DoesLines land w (l ∷ lines) old new = (d : Deeds) × DoesLine land w l old d × DoesLines land w lines d new

-- the first of these lines were
abbrev pub DoesFirst : Land → Who → List NumberedLine → Deeds → Deeds → Type 0
DoesFirst land w lines old new =
    (first : List NumberedLine) × (later : List NumberedLine) × (lines ≡ first ++ later)
    × DoesLines land w first old new

-- All lines were done, or those up to a call that stopped the actor: what is new at the desk is theirs, and of those
-- whose answer isn't in the history these are the answers.
abbrev pub AddsDone : Land → Who → List NumberedLine → DeskView → DeskView → List Said → Type 0
AddsDone land w lines old new said =
    (sides : List Private) × (stopped : Bool)
    × DoesLines land w (lines_of_actor w lines) (no_deeds old) (deeds sides new said stopped)

-- what is new at the desk is of the first of the lines
abbrev pub AddsPart : Land → Who → List NumberedLine → DeskView → DeskView → Type 0
AddsPart land w lines old new =
    (d : Deeds) × DoesFirst land w (lines_of_actor w lines) (no_deeds old) d × (new ≡ d.desk)

-- ---- one line

-- what such a step of an actor comes to, whatever was said before it
abbrev pub ComesTo : (Deeds → Deeds → Type 0) → NumberedLine → List Private → DeskView → List Private → DeskView → Done
    → Type 0
ComesTo step l sides desk sides_now desk_now done.Called =
    (said : List Said) → step (deeds sides desk said false) (deeds sides_now desk_now said false)
ComesTo step l sides desk sides_now desk_now (done.Answered r) =
    (said : List Said)
    → step (deeds sides desk said false) (deeds sides_now desk_now (said ++ saying l.number r ∷ []) false)
ComesTo step l sides desk sides_now desk_now done.Stopped =
    (said : List Said) → step (deeds sides desk said false) (deeds sides_now desk_now said true)
ComesTo step l sides desk sides_now desk_now done.Wanting = desk_now ≡ desk

-- what one line of an actor comes to
abbrev pub DoneAs : Land → Who → NumberedLine → List Private → DeskView → List Private → DeskView → Done → Type 0
DoneAs land w l = ComesTo (DoesLine land w l) l

-- what a line whose call is answered so comes to
abbrev pub called_as : Reply → Done
called_as (reply.Refused refusal.NoMemory) = done.Stopped
called_as (reply.Refused refusal.LogFull) = done.Stopped
called_as (reply.Refused refusal.Idle) = done.Answered (reply.Refused refusal.Idle)
called_as r = done.Called

-- what a line whose drawing is answered so comes to
abbrev pub drawn_as : Reply → Done
drawn_as r = if is_stop r then done.Stopped else done.Answered r

-- a refusal before any call is the line's answer, or wants memory
abbrev pub refused_as : Refusal → Done
refused_as refusal.NoMemory = done.Wanting
refused_as r = done.Answered (reply.Refused r)

-- ---- what an actor's lines need of its desk

-- a line that asks for a number of this interval
abbrev pub is_number_of : Interval → ScriptLine → Bool
is_number_of i (line.Num s object nr variable) = is_named object nr i
is_number_of i l = false

-- how many numbers of the interval an actor's lines ask for
abbrev pub numbers_asked : Interval → Who → List NumberedLine → ℕ
numbers_asked i w lines = count_by (λ (l : NumberedLine). is_number_of i l.line) (lines_of_actor w lines)

-- of each interval with a buffer as many numbers may be drawn as the actor's lines ask for
abbrev pub HasEnough : List Interval → Who → List NumberedLine → (left : Interval → ℕ) → Type 0
HasEnough intervals w lines left =
    (i : Interval) → Contains intervals i → is_buffered i ≡ true → numbers_asked i w lines ≤ left i

-- the desk may draw a number of the interval of this name
pub record HasDraw (intervals : List Interval) (left : Interval → ℕ) (object nr : List ℕ) : Type 0 where
  pub interval : Interval
  pub found : interval_at intervals object nr ≡ Some interval
  pub buffered : is_buffered interval ≡ true
  pub one : 1 ≤ left interval

-- of the interval of this name one draw at most is taken, and of the others none
abbrev pub TakesOne : List ℕ → List ℕ → (old new : Interval → ℕ) → Type 0
TakesOne object nr old new =
    (i : Interval) → MatchBool (is_named object nr i) (old i ≤ new i + 1) (new i ≡ old i)

-- a line of the script was done where it is the actor's, and else passed over
abbrev pub TakesLine : Land → Who → NumberedLine → Deeds → Deeds → Type 0
TakesLine land w l old new = MatchBool (is_done_by w l.line) (DoesLine land w l old new) (new ≡ old)
