-- What an actor carries from line to line, and how it finds what a line asks of its desk.
use Rattle.std.specs.Prelude.{◌≡◌, ◌⊎◌, ◌+◌, ◌<◌, ◌≤◌, ℕ, List, [], ◌∷◌, Some, true}
use Rattle.enq_base.specs.declared.refusal.Refusal.TheVariants as refusal
use Rattle.enq_base.specs.declared.unit.Num.{Num}
use Rattle.dialogue_session.specs.Private.{Private}
use Rattle.hall_model.specs.declared.command.Command.{Command}
use Rattle.hall_model.specs.declared.command.Command.TheVariants as command
use Rattle.hall_model.specs.declared.command.Reply.{Reply}
use Rattle.hall_model.specs.declared.command.Who.{Who}
use Rattle.number_ranges.specs.Intervals.{is_buffered, is_named}
use Rattle.number_ranges.specs.declared.interval.Interval.{Interval}
use Rattle.script_actors.specs.Actors.{Deeds, DeskView, Given, HasDraw, IsGivenFor, Land, TakesLine, TakesOne, asks}
use Rattle.script_actors.specs.Actors.{called_as, drawing}
use Rattle.script_actors.specs.Actors.{drawn_as, followed, numbers_asked, with_asked, with_drawn}
use Rattle.script_actors.specs.Drawings.{Asking, Declined, DeskEntry, Draws, IsDrawing, Makes, asking, capped}
use Rattle.script_actors.specs.Drawings.{interval_at}
use Rattle.script_actors.specs.Drawings.{stock_of, uncommitted}
use Rattle.script_actors.specs.declared.actor.Done.{Done}
use Rattle.script_actors.specs.declared.actor.Done.TheVariants as done
use Rattle.script_actors.specs.declared.asking.Wanted.{Wanted}
use Rattle.script_actors.specs.declared.asking.Wanted.TheVariants as wanted
use Rattle.script_actors.specs.declared.line.NumberedLine.{NumberedLine}

-- the numbers of stocks, and how many there are of all, are those of what the desk did
abbrev pub Knows : List DeskEntry → List Num → ℕ → Type 0
Knows entries stock count = (stock ≡ stock_of entries) × (count ≡ capped (uncommitted entries))

-- a number is drawn from the stock of this interval
pub record DrawsNumber (intervals : List Interval) (entries : List DeskEntry) (c : Command)
    (object nr : List ℕ) : Type 0 where
  pub interval : Interval
  pub asks : asking intervals entries c ≡ Draws interval
  pub found : interval_at intervals object nr ≡ Some interval
  pub buffered : is_buffered interval ≡ true

-- what is found is what the line asks that would call for a number of this name
abbrev pub IsNumberWanted : List Interval → List DeskEntry → List ℕ → List ℕ → Wanted → Type 0
IsNumberWanted intervals entries object nr wanted.Call =
    (s : List ℕ) → asking intervals entries (command.Number s object nr) ≡ Makes (command.Number s object nr)
IsNumberWanted intervals entries object nr wanted.Number =
    (s : List ℕ) → DrawsNumber intervals entries (command.Number s object nr) object nr
IsNumberWanted intervals entries object nr wanted.TooMany =
    (s : List ℕ) → asking intervals entries (command.Number s object nr) ≡ Declined refusal.UnitTooLarge

-- it is what the line of this call asks
abbrev pub IsWanted : List Interval → List DeskEntry → Command → Wanted → Type 0
IsWanted intervals entries (command.Number s object nr) w = IsNumberWanted intervals entries object nr w
IsWanted intervals entries c w = w ≡ wanted.Call

-- there is room for a number that is to be drawn
abbrev pub HasPlaceFor : Wanted → ℕ → ℕ → Type 0
HasPlaceFor wanted.Number len capacity = len < capacity
HasPlaceFor w len capacity = Unit {0}

-- Where the call asks for a number of an interval, so does the line, and where that has a buffer one may be drawn.
abbrev pub MayMake : List Interval → Who → NumberedLine → (left : Interval → ℕ) → Command → Type 0
MayMake intervals w l left (command.Number session object nr) =
    ((i : Interval) → interval_at intervals object nr ≡ Some i → is_buffered i ≡ true → 1 ≤ left i)
    × ((i : Interval) → is_named object nr i ≡ true → 1 ≤ numbers_asked i w (l ∷ []))
MayMake intervals w l left c = Unit {0}

-- the line asks this of the desk, and it was done
abbrev pub AsksLine : List Interval → Who → NumberedLine → Command → Deeds → Deeds → Type 0
AsksLine intervals w l c old new =
    (g : Given) × IsGivenFor w l.number g (asking intervals old.desk.entries c)
    × (new ≡ asks old l g (asking intervals old.desk.entries c))

-- a call was made and answered, and the private sides followed
pub record IsCalled (l : NumberedLine) (c : Command) (sides : List Private) (desk : DeskView)
    (sides_now : List Private) (desk_now : DeskView) (came : Done) : Type 0 where
  pub reply : Reply
  pub comes : came ≡ called_as reply
  pub follows : sides_now ≡ followed l.line reply sides
  pub told : desk_now ≡ with_asked desk l.number c reply

-- a number was drawn or refused, and the private sides followed
pub record IsDrawnFrom (session : List ℕ) (l : NumberedLine) (i : Interval) (sides : List Private) (desk : DeskView)
    (sides_now : List Private) (desk_now : DeskView) (came : Done) : Type 0 where
  pub given : Given
  pub is : IsDrawing session i (drawing l.number i given)
  pub comes : came ≡ drawn_as given.reply
  pub follows : sides_now ≡ followed l.line given.reply sides
  pub told : desk_now ≡ with_drawn desk (drawing l.number i given)

-- the call was made, or memory was wanting before it
abbrev pub IsCalledOrWanting : NumberedLine → Command → List Private → DeskView → List Private → DeskView → Done
    → Type 0
IsCalledOrWanting l c sides desk sides_now desk_now came =
    ((came ≡ done.Wanting) × (desk_now ≡ desk)) ⊎ IsCalled l c sides desk sides_now desk_now came

-- ---- of a call for a number

abbrev pub CanDraw : List Interval → (left : Interval → ℕ) → Command → Type 0
CanDraw intervals left (command.Number s object nr) = HasDraw intervals left object nr
CanDraw intervals left c = ⊥

abbrev pub DrewFor : List ℕ → List Interval → NumberedLine → List Private → DeskView → List Private → DeskView → Done
    → Command → Type 0
DrewFor session intervals l sides desk sides_now desk_now came (command.Number s object nr) =
    (i : Interval) → interval_at intervals object nr ≡ Some i
    → IsDrawnFrom session l i sides desk sides_now desk_now came
DrewFor session intervals l sides desk sides_now desk_now came c = Unit {0}

abbrev pub TakesFor : (old new : Interval → ℕ) → Command → Type 0
TakesFor old new (command.Number s object nr) = TakesOne object nr old new
TakesFor old new c = Unit {0}

-- the line took at most the draws that it asks for
abbrev pub LeavesFor : Who → NumberedLine → (old new : Interval → ℕ) → Type 0
LeavesFor w l old new = (i : Interval) → old i ≤ new i + numbers_asked i w (l ∷ [])

-- the desk is as it was, or the line was done, whose answer is lost
abbrev pub MayHaveTaken : Land → Who → NumberedLine → Deeds → DeskView → Type 0
MayHaveTaken land w l old view =
    (view ≡ old.desk) ⊎ ((d : Deeds) × TakesLine land w l old d × (view ≡ d.desk))
