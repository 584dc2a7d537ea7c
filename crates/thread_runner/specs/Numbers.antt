-- Numbers that a run's sessions draw from stocks.
use Rattle.std.specs.Prelude.{◌≡◌, ◌<◌, ◌≤◌, ℕ, true, All, Contains, List, [], ◌∷◌, ◌++◌, map}
use Rattle.std.specs.List.Sorted.{IsNonDecreasingBy, IsPermutation}
use Rattle.hall_model.specs.State.{State}
use Rattle.hall_model.specs.declared.command.PastEntry.{PastEntry}
use Rattle.hall_model.specs.declared.command.Who.{Who}
use Rattle.hall_model.specs.declared.command.Who.TheVariants as caller
use Rattle.ledger_steps.specs.Drawn.{drawn_from}
use Rattle.ledger_steps.specs.Levels.{level_in}
use Rattle.number_ranges.specs.Intervals.{is_buffered}
use Rattle.number_ranges.specs.declared.interval.Interval.{Interval}
use Rattle.script_actors.specs.Actors.{Land}
use Rattle.script_actors.specs.declared.drawing.Drawing.{Drawing}
use Rattle.script_actors.specs.declared.line.NumberedLine.{NumberedLine}
use Rattle.seat_sums.specs.Sums.{IsDistinct}
use Rattle.caller_laws.specs.Doing.{Left}
use Rattle.caller_laws.specs.Numbers.{DrewNumbers, NoneBuffered}
use Rattle.thread_runner.specs.Deeds.{Deeds}

-- ---- who drew them

-- nobody but a session draws
abbrev pub drawn_by : Who → Left → List Drawing
drawn_by (caller.Session s) left = left.drawn
drawn_by w left = []

-- those of all of them, one behind the other
abbrev pub all_drawn : (land : Land) (lines : List NumberedLine) (past : List PastEntry) (callers : List Who)
    → Deeds land lines past callers → List Drawing
all_drawn land lines past [] all = []
all_drawn land lines past (w ∷ ws) all = drawn_by w all.0.left ++ all_drawn land lines past ws all.1

abbrev pub HasDrawn : Land → List NumberedLine → List PastEntry → Who → Left → Type 0
HasDrawn land lines past (caller.Session s) left = DrewNumbers land.intervals lines past s left
HasDrawn land lines past w left = Unit {0}

-- what each session did with numbers of stocks
abbrev pub HaveDrawn : (land : Land) (lines : List NumberedLine) (past : List PastEntry) (callers : List Who)
    → Deeds land lines past callers → Type 0
HaveDrawn land lines past [] all = Unit {0}
HaveDrawn land lines past (w ∷ ws) all = HasDrawn land lines past w all.0.left × HaveDrawn land lines past ws all.1

-- ---- the numbers of an interval

abbrev pub numbers_of : Interval → List Drawing → List ℕ
numbers_of i drawn = drawn_from i (map (λ (d : Drawing). d.num) drawn)

-- No number is there twice. Each is above the level that the first state has, and at most the level that the last one
-- has.
pub record AreWithin (first s : State) (drawn : List Drawing) (i : Interval) : Type 0 where
  pub once : IsDistinct (numbers_of i drawn)
  pub above : All (λ n. level_in first.stored.levels i < n) (numbers_of i drawn)
  pub within : All (λ n. n ≤ level_in s.stored.levels i) (numbers_of i drawn)

-- ---- the whole

-- What was drawn from stocks on the way from a first state on, by these threads.
pub record DrawsNumbers (land : Land) (lines : List NumberedLine) (first s : State) (callers : List Who)
    (did : Deeds land lines s.past callers) (drawn : List Drawing) : Type 0 where
  -- these are the numbers that the lines drew, in the order of the lines
  pub all : IsPermutation (all_drawn land lines s.past callers did) drawn
  pub order : IsNonDecreasingBy (λ (d : Drawing). d.line) drawn
  -- no call is for a number of an interval with a buffer
  pub none : NoneBuffered land.intervals s.past
  pub sessions : HaveDrawn land lines s.past callers did
  pub each : (i : Interval) → Contains land.intervals i → is_buffered i ≡ true → AreWithin first s drawn i
