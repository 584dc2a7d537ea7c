-- What becomes of a hall and of a sink where threads do the lines of a script.
use Rattle.std.specs.Prelude.{◌≡◌, ◌⊎◌, ℕ, ◌<◌, true, List, []}
use Rattle.std.specs.List.{AllByRecursion, list_any}
use Rattle.hall_model.specs.State.{State}
use Rattle.hall_model.specs.declared.command.Who.{Who}
use Rattle.hall_model.specs.declared.command.Who.TheVariants as caller
use Rattle.script_actors.specs.Actors.{Land}
use Rattle.script_actors.specs.declared.drawing.Drawing.{Drawing}
use Rattle.script_actors.specs.declared.line.NumberedLine.{NumberedLine}
use Rattle.script_runner.specs.declared.runner.Why.{Why}
use Rattle.script_runner.specs.declared.runner.Why.TheVariants.{NoMemory}
use Rattle.actor_threads.specs.declared.actor.Deed.{Deed}
use Rattle.caller_laws.specs.Callers.{AreAmong}
use Rattle.caller_laws.specs.Numbers.{NoneBuffered}
use Rattle.thread_runner.specs.Writing.{is_worker}
use Rattle.turn_desks.specs.Watching.{HasShown}
use Rattle.thread_runner.specs.Hiring.{AreDone, looks_of}
use Rattle.thread_runner.specs.Looking.{LeavesNone}
use Rattle.thread_runner.specs.Stocking.{DeedsDraw}
use Rattle.thread_runner.specs.Threads.{HaveDone, Output}

-- some worker is among them
abbrev pub HasWorker : List Who → Type 0
HasWorker callers = list_any is_worker callers ≡ true

-- the number of a worker is one of 8 bits
abbrev pub IsSmall : Who → Type 0
IsSmall (caller.Worker w) = w < 256
IsSmall w = Unit {0}

abbrev pub AreSmall : List Who → Type 0
AreSmall callers = AllByRecursion IsSmall callers

-- what each actor saw at the gauges was shown on the way from the first state to this one
abbrev pub HaveSeen : State → State → List Deed → Type 0
HaveSeen first s deeds = AllByRecursion (λ (d : Deed). HasShown first s (looks_of d)) deeds

-- all these callers did their work from a first state on, these are their deeds, and this is what they drew
pub record HasActed (land : Land) (lines : List NumberedLine) (callers : List Who) (first s : State)
    (deeds : List Deed) (drawn : List Drawing) : Type 0 where
  pub among : AreAmong callers s.past
  pub done : AreDone land lines callers s.past deeds
  pub worked : LeavesNone s deeds
  pub looked : HaveSeen first s deeds
  pub plain : NoneBuffered land.intervals s.past
  pub numbers : DeedsDraw land first s deeds drawn

-- memory was wanting before any call
pub record IsUnbegun (s t : State) (drawn : List Drawing) (old new : Output) (why : Why) : Type 0 where
  pub end : why ≡ NoMemory
  pub same : t ≡ s
  pub none : drawn ≡ []
  pub still : new ≡ old

abbrev pub DoesScript : Land → List NumberedLine → ℕ → State → State → List Drawing → Output → Output → Why → Type 0
DoesScript land lines workers s t drawn old new why = IsUnbegun s t drawn old new why
    ⊎ HaveDone land lines workers s t drawn old new why
