-- Scripts that are in order from the first line to the last, and what a run of one comes to.
use Rattle.std.specs.Prelude.{◌≡◌, ◌⊎◌, ℕ, ◌≤◌, List, map, length, Option, Some, is_some, All, IsTrue}
use Rattle.std.specs.List.{AllByRecursion}
use Rattle.std.specs.Io.KnownBytes.{Appends}
use Rattle.hall_model.specs.Devices.{AllWell, LinkFails}
use Rattle.hall_model.specs.State.{State}
use Rattle.io_edge.specs.Lines.{lines_of, IsLine}
use Rattle.script_runner.specs.declared.runner.Why.{Why}
use Rattle.script_runner.specs.declared.runner.Why.TheVariants.{Done, BadWords, BadLandscape, BadLine, SourceFault}
use Rattle.script_runner.specs.declared.runner.Why.TheVariants.{SinkFault, LongLine, ManyLines, StoreFault, BackupFault}
use Rattle.script_runner.specs.declared.runner.Why.TheVariants.{BadStore, BadBackup, NoStart, NoMemory, LogFull}
use Rattle.script_runner.specs.Lines.{line_in}
use Rattle.script_runner.specs.Replay.{MeetsBad, doubt_of}
use Rattle.script_runner.specs.Run.{AreAllowed, Called, LineOutcome, NoRoom, Turn, begun, run}
use Rattle.script_runner.specs.World.{World}

-- a line that fits and can be done
pub record IsGood (line : List ℕ) : Type 0 where
  pub fits : IsLine line
  pub known : IsTrue (is_some (line_in line))

-- each line is good, and there are at most 200,000
pub record IsScript (bytes : List ℕ) : Type 0 where
  pub each : All IsGood (lines_of bytes)
  pub few : length (lines_of bytes) ≤ 200000

-- nothing was wanting in a line, and nothing failed but the link to a replica, of which the line's answer tells
abbrev pub IsCalm : LineOutcome → Type 0
IsCalm NoRoom = ⊥
IsCalm (Called outcome) = (outcome.event ≡ AllWell) ⊎ (outcome.event ≡ LinkFails)

-- the run went through all lines of the bytes, each done with nothing wanting, and wrote their whole text
pub record IsAllDone (before : World) (after : State) (bytes : List ℕ) (old new : Option (List ℕ)) : Type 0 where
  pub turns : List Turn
  pub each : map (λ t. t.line) turns ≡ lines_of bytes
  pub calm : AllByRecursion (λ t. IsCalm t.outcome) turns
  pub allowed : AreAllowed (begun before) turns
  pub state : after ≡ (run before turns).world.hall
  pub text : Appends old new (run before turns).text

-- all lines were done, or a call found a device that isn't good
abbrev pub IsDoneUnlessBad : World → State → List ℕ → Option (List ℕ) → Option (List ℕ) → Type 0
IsDoneUnlessBad before after bytes old new = IsAllDone before after bytes old new ⊎ MeetsBad before.hall after

-- all lines were done, by a server that was in doubt before
abbrev pub IsDoneInDoubt : World → State → List ℕ → Option (List ℕ) → Option (List ℕ) → Type 0
IsDoneInDoubt before after bytes old new = IsTrue (is_some (doubt_of before.hall))
    × IsAllDone before after bytes old new

-- All lines were done, by a server that is in doubt only where it was before, unless memory was wanting, or a call
-- found a device that isn't good.
abbrev pub IsComplete : World → State → List ℕ → Option (List ℕ) → Option (List ℕ) → Why → Type 0
IsComplete before after bytes old new Done = IsDoneUnlessBad before after bytes old new
IsComplete before after bytes old new (StoreFault k) =
    (doubt_of before.hall ≡ Some k) × IsDoneUnlessBad before after bytes old new
IsComplete before after bytes old new (BackupFault k) =
    (doubt_of before.hall ≡ Some k) × IsDoneUnlessBad before after bytes old new
IsComplete before after bytes old new (BadStore table row) =
    IsDoneInDoubt before after bytes old new ⊎ MeetsBad before.hall after
IsComplete before after bytes old new (BadBackup place) =
    IsDoneInDoubt before after bytes old new ⊎ MeetsBad before.hall after
IsComplete before after bytes old new NoMemory = Unit {0}
IsComplete before after bytes old new BadWords = ⊥
IsComplete before after bytes old new (BadLandscape rule place) = ⊥
IsComplete before after bytes old new (BadLine n) = ⊥
IsComplete before after bytes old new SourceFault = ⊥
IsComplete before after bytes old new SinkFault = ⊥
IsComplete before after bytes old new (LongLine n) = ⊥
IsComplete before after bytes old new ManyLines = ⊥
IsComplete before after bytes old new NoStart = ⊥
IsComplete before after bytes old new LogFull = ⊥
