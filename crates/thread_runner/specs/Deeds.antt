-- What each of a run's threads did.
use Rattle.std.specs.Prelude.{ℕ, List, [], ◌∷◌, ◌++◌, Option}
use Rattle.std.specs.List.{AllByRecursion}
use Rattle.hall_model.specs.declared.command.PastEntry.{PastEntry}
use Rattle.hall_model.specs.declared.command.Who.{Who}
use Rattle.script_actors.specs.Actors.{Land}
use Rattle.script_actors.specs.declared.line.NumberedLine.{NumberedLine}
use Rattle.caller_laws.specs.Doing.{Did, Left}

-- what one of the threads did, as the history has it
pub record Deed (land : Land) (lines : List NumberedLine) (past : List PastEntry) (w : Who) : Type 0 where
  pub left : Left
  -- the line of its last call that found the history full
  pub full_at : Option ℕ
  pub did : Did land lines past w left full_at

-- what each of these did
abbrev pub Deeds : Land → List NumberedLine → List PastEntry → List Who → Type 0
Deeds land lines past callers = AllByRecursion (Deed land lines past) callers
