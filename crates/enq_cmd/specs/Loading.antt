-- The script that is made from a number, and done.
use Rattle.std.specs.Prelude.{◌≡◌, ◌⊎◌, ℕ, List, Option, Some, None, Result, Ok, Err}
use Rattle.hall_model.specs.Recall.{state_after}
use Rattle.hall_model.specs.State.{State}
use Rattle.hall_model.specs.declared.command.PastEntry.{PastEntry}
use Rattle.landscape.specs.declared.landscape.Landscape.{Landscape}
use Rattle.load_gen.specs.Script.{script_of}
use Rattle.lock_objects.specs.Objects.{Object}
use Rattle.script_runner.specs.Replay.{RunsScript, Seen, seen}
use Rattle.script_runner.specs.Shown.{audit_shown}
use Rattle.script_runner.specs.Whole.{IsComplete, IsScript}
use Rattle.script_runner.specs.World.{first_world}
use Rattle.script_runner.specs.declared.runner.Why.{Why}
use Rattle.script_runner.specs.declared.runner.Why.TheVariants.{Done, BadWords, BadLandscape, NoStart, LogFull}
use Rattle.enq_cmd.specs.Main.{IsFaultless, IsRead, IsServed, IsUnopened, SiteFound, SiteLeft, first_state, made_from}
use Rattle.enq_cmd.specs.Writing.{WritesText}

-- what is seen of a script in memory of which this is left, and of a sink that tells nothing; neither ever fails
abbrev pub unheard : List ℕ → ℕ → ℕ → Seen
unheard left store_faults file_faults = seen (Some left) None 0 0 store_faults file_faults

-- Nothing was written, since the run of the script ended so.
abbrev pub IsSilent : Why → Option (List ℕ) → Option (List ℕ) → ℕ → ℕ → Why → Type 0
IsSilent end old new before now why = (why ≡ end) × (new ≡ old) × (now ≡ before)

-- Behind a run of the script that was done to its end, and led to this state, the counts of the server are written, as
-- the answer of line 0. Behind any other nothing is.
abbrev pub ShowsCounts : Why → State → Option (List ℕ) → Option (List ℕ) → ℕ → ℕ → Why → Type 0
ShowsCounts Done after old new before now why = WritesText old new before now (audit_shown 0 after) why
ShowsCounts end after old new before now why = IsSilent end old new before now why

-- the ends of a run of a script over an open server
abbrev pub IsRunEnd : Why → Type 0
IsRunEnd BadWords = ⊥
IsRunEnd (BadLandscape rule place) = ⊥
IsRunEnd NoStart = ⊥
IsRunEnd LogFull = ⊥
IsRunEnd why = Unit {0}

-- why a program ends whose last text was written so
abbrev pub end_of : Result Unit Why → Why
end_of (Ok written) = Done
end_of (Err why) = why

-- a run of a script in memory over an open server, and what is written behind it
pub record RunsLoad (objects : List Object) (text : List ℕ) (before after : State) (store store_now file file_now : ℕ)
    (old new : Option (List ℕ)) (faults faults_now : ℕ) (why : Why) : Type 0 where
  pub end : Why
  pub rest : List ℕ
  pub runs : RunsScript objects before after (unheard text store file) (unheard rest store_now file_now) end
  pub complete : (bytes : List ℕ) → Some text ≡ Some bytes → IsScript bytes
      → IsFaultless (unheard text store file) (unheard rest store_now file_now)
      → IsComplete (first_world objects before) after bytes None None end
  pub shown : ShowsCounts end after old new faults faults_now why

-- What a program does that opens its store and its backup file for the script of n units: what a program does that is
-- handed just this script, and whose replies nobody reads. Then it writes the counts.
pub record IsLoaded (n : ℕ) (land : Landscape) (site : SiteFound) (site_now : SiteLeft) (old new : Seen)
    (past : List PastEntry) (why : Why) : Type 0 where
  -- why the run of the script ends, and what is left of the script then
  pub end : Why
  pub rest : List ℕ
  pub served : IsServed land site site_now
      (unheard (script_of n) old.store_faults old.file_faults) (unheard rest new.store_faults new.file_faults) past end
  -- the counts are those of the state to which the calls lead
  pub shown : ShowsCounts end
      (state_after (first_state land site.told site.linked served.stored)
      (made_from land site.told site.linked served.stored served.turns))
      old.written new.written old.sink_faults new.sink_faults why

-- What a program does that has read its landscape and is to do the script of n units: it does, or doesn't open its
-- store.
pub record HasLoaded {D L : Type 0} (n : ℕ) (left : Option (List ℕ)) (site : SiteFound) (site_now : SiteLeft)
    (disk disk_now : D) (link link_now : L) (old new : Seen) (past : List PastEntry) (why : Why) : Type 0 where
  pub land : Landscape
  pub read : IsRead left land
  pub loads : IsLoaded n land site site_now old new past why
      ⊎ IsUnopened site site_now disk disk_now link link_now old new past why
