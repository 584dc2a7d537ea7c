-- What is written of a script that threads have done, and what the run comes to.
use Rattle.std.specs.Prelude.{◌≡◌, ℕ, Bool, true, false, ◌||◌, List, ◌++◌, Option, is_some}
use Rattle.std.specs.List.{AllByRecursion, list_any}
use Rattle.std.specs.Io.KnownBytes.{Appends}
use Rattle.enq_base.specs.Causes.{Rose}
use Rattle.actor_threads.specs.declared.actor.Deed.{Deed}
use Rattle.hall_model.specs.State.{State}
use Rattle.hall_model.specs.declared.command.Who.{Who}
use Rattle.hall_model.specs.declared.command.Who.TheVariants as caller
use Rattle.io_edge.specs.Known.{AppendsFirst}
use Rattle.order_laws.specs.Behind.{wants}
use Rattle.run_report.specs.Report.{past_text, report_text}
use Rattle.script_actors.specs.declared.actor.Said.{Said}
use Rattle.script_actors.specs.declared.line.NumberedLine.{NumberedLine}
use Rattle.script_runner.specs.Faults.{end_of}
use Rattle.script_runner.specs.declared.runner.Why.{Why}
use Rattle.script_runner.specs.declared.runner.Why.TheVariants.{LogFull, NoMemory, SinkFault}
use Rattle.thread_runner.specs.Answers.{AreInOrder, answers_in}

abbrev pub is_worker : Who → Bool
is_worker (caller.Worker w) = true
is_worker w = false

-- memory was wanting for no line of an actor
abbrev pub AllSaid : List Deed → Type 0
AllSaid deeds = AllByRecursion (λ (d : Deed). (is_worker d.who || is_some d.said) ≡ true) deeds

-- some call found the history full
abbrev pub found_full : List Deed → Bool
found_full deeds = list_any (λ (d : Deed). is_some d.full_at) deeds

-- the whole report was written
pub record IsReported (lines : List NumberedLine) (s : State) (deeds : List Deed) (old new : Option (List ℕ))
    (faults now : ℕ) : Type 0 where
  pub said : List Said
  pub order : AreInOrder (answers_in lines deeds) said
  pub text : Appends old new (report_text lines s said)
  pub quiet : now ≡ faults

-- the history was written, and some of what comes behind it
pub record IsBegun (s : State) (old new : Option (List ℕ)) (faults now : ℕ) : Type 0 where
  pub rest : List ℕ
  pub text : Appends old new (past_text 0 s.past ++ rest)
  pub quiet : now ≡ faults

-- the sink failed behind some of the first bytes of the history and what comes behind it
pub record IsCut (s : State) (old new : Option (List ℕ)) (faults now : ℕ) : Type 0 where
  pub rest : List ℕ
  pub text : AppendsFirst old new (past_text 0 s.past ++ rest)
  pub cause : Rose faults now

-- in no call memory was wanting, and in no line before one
pub record HadMemory (s : State) (deeds : List Deed) : Type 0 where
  pub calls : list_any wants s.past ≡ false
  pub lines : AllSaid deeds

-- A sink that fails comes first, then want of memory, then a full history, and then what the server is in doubt for.
abbrev pub IsWritten : List NumberedLine → State → List Deed → Option (List ℕ) → Option (List ℕ) → ℕ → ℕ → Why → Type 0
IsWritten lines s deeds old new faults now SinkFault = IsCut s old new faults now
IsWritten lines s deeds old new faults now NoMemory = IsBegun s old new faults now
IsWritten lines s deeds old new faults now LogFull = IsReported lines s deeds old new faults now × HadMemory s deeds
    × (found_full deeds ≡ true)
IsWritten lines s deeds old new faults now why =
    IsReported lines s deeds old new faults now × HadMemory s deeds × (found_full deeds ≡ false)
    × (why ≡ end_of s.condition s.past)
