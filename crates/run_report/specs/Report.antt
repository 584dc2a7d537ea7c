-- What is written of a script once all of it was done.
use Rattle.std.specs.Prelude.{◌≡◌, ℕ, ◌+◌, ◌≤◌, List, [], ◌∷◌, ◌++◌, decimal, Option, Result, Ok, Err, OnOk, OnErr}
use Rattle.std.specs.Io.KnownBytes.{Appends}
use Rattle.enq_base.specs.Causes.{HasCause, Rose}
use Rattle.hall_model.specs.State.{State}
use Rattle.hall_model.specs.declared.command.PastEntry.{PastEntry}
use Rattle.hall_model.specs.declared.command.Who.{Who}
use Rattle.hall_model.specs.declared.command.Who.TheVariants as who
use Rattle.io_edge.specs.Known.{AppendsFirst}
use Rattle.script_actors.specs.declared.actor.Said.{Said}
use Rattle.script_actors.specs.declared.line.NumberedLine.{NumberedLine}
use Rattle.script_runner.specs.Lines.{line_kind}
use Rattle.script_runner.specs.Shown.{monitor_text}
use Rattle.script_runner.specs.Texts.{reply_words, spaced}
use Rattle.script_runner.specs.Turns.{IsShown}
use Rattle.script_runner.specs.declared.monitor.LineKind.{LineKind}
use Rattle.script_runner.specs.declared.monitor.LineKind.TheVariants as kind
use Rattle.script_runner.specs.declared.runner.Why.{Why}
use Rattle.script_runner.specs.declared.runner.Why.TheVariants.{NoMemory, SinkFault}

abbrev pub who_text : Who → List ℕ
who_text (who.Session name) = name
who_text (who.Worker worker) = 64 ∷ decimal worker
who_text who.Admin = 33 ∷ []

-- how the line of a call of the history begins: its place there, who made it, and in which line of the script
abbrev pub entry_head : ℕ → PastEntry → List ℕ
entry_head k e = decimal k ++ spaced (who_text e.who ∷ decimal e.line ∷ [])

-- how it ends: the answer
abbrev pub entry_end : PastEntry → List ℕ
entry_end e = spaced (reply_words e.reply) ++ 10 ∷ []

-- a call of the history, which has this place there: who made it, in which line of the script, and its answer
abbrev pub entry_line : ℕ → PastEntry → List ℕ
entry_line k e = decimal k ++ spaced (who_text e.who ∷ decimal e.line ∷ reply_words e.reply) ++ 10 ∷ []

-- the calls of the history, where so many stand before them
abbrev pub past_text : ℕ → List PastEntry → List ℕ
past_text k [] = []
past_text k (e ∷ es) = entry_line (k + 1) e ++ past_text (k + 1) es

-- what a line is answered
abbrev pub said_line : Said → List ℕ
said_line s = decimal s.line ++ 32 ∷ s.text ++ 10 ∷ []

abbrev pub said_text : List Said → List ℕ
said_text [] = []
said_text (s ∷ ss) = said_line s ++ said_text ss

abbrev pub shown_text : ℕ → LineKind → State → List ℕ
shown_text n (kind.Shown m) s = monitor_text n m s
shown_text n k s = []

-- the monitors of the script, in order, all of one state
abbrev pub shows_text : List NumberedLine → State → List ℕ
shows_text [] s = []
shows_text (l ∷ ls) s = shown_text l.number (line_kind l.line) s ++ shows_text ls s

abbrev pub report_text : List NumberedLine → State → List Said → List ℕ
report_text lines s said = past_text 0 s.past ++ said_text said ++ shows_text lines s

-- a text was written; or the sink failed behind some of its first bytes
pub record HasPut {E : Type 0} (old new : Option (List ℕ)) (before now : ℕ) (text : List ℕ)
    (result : Result Unit E) : Type 0 where
  pub ok : OnOk result (Appends old new text)
  pub err : OnErr result (AppendsFirst old new text)
  pub cause : HasCause before now result

-- the monitors, alone, as `HasWritten` has them behind the rest
abbrev pub ShowsAll : Option (List ℕ) → Option (List ℕ) → ℕ → ℕ → List NumberedLine → State → Result Unit Why → Type 0
ShowsAll old new before now lines s (Ok u) = Appends old new (shows_text lines s) × (now ≡ before)
ShowsAll old new before now lines s (Err SinkFault) = AppendsFirst old new (shows_text lines s) × Rose before now
ShowsAll old new before now lines s (Err NoMemory) =
    (earlier : List NumberedLine) × (later : List NumberedLine) × (lines ≡ earlier ++ later)
    × Appends old new (shows_text earlier s) × (now ≡ before)
ShowsAll old new before now lines s (Err why) = ⊥

pub record HasShown (old new : Option (List ℕ)) (before now : ℕ) (lines : List NumberedLine) (s : State)
    (result : Result Unit Why) : Type 0 where
  pub shown : ShowsAll old new before now lines s result
  pub later : before ≤ now

-- one line of the script, which shows something or nothing
pub record HasShownLine (old new : Option (List ℕ)) (before now : ℕ) (l : NumberedLine) (s : State)
    (result : Result Unit Why) : Type 0 where
  pub shown : IsShown old new before now (shown_text l.number (line_kind l.line) s) result
  pub later : before ≤ now

-- The report was written; or the sink failed behind some of its first bytes; or there was no memory for what a monitor
-- shows, and what was written begins the report, with the whole history and all answers.
abbrev pub HasWritten : Option (List ℕ) → Option (List ℕ) → ℕ → ℕ → List NumberedLine → State → List Said
    → Result Unit Why → Type 0
HasWritten old new faults now lines s said (Ok u) = Appends old new (report_text lines s said) × (now ≡ faults)
HasWritten old new faults now lines s said (Err SinkFault) =
    AppendsFirst old new (report_text lines s said) × Rose faults now
HasWritten old new faults now lines s said (Err NoMemory) =
    (earlier : List NumberedLine) × (later : List NumberedLine) × (lines ≡ earlier ++ later)
    × Appends old new (report_text earlier s said) × (now ≡ faults)
HasWritten old new faults now lines s said (Err why) = ⊥
