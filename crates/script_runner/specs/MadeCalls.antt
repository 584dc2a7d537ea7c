-- The calls that the lines of a script make.
use Rattle.std.specs.Prelude.{ℕ, ◌+◌, if◌then◌else◌, List, [], ◌∷◌, ◌++◌, Option, Some, None}
use Rattle.hall_model.specs.Devices.{DeviceOutcome}
use Rattle.hall_model.specs.History.{is_unrecorded, past_entry, served, takes_flight}
use Rattle.hall_model.specs.Recall.{Made}
use Rattle.hall_model.specs.State.{State}
use Rattle.hall_model.specs.declared.command.Command.{Command}
use Rattle.script_lang.specs.declared.script_line.ScriptLine.{ScriptLine}
use Rattle.script_runner.specs.declared.runner.Why.{Why}
use Rattle.script_runner.specs.Lines.{Calls, Meaning, line_in, meaning}
use Rattle.script_runner.specs.Run.{Called, LineOutcome, NoRoom, Progress, Turn, next}
use Rattle.script_runner.specs.World.{World, setting_of}

-- a call as the history has it, with what the devices did in it
abbrev pub made_as : DeviceOutcome → State → ℕ → Command → Made
made_as outcome s number c =
    record { call = past_entry number c (takes_flight outcome) (served outcome s c); outcome = outcome }

-- the call, if the history keeps it
abbrev pub made_if_kept : DeviceOutcome → State → ℕ → Command → List Made
made_if_kept outcome s number c =
    if is_unrecorded (served outcome s c).reply then [] else made_as outcome s number c ∷ []

-- the call of a line that comes to one
abbrev pub made_by : World → ℕ → DeviceOutcome → Meaning → List Made
made_by w number outcome (Calls c) = made_if_kept outcome w.hall number c
made_by w number outcome _ = []

abbrev pub made_in_line : World → ℕ → Option ScriptLine → LineOutcome → List Made
made_in_line w number known NoRoom = []
made_in_line w number None (Called outcome) = []
made_in_line w number (Some l) (Called outcome) = made_by w number outcome (meaning (setting_of w) l)

-- none once the run has ended
abbrev pub made_unless_ended : Option Why → Progress → Turn → List Made
made_unless_ended None p t = made_in_line p.world (p.number + 1) (line_in t.line) t.outcome
made_unless_ended (Some why) p t = []

-- the call that a line puts into the history, if it does
abbrev pub made_in : Progress → Turn → List Made
made_in p t = made_unless_ended p.stop p t

-- the calls that these lines put into the history, from here on
abbrev pub made_of : Progress → List Turn → List Made
made_of p [] = []
made_of p (t ∷ turns) = made_in p t ++ made_of (next p t) turns
