-- Who does a line of a script.
use Rattle.std.specs.Prelude.{ℕ, Bool, true, false, nat_eq, List, Option, Some, None}
use Rattle.std.specs.Str.{bytes_eq}
use Rattle.hall_model.specs.declared.command.Who.{Who}
use Rattle.hall_model.specs.declared.command.Who.TheVariants as who
use Rattle.script_lang.specs.Sessions.{session_of}
use Rattle.script_lang.specs.declared.script_line.ScriptLine.{ScriptLine}
use Rattle.script_lang.specs.declared.script_line.ScriptLine.TheVariants as line
use Rattle.script_actors.specs.declared.line.Doer.{Doer}
use Rattle.script_actors.specs.declared.line.Doer.TheVariants as doer

-- a line of a session is its own, and there is none else
abbrev pub of_session : Option (List ℕ) → Doer
of_session (Some s) = doer.Actor (who.Session s)
of_session None = doer.Nobody

abbrev pub doer_of : ScriptLine → Doer
doer_of line.Blank = doer.Nobody
doer_of line.Sm12 = doer.Monitor
doer_of line.Sm13 = doer.Monitor
doer_of line.Snro = doer.Monitor
doer_of line.Audit = doer.Monitor
doer_of (line.Take1 worker) = doer.Worker
doer_of (line.Do1 worker) = doer.Worker
doer_of (line.Take2 worker) = doer.Worker
doer_of (line.Do2 worker) = doer.Worker
doer_of (line.DropOrder worker) = doer.Worker
doer_of line.Kill = doer.Actor who.Admin
doer_of line.FailOver = doer.Actor who.Admin
doer_of line.Restart = doer.Actor who.Admin
doer_of line.Attach = doer.Actor who.Admin
doer_of (line.Cancel unit) = doer.Actor who.Admin
doer_of (line.Resubmit unit) = doer.Actor who.Admin
doer_of l = of_session (session_of l)

abbrev pub is_same : Who → Who → Bool
is_same (who.Session a) (who.Session b) = bytes_eq a b
is_same (who.Worker a) (who.Worker b) = nat_eq a b
is_same who.Admin who.Admin = true
is_same a b = false

abbrev pub is_actor : Who → Doer → Bool
is_actor w (doer.Actor x) = is_same w x
is_actor w d = false

abbrev pub is_done_by : Who → ScriptLine → Bool
is_done_by w l = is_actor w (doer_of l)
