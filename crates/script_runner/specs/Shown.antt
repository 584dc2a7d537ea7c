-- What the monitors show of the server.
use Rattle.std.specs.Prelude.{ℕ, List}
use Rattle.hall_model.specs.State.{State, seen_locks}
use Rattle.hall_model.specs.Views.{marks_shown, numbers_shown, ranges_shown, units_shown}
use Rattle.monitors.specs.Monitors.{audit_text, sm12_text, sm13_text, snro_text}
use Rattle.monitors.specs.declared.views.ServerView.{ServerView}
use Rattle.script_runner.specs.declared.monitor.Monitor.{Monitor}
use Rattle.script_runner.specs.declared.monitor.Monitor.TheVariants as monitor

-- what SM12 says of the server beside its locks
abbrev pub server_view : State → ServerView
server_view s = record { condition = s.condition; attached = s.attached; limit = s.max_locks }

-- the counts of the server, at the script line of this number
abbrev pub audit_shown : ℕ → State → List ℕ
audit_shown n s = audit_text n s.condition (units_shown s) (marks_shown s) (numbers_shown s)

-- the text of a monitor at the script line of this number
abbrev pub monitor_text : ℕ → Monitor → State → List ℕ
monitor_text n monitor.Sm12 s = sm12_text n (server_view s) (seen_locks s)
monitor_text n monitor.Sm13 s = sm13_text n s.condition (units_shown s)
monitor_text n monitor.Snro s = snro_text n s.condition (ranges_shown s)
monitor_text n monitor.Audit s = audit_shown n s
