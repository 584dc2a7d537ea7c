-- The session of a line.
use Rattle.std.specs.Prelude.{ℕ, List, Option, Some, None}
use Rattle.script_lang.specs.declared.script_line.ScriptLine.{ScriptLine}
use Rattle.script_lang.specs.declared.script_line.ScriptLine.TheVariants as line

abbrev pub session_of : ScriptLine → Option (List ℕ)
session_of (line.Logon s user) = Some s
session_of (line.Logoff s) = Some s
session_of (line.DeqAll s) = Some s
session_of (line.Flush s) = Some s
session_of (line.Reset s) = Some s
session_of (line.Commit s) = Some s
session_of (line.Rollback s) = Some s
session_of (line.Enq s object m scope values) = Some s
session_of (line.Deq s object m scope values) = Some s
session_of (line.Collect s object m scope values) = Some s
session_of (line.Convert s object values) = Some s
session_of (line.Num s object nr variable) = Some s
session_of (line.Read s table key variable) = Some s
session_of (line.Put s part table key text) = Some s
session_of (line.Ins s part table key text) = Some s
session_of (line.Del s part table key) = Some s
session_of (line.Add s part table key number) = Some s
session_of _ = None
