-- How the lines of a script are spelled.
use Rattle.std.specs.Prelude.{◌≡◌, ℕ, nat_eq, List, [], ◌∷◌, ◌++◌, codes, decimal, if◌then◌else◌, IsTrue}
use Rattle.enq_base.specs.Number.{IsUnitKey}
use Rattle.enq_base.specs.Text.{◌␣◌, unit_text}
use Rattle.enq_base.specs.declared.owner.Scope.{Scope}
use Rattle.enq_base.specs.declared.owner.Scope.TheVariants as scope
use Rattle.mode_rules.specs.Modes.{mode_text}
use Rattle.mode_rules.specs.declared.Mode.{Mode}
use Rattle.script_lang.specs.Parts.{is_blank, is_nr, IsName, IsRaw, IsRest, AreValues, IsPart, IsWorker}
use Rattle.script_lang.specs.declared.script_line.RawValue.{RawValue}
use Rattle.script_lang.specs.declared.script_line.ScriptLine.{ScriptLine}
use Rattle.script_lang.specs.declared.script_line.ScriptLine.TheVariants as line

abbrev pub scope_text : Scope → List ℕ
scope_text scope.One = codes "1"
scope_text scope.Two = codes "2"
scope_text scope.Three = codes "3"

abbrev pub part_text : ℕ → List ℕ
part_text part = if nat_eq part 1 then codes "V1" else codes "V2"

-- `@` and the worker's number
abbrev pub worker_text : ℕ → List ℕ
worker_text worker = 64 ∷ decimal worker

-- the field, `=` and the value
abbrev pub value_text : RawValue → List ℕ
value_text v = v.field ++ 61 ∷ v.raw

-- the values of a line, each with the space before it
abbrev pub values_text : List RawValue → List ℕ
values_text [] = []
values_text (v ∷ vs) = 32 ∷ value_text v ++ values_text vs

-- what stands behind ENQ, DEQ and COLLECT
abbrev pub request_text : List ℕ → Mode → Scope → List RawValue → List ℕ
request_text object mode scope values = object ␣ mode_text mode ␣ (scope_text scope ++ values_text values)

-- the one spelling of a line that isn't blank
abbrev pub spelling : ScriptLine → List ℕ
spelling line.Blank = []
spelling (line.Logon s user) = s ␣ codes "LOGON" ␣ user
spelling (line.Logoff s) = s ␣ codes "LOGOFF"
spelling (line.DeqAll s) = s ␣ codes "DEQ_ALL"
spelling (line.Flush s) = s ␣ codes "FLUSH"
spelling (line.Reset s) = s ␣ codes "RESET"
spelling (line.Commit s) = s ␣ codes "COMMIT"
spelling (line.Rollback s) = s ␣ codes "ROLLBACK"
spelling (line.Enq s object mode scope values) = s ␣ codes "ENQ" ␣ request_text object mode scope values
spelling (line.Deq s object mode scope values) = s ␣ codes "DEQ" ␣ request_text object mode scope values
spelling (line.Collect s object mode scope values) = s ␣ codes "COLLECT" ␣ request_text object mode scope values
spelling (line.Convert s object values) = s ␣ codes "CONVERT" ␣ (object ++ values_text values)
spelling (line.Num s object nr variable) = s ␣ codes "NUM" ␣ object ␣ nr ␣ variable
spelling (line.Read s table key variable) = s ␣ codes "READ" ␣ table ␣ key ␣ variable
spelling (line.Put s part table key text) = s ␣ part_text part ␣ codes "PUT" ␣ table ␣ key ␣ text
spelling (line.Ins s part table key text) = s ␣ part_text part ␣ codes "INS" ␣ table ␣ key ␣ text
spelling (line.Del s part table key) = s ␣ part_text part ␣ codes "DEL" ␣ table ␣ key
spelling (line.Add s part table key number) = s ␣ part_text part ␣ codes "ADD" ␣ table ␣ key ␣ number
spelling (line.Take1 worker) = worker_text worker ␣ codes "TAKE1"
spelling (line.Do1 worker) = worker_text worker ␣ codes "DO1"
spelling (line.Take2 worker) = worker_text worker ␣ codes "TAKE2"
spelling (line.Do2 worker) = worker_text worker ␣ codes "DO2"
spelling (line.DropOrder worker) = worker_text worker ␣ codes "DROP"
spelling line.Kill = codes "! KILL"
spelling line.FailOver = codes "! FAILOVER"
spelling line.Restart = codes "! RESTART"
spelling line.Attach = codes "! ATTACH"
spelling (line.Cancel unit) = codes "! CANCEL " ++ unit_text unit
spelling (line.Resubmit unit) = codes "! RESUBMIT " ++ unit_text unit
spelling line.Sm12 = codes "? SM12"
spelling line.Sm13 = codes "? SM13"
spelling line.Snro = codes "? SNRO"
spelling line.Audit = codes "? AUDIT"

-- a blank line has many spellings, another line one
abbrev pub Spells : List ℕ → ScriptLine → Type 0
Spells bytes line.Blank = IsTrue (is_blank bytes)
Spells bytes l = bytes ≡ spelling l

-- names are names, and all other parts are in their ranges
abbrev pub IsLine : ScriptLine → Type 0
IsLine (line.Logon s user) = IsName s × IsName user
IsLine (line.Logoff s) = IsName s
IsLine (line.DeqAll s) = IsName s
IsLine (line.Flush s) = IsName s
IsLine (line.Reset s) = IsName s
IsLine (line.Commit s) = IsName s
IsLine (line.Rollback s) = IsName s
IsLine (line.Enq s object mode scope values) = IsName s × IsName object × AreValues values
IsLine (line.Deq s object mode scope values) = IsName s × IsName object × AreValues values
IsLine (line.Collect s object mode scope values) = IsName s × IsName object × AreValues values
IsLine (line.Convert s object values) = IsName s × IsName object × AreValues values
IsLine (line.Num s object nr variable) = IsName s × IsName object × IsTrue (is_nr nr) × IsName variable
IsLine (line.Read s table key variable) = IsName s × IsName table × IsRaw key × IsName variable
IsLine (line.Put s part table key text) = IsName s × IsPart part × IsName table × IsRaw key × IsRest text
IsLine (line.Ins s part table key text) = IsName s × IsPart part × IsName table × IsRaw key × IsRest text
IsLine (line.Del s part table key) = IsName s × IsPart part × IsName table × IsRaw key
IsLine (line.Add s part table key number) = IsName s × IsPart part × IsName table × IsRaw key × IsRaw number
IsLine (line.Take1 worker) = IsWorker worker
IsLine (line.Do1 worker) = IsWorker worker
IsLine (line.Take2 worker) = IsWorker worker
IsLine (line.Do2 worker) = IsWorker worker
IsLine (line.DropOrder worker) = IsWorker worker
IsLine (line.Cancel unit) = IsUnitKey unit
IsLine (line.Resubmit unit) = IsUnitKey unit
IsLine _ = Unit {0}

-- a line in its grammar, and the bytes spell it
abbrev pub IsReading : List ℕ → ScriptLine → Type 0
IsReading bytes l = IsLine l × Spells bytes l

-- the bytes spell no line
abbrev pub IsBad : List ℕ → Type 0
IsBad bytes = (l : ScriptLine) → ¬ IsReading bytes l
