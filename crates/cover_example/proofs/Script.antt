-- The script: a session locks an order, reads it, changes it and commits; a worker posts the change.
use Rattle.std.proofs.Common.{refl}
use Rattle.std.specs.Prelude.{◌≡◌, ℕ, false, true, List, [], ◌∷◌, codes, None}
use Rattle.enq_base.specs.declared.owner.Scope.TheVariants as scope
use Rattle.enq_base.specs.declared.owner.UnitKey.{UnitKey}
use Rattle.enq_base.specs.declared.unit.Deed.TheVariants.{Put}
use Rattle.enq_base.specs.declared.unit.Parts.{Parts}
use Rattle.lock_entry.specs.declared.entry.Request.{Request}
use Rattle.lock_objects.specs.Objects.{Object}
use Rattle.mode_rules.specs.declared.Mode.TheVariants as mode
use Rattle.script_lang.specs.declared.script_line.RawValue.{RawValue}
use Rattle.script_lang.specs.declared.script_line.ScriptLine.TheVariants as line
use Rattle.hall_model.specs.declared.command.Command.TheVariants as command
use Rattle.hall_model.specs.declared.command.Reply.TheVariants as reply
use Rattle.coverage.specs.Lacks.{Numbered, lacks}
use Rattle.cover_example.proofs.Chains.{Asked}

abbrev pub session : List ℕ
session = codes "A"

abbrev pub user : List ℕ
user = codes "ANN"

abbrev pub orders : List ℕ
orders = codes "ZORDER"

abbrev pub order : List ℕ
order = codes "7"

abbrev number : List ℕ
number = codes "NUMBER"

abbrev order_object : Object
order_object = record {
  name = codes "EZORDER";
  fields = record { name = number; width = 4 } ∷ [];
  tables = record { name = orders; keys = number ∷ [] } ∷ [];
}

abbrev pub objects : List Object
objects = order_object ∷ []

abbrev values : List RawValue
values = record { field = number; raw = order } ∷ []

abbrev pub lines : List Numbered
lines =
    (1, line.Logon session user)
    ∷ (2, line.Enq session (codes "EZORDER") mode.E scope.Two values)
    ∷ (3, line.Read session orders order (codes "OLD"))
    ∷ (4, line.Put session 1 orders order (codes "NEW"))
    ∷ (5, line.Commit session)
    ∷ (6, line.Take1 1)
    ∷ (7, line.Do1 1)
    ∷ []

pub covered : lacks objects lines ≡ []
covered = refl

-- ---- the calls that they make

abbrev pub requests : List Request
requests = record { asked = record { table = orders; pattern = codes "7   "; mode = mode.E }; dialogue = false; update = true } ∷ []

abbrev pub parts : Parts
parts = record { v1 = record { table = orders; key = order; deed = Put (codes "NEW") } ∷ []; v2 = [] }

abbrev pub unit : UnitKey
unit = record { start = 1; session = 1; luw = 1 }

abbrev pub logon : Asked
logon = record { line = 1; command = command.Logon session user; reply = reply.Done }

abbrev pub ask : Asked
ask = record { line = 2; command = command.Ask session requests; reply = reply.Done }

abbrev pub read : Asked
read = record { line = 3; command = command.Read session orders order; reply = reply.Row None }

abbrev pub commit : Asked
commit = record { line = 5; command = command.Commit session parts []; reply = reply.Unit unit }

abbrev pub take : Asked
take = record { line = 6; command = command.Take1 1; reply = reply.Unit unit }

abbrev pub post : Asked
post = record { line = 7; command = command.Do1 1; reply = reply.Posted unit }

abbrev pub calls : List Asked
calls = logon ∷ ask ∷ read ∷ commit ∷ take ∷ post ∷ []
