-- What a line of a script comes to.
use Rattle.std.specs.Prelude.{ℕ, ℤ, ◌+◌, Bool, true, false, ◌&&◌, nat_le, nat_lt, List, [], ◌∷◌, map, length, decimal}
use Rattle.std.specs.Prelude.{cond, if◌then◌else◌, Option, Some, None, is_some, Result, Ok, Err}
use Rattle.std.specs.List.{find, list_all}
use Rattle.std.specs.Str.{bytes_eq}
use Rattle.enq_base.specs.Grammar.{is_key_byte, is_short, is_text_byte}
use Rattle.enq_base.specs.TextFaults.{has_text_length}
use Rattle.enq_base.specs.declared.owner.Scope.{Scope}
use Rattle.enq_base.specs.declared.refusal.ArgKind.{ArgKind}
use Rattle.enq_base.specs.declared.refusal.ArgKind.TheVariants as arg
use Rattle.enq_base.specs.declared.refusal.Refusal.{Refusal}
use Rattle.enq_base.specs.declared.refusal.Refusal.TheVariants as refusal
use Rattle.enq_base.specs.declared.unit.Deed.{Deed}
use Rattle.enq_base.specs.declared.unit.Deed.TheVariants.{Put, Ins, Del, Add}
use Rattle.enq_base.specs.declared.unit.Effect.{Effect}
use Rattle.mode_rules.specs.declared.Mode.{Mode}
use Rattle.mode_rules.specs.declared.Mode.TheVariants as mode
use Rattle.lock_entry.specs.declared.entry.Asked.{Asked}
use Rattle.lock_entry.specs.declared.entry.Request.{Request}
use Rattle.lock_objects.specs.Arguments.{arguments, values_fault}
use Rattle.lock_objects.specs.Objects.{Object}
use Rattle.lock_objects.specs.declared.value.ArgFault.{ArgFault}
use Rattle.lock_objects.specs.declared.value.ArgFault.TheVariants as fault
use Rattle.lock_objects.specs.declared.value.FieldValue.{FieldValue}
use Rattle.lock_objects.specs.declared.value.Value.{Value}
use Rattle.lock_objects.specs.declared.value.Value.TheVariants.{Given, Initial, Long}
use Rattle.module_effects.specs.Integers.{integer_of}
use Rattle.owner_scope.specs.Halves.{names_dialogue, names_update}
use Rattle.dialogue_session.specs.Filling.{filled}
use Rattle.dialogue_session.specs.declared.variables.Variable.{Variable}
use Rattle.dialogue_session.specs.Private.{Private, with_effect, with_requests, with_variable, without_effects}
use Rattle.dialogue_session.specs.Private.{without_requests}
use Rattle.hall_model.specs.declared.command.Command.{Command}
use Rattle.hall_model.specs.declared.command.Command.TheVariants as command
use Rattle.hall_model.specs.declared.command.Reply.{Reply}
use Rattle.hall_model.specs.declared.command.Reply.TheVariants as reply
use Rattle.hall_model.specs.Step.{effects_in}
use Rattle.script_lang.specs.Reading.{line_of}
use Rattle.script_lang.specs.declared.script_line.RawValue.{RawValue}
use Rattle.script_lang.specs.declared.script_line.ScriptLine.{ScriptLine}
use Rattle.script_lang.specs.declared.script_line.ScriptLine.TheVariants as line
use Rattle.script_runner.specs.declared.effects.Verb.{Verb}
use Rattle.script_runner.specs.declared.effects.Verb.TheVariants as verb
use Rattle.script_runner.specs.declared.monitor.Monitor.{Monitor}
use Rattle.script_runner.specs.declared.monitor.Monitor.TheVariants as monitor
use Rattle.script_runner.specs.declared.monitor.LineKind.{LineKind}
use Rattle.script_runner.specs.declared.monitor.LineKind.TheVariants as kind
use Rattle.script_runner.specs.Sides.{container_of, parts_of, side_of, variables_of, with_new_side, with_side}
use Rattle.script_runner.specs.Sides.{without_side}
use Rattle.script_runner.specs.World.{Setting}

-- the line of these bytes; none is a bad line
unfoldable pub line_in : List ℕ → Option ScriptLine
line_in bytes = line_of bytes

-- what comes next, where nothing was refused
abbrev pub and_next : {X Y : Type 0} → Result X Refusal → (X → Result Y Refusal) → Result Y Refusal
and_next (Ok x) next = next x
and_next (Err r) next = Err r

-- An empty value is the initial one. Each byte of a line is a text's, so that a value can only be too long.
abbrev pub value_of : List ℕ → Value
value_of [] = Initial
value_of (b ∷ bs) = cond (is_short (b ∷ bs)) (Given (b ∷ bs)) Long

-- the value that bytes stand for, with texts in place of variables
abbrev pub given_value : List Variable → List ℕ → Result Value Refusal
given_value variables raw = and_next (filled variables raw) (λ bytes. Ok (value_of bytes))

-- a value of a field, in front of those behind it
abbrev pub value_before : List ℕ → Result Value Refusal → Result (List FieldValue) Refusal
    → Result (List FieldValue) Refusal
value_before field (Ok v) (Ok vs) = Ok (record { field = field; value = v } ∷ vs)
value_before field (Ok v) (Err r) = Err r
value_before field (Err r) vs = Err r

-- the values of a line with texts in place of variables, or the first of these that isn't known
abbrev pub field_values : List Variable → List RawValue → Result (List FieldValue) Refusal
field_values variables [] = Ok []
field_values variables (v ∷ vs) = value_before v.field (given_value variables v.raw) (field_values variables vs)

abbrev pub kind_of : ArgFault → ArgKind
kind_of fault.UnknownField = arg.Field
kind_of fault.TooWide = arg.Wide
kind_of fault.BadByte = arg.Byte
kind_of fault.Repeat = arg.Repeat
kind_of fault.NoMemory = arg.Field

abbrev pub is_object_called : List ℕ → Object → Bool
is_object_called name o = bytes_eq o.name name

abbrev pub object_at : List Object → List ℕ → Option Object
object_at objects name = find (is_object_called name) objects

-- the arguments that values make at an object, or the kind of the first wrong one
abbrev pub arguments_at : Object → List FieldValue → Mode → Result (List Asked) Refusal
arguments_at o values m =
    elim (values_fault o.fields values) [
      | None ↦ Ok (arguments o values m)
      | Some f ↦ Err (refusal.BadArgument (kind_of f))
    ]

-- the arguments that values make at the object of this name
abbrev pub asked_at : List Object → List ℕ → Mode → List FieldValue → Result (List Asked) Refusal
asked_at objects object m values =
    elim (object_at objects object) [ None ↦ Err refusal.UnknownObject | Some o ↦ arguments_at o values m ]

-- what a line on a lock object asks for: first its variables are looked up, then the object, and then the values are
-- tested
abbrev pub asking : List Variable → List Object → List ℕ → Mode → List RawValue → Result (List Asked) Refusal
asking variables objects object m values = and_next (field_values variables values) (asked_at objects object m)

abbrev pub request_in : Scope → Asked → Request
request_in scope asked = record { asked = asked; dialogue = names_dialogue scope; update = names_update scope }

abbrev pub in_scope : Scope → Result (List Asked) Refusal → Result (List Request) Refusal
in_scope scope (Ok asked) = Ok (map (request_in scope) asked)
in_scope scope (Err r) = Err r

-- the requests of a line, for the owners that its scope names
abbrev pub requesting : List Variable → List Object → List ℕ → Mode → Scope → List RawValue
    → Result (List Request) Refusal
requesting variables objects object m scope values = in_scope scope (asking variables objects object m values)

-- 1 to 60 bytes
abbrev pub has_key_length : List ℕ → Bool
has_key_length key = nat_le 1 (length key) && nat_le (length key) 60

-- bytes that are to be a key or a text: their number is tested first
abbrev pub argument_in : Bool → Bool → List ℕ → Result (List ℕ) Refusal
argument_in fits good bytes =
    if fits then (if good then Ok bytes else Err (refusal.BadArgument arg.Byte))
    else Err (refusal.BadArgument arg.Length)

abbrev pub key_in : List ℕ → Result (List ℕ) Refusal
key_in key = argument_in (has_key_length key) (list_all is_key_byte key) key

abbrev pub text_in : List ℕ → Result (List ℕ) Refusal
text_in text = argument_in (has_text_length text) (list_all is_text_byte text) text

abbrev pub number_in : List ℕ → Result ℤ Refusal
number_in text = elim (integer_of text) [ None ↦ Err (refusal.BadArgument arg.Number) | Some n ↦ Ok n ]

abbrev pub then_deed : {X : Type 0} → (X → Deed) → Result X Refusal → Result Deed Refusal
then_deed deed (Ok x) = Ok (deed x)
then_deed deed (Err r) = Err r

-- what an effect does, by its verb and what stands behind the key
abbrev pub deed_in : Verb → List ℕ → Result Deed Refusal
deed_in verb.Put text = then_deed Put (text_in text)
deed_in verb.Ins text = then_deed Ins (text_in text)
deed_in verb.Del text = Ok Del
deed_in verb.Add text = then_deed Add (number_in text)

abbrev pub effect_of : List ℕ → Result (List ℕ) Refusal → Result Deed Refusal → Result Effect Refusal
effect_of table (Ok key) (Ok deed) = Ok (record { table = table; key = key; deed = deed })
effect_of table (Ok key) (Err r) = Err r
effect_of table (Err r) deed = Err r

-- the effect of a line, or what is wrong: with its key, and then with its text or its number
abbrev pub effect_in : Verb → List ℕ → List ℕ → List ℕ → Result Effect Refusal
effect_in v table key text = effect_of table (key_in key) (deed_in v text)

-- the same with texts in place of variables: those of the key and of the text are looked up before either is tested
abbrev pub effect_with : List Variable → Verb → List ℕ → List ℕ → List ℕ → Result Effect Refusal
effect_with variables v table key text =
    and_next (filled variables key) (λ k. and_next (filled variables text) (λ t. effect_in v table k t))

-- the line of an effect
abbrev pub effect_line : Verb → List ℕ → ℕ → List ℕ → List ℕ → List ℕ → ScriptLine
effect_line verb.Put s part table key text = line.Put s part table key text
effect_line verb.Ins s part table key text = line.Ins s part table key text
effect_line verb.Del s part table key text = line.Del s part table key
effect_line verb.Add s part table key text = line.Add s part table key text

-- whether a line is blank, shows a monitor, or has a reply
abbrev pub line_kind : ScriptLine → LineKind
line_kind line.Blank = kind.Blank
line_kind line.Sm12 = kind.Shown monitor.Sm12
line_kind line.Sm13 = kind.Shown monitor.Sm13
line_kind line.Snro = kind.Shown monitor.Snro
line_kind line.Audit = kind.Shown monitor.Audit
line_kind _ = kind.Replied

-- what a line comes to
pub data Meaning : Type 0 where
  -- nothing: it is only counted
  Silent : Meaning
  -- what a monitor shows
  Shows : Monitor → Meaning
  -- a call of the server
  Calls : Command → Meaning
  -- a refusal before any call
  Declines : Refusal → Meaning
  -- another private side, and no call
  Changes : List Private → Meaning

abbrev pub unless_refused : {X : Type 0} → Result X Refusal → (X → Meaning) → Meaning
unless_refused (Ok x) next = next x
unless_refused (Err r) next = Declines r

-- the line of a session that has logged on
abbrev pub of_session : List Private → List ℕ → Meaning → Meaning
of_session sides s m = if is_some (side_of sides s) then m else Declines refusal.UnknownSession

-- the private sides with more requests in the session's container, which has room for 64
abbrev pub collected : List Private → List ℕ → List Request → Result (List Private) Refusal
collected sides s requests =
    if nat_lt 64 (length (container_of sides s) + length requests) then Err refusal.ContainerFull
    else Ok (with_side s (with_requests requests) sides)

-- the private sides with one more effect for this part of the session's unit, which has room for 200
abbrev pub registered : List Private → List ℕ → ℕ → Effect → Result (List Private) Refusal
registered sides s part effect =
    if nat_le 200 (effects_in (parts_of sides s)) then Err refusal.UnitTooLarge
    else Ok (with_side s (with_effect part effect) sides)

abbrev pub registering : List Private → List ℕ → ℕ → Effect → Meaning
registering sides s part effect = unless_refused (registered sides s part effect) Changes

abbrev pub collecting : List Private → List ℕ → List Request → Meaning
collecting sides s requests = unless_refused (collected sides s requests) Changes

-- the line of a session that asks for something at a lock object
abbrev pub with_asked : Setting → List ℕ → List ℕ → Mode → List RawValue → (List Asked → Meaning) → Meaning
with_asked w s object m values next =
    of_session w.sides s (unless_refused (asking (variables_of w.sides s) w.objects object m values) next)

-- the same in requests, for the owners that its scope names
abbrev pub with_requested : Setting → List ℕ → List ℕ → Mode → Scope → List RawValue → (List Request → Meaning)
    → Meaning
with_requested w s object m scope values next =
    of_session w.sides s (unless_refused (requesting (variables_of w.sides s) w.objects object m scope values) next)

-- the line of a session that registers an effect
abbrev pub effecting : Setting → List ℕ → ℕ → Verb → List ℕ → List ℕ → List ℕ → Meaning
effecting w s part v table key text =
    of_session w.sides s
    (unless_refused (effect_with (variables_of w.sides s) v table key text) (registering w.sides s part))

-- the key of a row with texts in place of variables, which are looked up before the key is tested
abbrev pub key_with : List Variable → List ℕ → Result (List ℕ) Refusal
key_with variables key = and_next (filled variables key) key_in

-- the line of a session that reads a row
abbrev pub reading : Setting → List ℕ → List ℕ → List ℕ → Meaning
reading w s table key =
    of_session w.sides s (unless_refused (key_with (variables_of w.sides s) key) (λ k. Calls (command.Read s table k)))

-- the line of a session that draws a number
abbrev pub numbering : Setting → List ℕ → List ℕ → List ℕ → Meaning
numbering w s object nr = of_session w.sides s (Calls (command.Number s object nr))

abbrev pub meaning : Setting → ScriptLine → Meaning
meaning w line.Blank = Silent
meaning w line.Sm12 = Shows monitor.Sm12
meaning w line.Sm13 = Shows monitor.Sm13
meaning w line.Snro = Shows monitor.Snro
meaning w line.Audit = Shows monitor.Audit
meaning w (line.Logon s user) = Calls (command.Logon s user)
meaning w (line.Logoff s) = of_session w.sides s (Calls (command.Logoff s))
meaning w (line.DeqAll s) = of_session w.sides s (Calls (command.FreeAll s))
meaning w (line.Flush s) = of_session w.sides s (Calls (command.Ask s (container_of w.sides s)))
meaning w (line.Reset s) = of_session w.sides s (Changes (with_side s without_requests w.sides))
meaning w (line.Rollback s) = of_session w.sides s (Calls (command.Rollback s))
meaning w (line.Enq s object m scope values) =
    with_requested w s object m scope values (λ rs. Calls (command.Ask s rs))
meaning w (line.Deq s object m scope values) =
    with_requested w s object m scope values (λ rs. Calls (command.Free s rs))
meaning w (line.Collect s object m scope values) = with_requested w s object m scope values (collecting w.sides s)
meaning w (line.Convert s object values) = with_asked w s object mode.O values
    (λ asked. Calls (command.Convert s asked))
meaning w (line.Num s object nr variable) = numbering w s object nr
meaning w (line.Read s table key variable) = reading w s table key
meaning w (line.Put s part table key text) = effecting w s part verb.Put table key text
meaning w (line.Ins s part table key text) = effecting w s part verb.Ins table key text
meaning w (line.Del s part table key) = effecting w s part verb.Del table key []
meaning w (line.Add s part table key number) = effecting w s part verb.Add table key number
meaning w (line.Commit s) = of_session w.sides s (Calls (command.Commit s (parts_of w.sides s) []))
meaning w (line.Take1 worker) = Calls (command.Take1 worker)
meaning w (line.Do1 worker) = Calls (command.Do1 worker)
meaning w (line.Take2 worker) = Calls (command.Take2 worker)
meaning w (line.Do2 worker) = Calls (command.Do2 worker)
meaning w (line.DropOrder worker) = Calls (command.DropOrder worker)
meaning w line.Kill = Calls command.Kill
meaning w line.FailOver = Calls command.FailOver
meaning w line.Restart = Calls command.Restart
meaning w line.Attach = Calls command.Attach
meaning w (line.Cancel unit) = Calls (command.Cancel unit)
meaning w (line.Resubmit unit) = Calls (command.Resubmit unit)

-- the private sides after a call that a line made, by its answer
abbrev pub settled : ScriptLine → Reply → List Private → List Private
settled (line.Logon s user) reply.Done sides = with_new_side s sides
settled (line.Logoff s) reply.Done sides = without_side s sides
settled (line.Flush s) reply.Done sides = with_side s without_requests sides
settled (line.Rollback s) reply.Done sides = with_side s (λ p. without_requests (without_effects p)) sides
settled (line.Commit s) reply.Done sides = with_side s without_effects sides
settled (line.Commit s) (reply.Unit unit) sides = with_side s without_effects sides
settled (line.Num s object nr variable) (reply.Number number code) sides =
    with_side s (with_variable variable (decimal number)) sides
settled (line.Read s table key variable) (reply.Row (Some text)) sides = with_side s (with_variable variable text) sides
settled _ _ sides = sides

-- the lines for which memory may be wanting once they are read: with lists, an effect or a variable, that make or copy
-- a private side, or that show a monitor
abbrev pub grows : ScriptLine → Bool
grows line.Sm12 = true
grows line.Sm13 = true
grows line.Snro = true
grows line.Audit = true
grows (line.Logon s user) = true
grows (line.Flush s) = true
grows (line.Enq s object m scope values) = true
grows (line.Deq s object m scope values) = true
grows (line.Collect s object m scope values) = true
grows (line.Convert s object values) = true
grows (line.Num s object nr variable) = true
grows (line.Read s table key variable) = true
grows (line.Put s part table key text) = true
grows (line.Ins s part table key text) = true
grows (line.Del s part table key) = true
grows (line.Add s part table key number) = true
grows (line.Commit s) = true
grows _ = false
