-- The line that bytes spell, part by part from the left.
use Rattle.std.specs.Prelude.{◌≡◌, ℕ, Bool, nat_eq, nat_le, List, [], ◌∷◌, codes, if◌then◌else◌, Option, Some, None}
use Rattle.std.specs.Prelude.{option_map, Result, Ok, Err}
use Rattle.std.specs.Str.{bytes_eq}
use Rattle.std.specs.List.{list_all, slice_split}
use Rattle.enq_base.specs.Cut.{cut}
use Rattle.enq_base.specs.Grammar.{is_name, is_key_byte}
use Rattle.enq_base.specs.Number.{◌>>=◌, count_of, unit_key_of}
use Rattle.script_lang.specs.Parts.{is_raw, is_rest, is_nr, is_blank}
use Rattle.script_lang.specs.Words.{change_of, mode_of, monitor_line, order_line, plain_line, scope_of, server_line}
use Rattle.script_lang.specs.Words.{unit_line, verb_of}
use Rattle.script_lang.specs.declared.read_fault.ReadFault.{ReadFault}
use Rattle.script_lang.specs.declared.read_fault.ReadFault.TheVariants as fault
use Rattle.script_lang.specs.declared.request.Request.{Request}
use Rattle.script_lang.specs.declared.script_line.RawValue.{RawValue}
use Rattle.script_lang.specs.declared.script_line.ScriptLine.{ScriptLine}
use Rattle.script_lang.specs.declared.script_line.ScriptLine.TheVariants as line
use Rattle.script_lang.specs.declared.words.Change.{Change}
use Rattle.script_lang.specs.declared.words.Change.TheVariants as change
use Rattle.script_lang.specs.declared.words.Verb.{Verb}
use Rattle.script_lang.specs.declared.words.Verb.TheVariants as verb

-- what a function answered is what reading gives, unless memory ran out
abbrev pub Gives : {A B : Type 0} → (A → B) → Result A ReadFault → Option B → Type 0
Gives view (Ok x) read = read ≡ Some (view x)
Gives view (Err fault.BadLine) read = read ≡ None
Gives view (Err fault.NoMemory) read = Unit {0}

-- the text itself, where it passes
abbrev pub passing : (List ℕ → Bool) → List ℕ → Option (List ℕ)
passing test text = if test text then Some text else None

-- a number from 1 to 64
unfoldable pub worker_of : List ℕ → Option ℕ
worker_of text = do
  n ← count_of text
  if nat_le n 64 then Some n else None

unfoldable pub value_of : List ℕ → Option RawValue
value_of text = do
  c ← cut 61 text
  field ← passing is_name (c.0)
  if list_all is_key_byte (c.1) then Some (record { field = field; raw = c.1 }) else None

unfoldable pub values_of : List (List ℕ) → Option (List RawValue)
values_of [] = Some []
values_of (p ∷ ps) = do
  v ← value_of p
  vs ← values_of ps
  Some (v ∷ vs)

-- values with one space between each two
unfoldable pub values_in : List ℕ → Option (List RawValue)
values_in text = values_of (slice_split (λ b. nat_eq b 32) text)

-- a part, and the values behind it
unfoldable pub with_values : List ℕ → Option (List ℕ × List RawValue)
with_values text =
    elim (cut 32 text) [
      | None ↦ Some (text, [])
      | Some c ↦ option_map (λ (vs : List RawValue). (c.0, vs)) (values_in (c.1))
    ]

-- an object, and the values behind it
unfoldable pub object_and_values : List ℕ → Option (List ℕ × List RawValue)
object_and_values text = do
  h ← with_values text
  object ← passing is_name (h.0)
  Some (object, h.1)

-- what stands behind ENQ, DEQ and COLLECT
unfoldable pub request_of : List ℕ → Option Request
request_of text = do
  a ← cut 32 text
  object ← passing is_name (a.0)
  b ← cut 32 (a.1)
  mode ← mode_of (b.0)
  h ← with_values (b.1)
  scope ← scope_of (h.0)
  Some (record { object = object; mode = mode; scope = scope; values = h.1 })

-- what stands behind NUM
unfoldable pub number_line : List ℕ → List ℕ → Option ScriptLine
number_line s text = do
  a ← cut 32 text
  object ← passing is_name (a.0)
  b ← cut 32 (a.1)
  nr ← passing is_nr (b.0)
  variable ← passing is_name (b.1)
  Some (line.Num s object nr variable)

-- what stands behind READ
unfoldable pub row_line : List ℕ → List ℕ → Option ScriptLine
row_line s text = do
  a ← cut 32 text
  table ← passing is_name (a.0)
  b ← cut 32 (a.1)
  variable ← passing is_name (b.1)
  key ← passing is_raw (b.0)
  Some (line.Read s table key variable)

-- a key, and a text or a number behind it
unfoldable pub key_and : (List ℕ → Bool) → List ℕ → Option (List ℕ × List ℕ)
key_and test text = do
  c ← cut 32 text
  key ← passing is_raw (c.0)
  rest ← passing test (c.1)
  Some (key, rest)

-- an effect on a row, behind its table
unfoldable pub effect_line : List ℕ → ℕ → Change → List ℕ → List ℕ → Option ScriptLine
effect_line s part change.Put table text = do
  h ← key_and is_rest text
  Some (line.Put s part table (h.0) (h.1))
effect_line s part change.Ins table text = do
  h ← key_and is_rest text
  Some (line.Ins s part table (h.0) (h.1))
effect_line s part change.Del table text = do
  key ← passing is_raw text
  Some (line.Del s part table key)
effect_line s part change.Add table text = do
  h ← key_and is_raw text
  Some (line.Add s part table (h.0) (h.1))

-- what stands behind V1 and V2
unfoldable pub update_line : List ℕ → ℕ → List ℕ → Option ScriptLine
update_line s part text = do
  a ← cut 32 text
  change ← change_of (a.0)
  b ← cut 32 (a.1)
  table ← passing is_name (b.0)
  effect_line s part change table (b.1)

-- what stands behind a session's verb
unfoldable pub verb_line : List ℕ → Verb → List ℕ → Option ScriptLine
verb_line s verb.Logon text = do
  user ← passing is_name text
  Some (line.Logon s user)
verb_line s verb.Enq text = do
  r ← request_of text
  Some (line.Enq s r.object r.mode r.scope r.values)
verb_line s verb.Deq text = do
  r ← request_of text
  Some (line.Deq s r.object r.mode r.scope r.values)
verb_line s verb.Collect text = do
  r ← request_of text
  Some (line.Collect s r.object r.mode r.scope r.values)
verb_line s verb.Convert text = do
  o ← object_and_values text
  Some (line.Convert s (o.0) (o.1))
verb_line s verb.Num text = number_line s text
verb_line s verb.Read text = row_line s text
verb_line s verb.V1 text = update_line s 1 text
verb_line s verb.V2 text = update_line s 2 text

-- what stands behind a session's name
unfoldable pub session_line : List ℕ → List ℕ → Option ScriptLine
session_line s act =
    elim (cut 32 act) [
      | None ↦ plain_line s act
      | Some c ↦ do
        verb ← verb_of (c.0)
        verb_line s verb (c.1)
    ]

-- what stands behind `!`
unfoldable pub admin_line : List ℕ → Option ScriptLine
admin_line act =
    elim (cut 32 act) [
      | None ↦ server_line act
      | Some c ↦ do
        unit ← unit_key_of (c.1)
        unit_line unit (c.0)
    ]

-- what stands behind `@`
unfoldable pub worker_line : List ℕ → List ℕ → Option ScriptLine
worker_line number act = do
  worker ← worker_of number
  order_line worker act

-- the line of who stands first: a worker, the administrator, a monitor or a session
unfoldable pub act_line : List ℕ → List ℕ → Option ScriptLine
act_line [] act = None
act_line (b ∷ bs) act =
    if nat_eq b 64 then worker_line bs act
    else if bytes_eq (b ∷ bs) (codes "!") then admin_line act
    else if bytes_eq (b ∷ bs) (codes "?") then monitor_line act
    else (do
      s ← passing is_name (b ∷ bs)
      session_line s act)

-- the line that the bytes spell
unfoldable pub line_of : List ℕ → Option ScriptLine
line_of bytes =
    if is_blank bytes then Some line.Blank
    else (do
      c ← cut 32 bytes
      act_line (c.0) (c.1))
