-- The lock arguments that values of an object's fields make.
use Rattle.std.specs.Prelude.{◌≡◌, ℕ, ◌-◌, nat_lt, cond, List, [], ◌∷◌, ◌++◌, length, map, replicate, Option, Some}
use Rattle.std.specs.Prelude.{None}
use Rattle.std.specs.List.{find, list_any, list_all, flat_map}
use Rattle.std.specs.Option.{option_or, option_map_or}
use Rattle.std.specs.Str.{bytes_eq}
use Rattle.mode_rules.specs.declared.Mode.{Mode}
use Rattle.lock_entry.specs.Argument.{generic, is_plain_byte}
use Rattle.lock_entry.specs.declared.entry.Asked.{Asked}
use Rattle.lock_objects.specs.declared.field.Field.{Field}
use Rattle.lock_objects.specs.declared.field.KeyTable.{KeyTable}
use Rattle.lock_objects.specs.declared.value.FieldValue.{FieldValue}
use Rattle.lock_objects.specs.declared.value.Value.{Value}
use Rattle.lock_objects.specs.declared.value.Value.TheVariants.{Given, Initial, Long}
use Rattle.lock_objects.specs.declared.value.ArgFault.{ArgFault}
use Rattle.lock_objects.specs.declared.value.ArgFault.TheVariants as fault
use Rattle.lock_objects.specs.Objects.{Object, field_named}

-- a text as a value: one over 150 bytes is too long for any field
abbrev pub value_of_text : List ℕ → Value
value_of_text text = cond (nat_lt 150 (length text)) Long (Given text)

-- the value of the field of this name
abbrev pub value_named : List FieldValue → List ℕ → Option FieldValue
value_named values name = find (λ v. bytes_eq v.field name) values

-- a given value with spaces behind it up to the width, and spaces for the initial value
abbrev pub padded : (width : ℕ) → Value → List ℕ
padded width (Given text) = text ++ replicate (width - length text) 32
padded width Initial = replicate width 32
padded width Long = []

-- what a field gives: its value, or `@` at each place
abbrev pub part : List FieldValue → Field → List ℕ
part values f = option_map_or (λ v. padded f.width v.value) (value_named values f.name) (replicate f.width generic)

abbrev pub key_part : List Field → List FieldValue → (key : List ℕ) → List ℕ
key_part fields values key = option_map_or (part values) (field_named fields key) []

-- the parts of the key fields, one after the other
abbrev pub argument : List Field → List FieldValue → (keys : List (List ℕ)) → List ℕ
argument fields values keys = flat_map (key_part fields values) keys

-- what is asked for in a table
abbrev pub asked_of : List Field → List FieldValue → Mode → KeyTable → Asked
asked_of fields values mode t = record { table = t.name; pattern = argument fields values t.keys; mode = mode }

-- one lock argument for each table
abbrev pub arguments : Object → List FieldValue → Mode → List Asked
arguments o values mode = map (asked_of o.fields values mode) o.tables

-- why a value is none of a field of this width
abbrev pub given_fault : (width : ℕ) → List ℕ → Option ArgFault
given_fault width text = cond (nat_lt width (length text)) (Some fault.TooWide)
    (cond (list_all is_plain_byte text) None (Some fault.BadByte))

abbrev pub text_fault : (width : ℕ) → Value → Option ArgFault
text_fault width (Given text) = given_fault width text
text_fault width Initial = None
text_fault width Long = Some fault.TooWide

-- why a value is refused, after those before it
abbrev pub value_fault : List Field → (before : List FieldValue) → FieldValue → Option ArgFault
value_fault fields before v =
    option_map_or (λ f. cond (list_any (λ w. bytes_eq w.field v.field) before) (Some fault.Repeat)
    (text_fault f.width v.value))
    (field_named fields v.field) (Some fault.UnknownField)

-- the fault of the first value that has one
abbrev pub fault_after : List Field → (before values : List FieldValue) → Option ArgFault
fault_after fields before [] = None
fault_after fields before (v ∷ vs) = option_or (value_fault fields before v) (fault_after fields (before ++ v ∷ []) vs)

abbrev pub values_fault : List Field → List FieldValue → Option ArgFault
values_fault fields values = fault_after fields [] values

-- the fault is the first value's that has one, or want of memory
abbrev pub IsArgFault : Option ArgFault → ArgFault → Type 0
IsArgFault first fault.NoMemory = Unit {0}
IsArgFault first f = first ≡ Some f
