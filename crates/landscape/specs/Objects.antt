-- The lock objects of a landscape: rules 6 to 9.
use Rattle.std.specs.Prelude.{ℕ, Bool, false, not, ◌&&◌, List, [], ◌∷◌, codes, if◌then◌else◌, Option, Some, None}
use Rattle.std.specs.Prelude.{is_some, Result, Ok, Err}
use Rattle.std.specs.List.{list_all, list_any}
use Rattle.std.specs.Str.{bytes_eq}
use Rattle.toml.specs.Data.{Data, as_str, as_table}
use Rattle.enq_base.specs.Number.{◌>>=◌}
use Rattle.lock_objects.specs.Objects.{Object, object_fault}
use Rattle.lock_objects.specs.declared.field.Field.{Field}
use Rattle.lock_objects.specs.declared.field.KeyTable.{KeyTable}
use Rattle.landscape.specs.Broken.{Broken, in_turn, or_rule, then_read}
use Rattle.landscape.specs.Tables.{integer_at, items_at, name_at, name_in, number_within, table_with, text_at}

-- ---- rule 6: exactly the keys, each of its kind

-- items, each of which passes
abbrev pub hold : (Data → Bool) → Option (List Data) → Bool
hold test None = false
hold test (Some ds) = list_all test ds

abbrev pub is_text : Data → Bool
is_text d = is_some (as_str d)

-- a name and a width
unfoldable pub is_field : Data → Bool
is_field d =
    elim (table_with 2 d) [
      | None ↦ false
      | Some ms ↦ is_some (text_at (codes "name") ms) && is_some (integer_at (codes "width") ms)
    ]

-- a name and keys
unfoldable pub is_key_table : Data → Bool
is_key_table d =
    elim (table_with 2 d) [
      | None ↦ false
      | Some ms ↦ is_some (text_at (codes "name") ms) && hold is_text (items_at (codes "keys") ms)
    ]

-- a name, fields and tables
unfoldable pub is_object : Data → Bool
is_object d =
    elim (table_with 3 d) [
      | None ↦ false
      | Some ms ↦
          (is_some (text_at (codes "name") ms) && hold is_field (items_at (codes "fields") ms))
          && hold is_key_table (items_at (codes "table") ms)
    ]

-- ---- rule 7: names are names, and widths are 1 to 150

-- what each of the items is read as; none where one of them can't be read
unfoldable pub each : {A : Type 0} → (Data → Option A) → List Data → Option (List A)
each read [] = Some []
each read (d ∷ ds) = do
  x ← read d
  xs ← each read ds
  Some (x ∷ xs)

unfoldable pub field_of : Data → Option Field
field_of d = do
  ms ← as_table d
  name ← name_at (codes "name") ms
  z ← integer_at (codes "width") ms
  width ← number_within 1 150 z
  Some (record { name = name; width = width })

unfoldable pub key_table_of : Data → Option KeyTable
key_table_of d = do
  ms ← as_table d
  name ← name_at (codes "name") ms
  ds ← items_at (codes "keys") ms
  keys ← each name_in ds
  Some (record { name = name; keys = keys })

unfoldable pub object_of : Data → Option Object
object_of d = do
  ms ← as_table d
  name ← name_at (codes "name") ms
  field_items ← items_at (codes "fields") ms
  fields ← each field_of field_items
  table_items ← items_at (codes "table") ms
  tables ← each key_table_of table_items
  Some (record { name = name; fields = fields; tables = tables })

-- ---- rules 8 and 9: a lock object, and no earlier one of its name

abbrev pub has_name : List ℕ → Object → Bool
has_name name o = bytes_eq o.name name

-- the object behind the earlier ones; else the first rule that it breaks
unfoldable pub read_object : List Object → Data → Result Object ℕ
read_object earlier d =
    if not (is_object d) then Err 6
    else then_read (or_rule 7 (object_of d)) (λ o.
    if is_some (object_fault o.fields o.tables) then Err 8
    else if list_any (has_name o.name) earlier then Err 9
    else Ok o)

-- the objects of a document, in its order
abbrev pub objects_of : List Data → Result (List Object) Broken
objects_of ds = in_turn read_object [] ds
