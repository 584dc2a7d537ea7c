-- Which fields and tables make a lock object.
use Rattle.std.specs.Prelude.{◌≡◌, ℕ, min, Bool, not, ◌&&◌, nat_eq, nat_lt, nat_le, cond, List, [], ◌∷◌, ◌++◌, length}
use Rattle.std.specs.Prelude.{map, sum_by, Option, Some, None, IsTrue, is_some, option_map}
use Rattle.std.specs.List.{find, list_all, list_any}
use Rattle.std.specs.Option.{option_or, option_map_or}
use Rattle.std.specs.Str.{bytes_eq}
use Rattle.lock_objects.specs.declared.field.Field.{Field}
use Rattle.lock_objects.specs.declared.field.KeyTable.{KeyTable}
use Rattle.lock_objects.specs.declared.field.ObjectFault.{ObjectFault}
use Rattle.lock_objects.specs.declared.field.ObjectFault.TheVariants.{NoTable, TooManyTables, TooLong, UnknownField}
use Rattle.lock_objects.specs.declared.field.ObjectFault.TheVariants.{Repeat}

-- a lock object, as its callers see it
pub record Object : Type 0 where
  pub name : List ℕ
  pub fields : List Field
  pub tables : List KeyTable

abbrev pub field_named : List Field → List ℕ → Option Field
field_named fields name = find (λ f. bytes_eq f.name name) fields

-- the first that f gives of the elements
abbrev pub first_some : {X Y : Type 0} → (X → Option Y) → List X → Option Y
first_some f [] = None
first_some f (x ∷ xs) = option_or (f x) (first_some f xs)

-- the first name that is one of those before it
abbrev pub repeat_after : (before names : List (List ℕ)) → Option (List ℕ)
repeat_after before [] = None
repeat_after before (n ∷ ns) = cond (list_any (bytes_eq n) before) (Some n) (repeat_after (before ++ n ∷ []) ns)

abbrev pub first_repeat : List (List ℕ) → Option (List ℕ)
first_repeat names = repeat_after [] names

-- the first name that is no field's
abbrev pub first_unknown : List Field → List (List ℕ) → Option (List ℕ)
first_unknown fields names = find (λ n. not (is_some (field_named fields n))) names

abbrev pub key_width : List Field → (key : List ℕ) → ℕ
key_width fields key = option_map_or (λ f. f.width) (field_named fields key) 0

-- how many bytes the arguments of a table with these keys have
abbrev pub argument_length : List Field → List (List ℕ) → ℕ
argument_length fields keys = sum_by (key_width fields) keys

-- a number that 32 bits hold, or else the largest of them
abbrev pub in_32_bits : ℕ → ℕ
in_32_bits n = min 4294967295 n

-- the length, where it isn't 1 to 255
abbrev pub wrong_length : ℕ → Option ℕ
wrong_length n = cond (nat_le 1 n && nat_le n 255) None (Some (in_32_bits n))

abbrev pub tables_fault : List KeyTable → Option ObjectFault
tables_fault tables =
    cond (nat_eq (length tables) 0) (Some NoTable)
    (cond (nat_lt 8 (length tables)) (Some (TooManyTables (in_32_bits (length tables)))) None)

-- a field, a table, or a key within a table stands twice
abbrev pub repeat_fault : List Field → List KeyTable → Option ObjectFault
repeat_fault fields tables =
    option_map Repeat
    (option_or (first_repeat (map (λ f. f.name) fields))
    (option_or (first_repeat (map (λ t. t.name) tables))
    (first_some (λ t. first_repeat t.keys) tables)))

-- Why fields and tables make no lock object: 1 to 8 tables, nothing twice, keys that are fields, and arguments of 1 to
-- 255 bytes, tested in this order.
abbrev pub object_fault : List Field → List KeyTable → Option ObjectFault
object_fault fields tables =
    option_or (tables_fault tables)
    (option_or (repeat_fault fields tables)
    (option_or (option_map UnknownField (first_some (λ t. first_unknown fields t.keys) tables))
    (option_map TooLong (first_some (λ t. wrong_length (argument_length fields t.keys)) tables))))

-- 1 to 150
abbrev pub has_width : Field → Bool
has_width f = nat_le 1 f.width && nat_le f.width 150

-- fields of 1 to 150 bytes, and nothing wrong with fields and tables
pub record IsObject (fields : List Field) (tables : List KeyTable) : Type 0 where
  pub widths : IsTrue (list_all has_width fields)
  pub right : object_fault fields tables ≡ None
