-- What stands at the keys of a table.
use Rattle.std.specs.Prelude.{ℕ, suc, ◌&&◌, nat_eq, nat_le, ℤ, pos, negsuc, List, [], ◌∷◌, if◌then◌else◌, Option, Some}
use Rattle.std.specs.Prelude.{None, option_and_then, option_map}
use Rattle.toml.specs.Data.{Data, Items, no_items, item, Members, no_members, member, get_member, as_str, as_integer}
use Rattle.toml.specs.Data.{as_array, as_table}
use Rattle.enq_base.specs.Grammar.{is_name}
use Rattle.enq_base.specs.Number.{◌>>=◌}

-- the keys of a table
abbrev pub keys_of : Members → List (List ℕ)
keys_of no_members = []
keys_of (member k d ms) = k ∷ keys_of ms

abbrev pub key_count : Members → ℕ
key_count no_members = 0
key_count (member k d ms) = suc (key_count ms)

-- the items of an array, in their order
abbrev pub list_of : Items → List Data
list_of no_items = []
list_of (item d ds) = d ∷ list_of ds

-- a table with so many keys
unfoldable pub table_with : ℕ → Data → Option Members
table_with n d = do
  ms ← as_table d
  if nat_eq (key_count ms) n then Some ms else None

abbrev pub text_at : List ℕ → Members → Option (List ℕ)
text_at key ms = option_and_then as_str (get_member key ms)

abbrev pub integer_at : List ℕ → Members → Option ℤ
integer_at key ms = option_and_then as_integer (get_member key ms)

abbrev pub items_at : List ℕ → Members → Option (List Data)
items_at key ms = option_map list_of (option_and_then as_array (get_member key ms))

-- a text that is a name
unfoldable pub name_in : Data → Option (List ℕ)
name_in d = do
  text ← as_str d
  if is_name text then Some text else None

unfoldable pub name_at : List ℕ → Members → Option (List ℕ)
name_at key ms = do
  d ← get_member key ms
  name_in d

-- an integer that isn't negative
abbrev pub natural_of : ℤ → Option ℕ
natural_of (pos n) = Some n
natural_of (negsuc n) = None

-- an integer from the least to the most
unfoldable pub number_within : ℕ → ℕ → ℤ → Option ℕ
number_within least most z = do
  n ← natural_of z
  if nat_le least n && nat_le n most then Some n else None
