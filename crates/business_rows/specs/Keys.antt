-- Business rows by their names, as a map looks them up.
use Rattle.std.specs.Prelude.{Bool, ◌&&◌}
use Rattle.std.specs.Str.{bytes_eq}
use Rattle.module_effects.specs.Rows.{RowName}
use Rattle.business_rows.specs.declared.business_key.BusinessKey.{BusinessKey}

abbrev pub key_of : RowName → BusinessKey
key_of name = record { table = name.0; key = name.1 }

abbrev pub name_of : BusinessKey → RowName
name_of key = (key.table, key.key)

abbrev pub same_key : BusinessKey → BusinessKey → Bool
same_key a b = bytes_eq a.table b.table && bytes_eq a.key b.key
