-- The document of a landscape, and its two limits: rules 1 to 5.
use Rattle.std.specs.Prelude.{ℕ, Bool, true, false, ◌&&◌, nat_eq, nat_lt, List, [], ◌∷◌, length, codes, if◌then◌else◌}
use Rattle.std.specs.Prelude.{Option, Some, None, is_some, Result, Ok, Err}
use Rattle.std.specs.List.{list_all, list_any}
use Rattle.std.specs.Str.{bytes_eq}
use Rattle.std.specs.Str.Lossy.{utf8_valid_len}
use Rattle.toml.specs.Data.{Data, Members, get_member, as_integer, as_array, as_table}
use Rattle.toml.specs.Parse.{parse_document}
use Rattle.enq_base.specs.Number.{◌>>=◌}
use Rattle.landscape.specs.Broken.{Broken}
use Rattle.landscape.specs.Tables.{keys_of, list_of, number_within}

-- the most bytes of a document
abbrev pub most_bytes : ℕ
most_bytes = 1048576

abbrev pub is_utf8 : List ℕ → Bool
is_utf8 bytes = nat_eq (utf8_valid_len bytes) (length bytes)

-- the table that the bytes are: at most so many, UTF-8, and TOML
unfoldable pub document_of : List ℕ → Result Members Broken
document_of bytes =
    if nat_lt most_bytes (length bytes) then Err (record { rule = 1; place = 0 })
    else if is_utf8 bytes then
    (elim (parse_document bytes) [ None ↦ Err (record { rule = 2; place = 0 }) | Some top ↦ Ok top ])
    else Err (record { rule = 2; place = 0 })

-- the keys of the whole document
abbrev pub top_keys : List (List ℕ)
top_keys = codes "max_locks" ∷ codes "max_marks" ∷ codes "object" ∷ codes "range" ∷ []

abbrev pub is_table : Data → Bool
is_table d = is_some (as_table d)

-- an array of tables
abbrev pub holds_tables : Data → Bool
holds_tables d = elim (as_array d) [ None ↦ false | Some ds ↦ list_all is_table (list_of ds) ]

-- an array of tables, or nothing
abbrev pub are_tables : Option Data → Bool
are_tables None = true
are_tables (Some d) = holds_tables d

abbrev pub is_top_key : List ℕ → Bool
is_top_key key = list_any (bytes_eq key) top_keys

-- no other keys, and objects and ranges are tables
abbrev pub is_top : Members → Bool
is_top top =
    (list_all is_top_key (keys_of top) && are_tables (get_member (codes "object") top))
    && are_tables (get_member (codes "range") top)

-- an integer from 1 to the most; the most where the key is absent
unfoldable pub limit_of : ℕ → Option Data → Option ℕ
limit_of most None = Some most
limit_of most (Some d) = do
  z ← as_integer d
  number_within 1 most z
