-- The whole landscape, and the first rule that a document breaks.
use Rattle.std.specs.Prelude.{ℕ, List, [], codes, if◌then◌else◌, Option, Some, None, Result, Ok, Err}
use Rattle.toml.specs.Data.{Data, Members, get_member}
use Rattle.landscape.specs.Broken.{Broken, then_read}
use Rattle.landscape.specs.Document.{document_of, is_top, limit_of}
use Rattle.landscape.specs.Objects.{objects_of}
use Rattle.landscape.specs.Ranges.{ranges_of}
use Rattle.landscape.specs.Tables.{items_at}
use Rattle.landscape.specs.declared.landscape.Landscape.{Landscape}

-- a rule of the whole document
abbrev pub at_top : {A : Type 0} → ℕ → Option A → Result A Broken
at_top rule None = Err (record { rule = rule; place = 0 })
at_top rule (Some x) = Ok x

-- the items at a key; none where there is no such key
abbrev pub listed : Option (List Data) → List Data
listed None = []
listed (Some ds) = ds

-- the landscape that a table is, or the first rule from the third on that it breaks
unfoldable pub landscape_in : Members → Result Landscape Broken
landscape_in top =
    if is_top top then
    then_read (at_top 4 (limit_of 100000 (get_member (codes "max_locks") top))) (λ max_locks.
    then_read (at_top 5 (limit_of 1048576 (get_member (codes "max_marks") top))) (λ max_marks.
    then_read (objects_of (listed (items_at (codes "object") top))) (λ objects.
    then_read (ranges_of (listed (items_at (codes "range") top))) (λ ranges.
    Ok (record { max_locks = max_locks; max_marks = max_marks; objects = objects; ranges = ranges })))))
    else Err (record { rule = 3; place = 0 })

-- the landscape that the bytes are, or the first rule that they break
unfoldable pub landscape_of : List ℕ → Result Landscape Broken
landscape_of bytes = then_read (document_of bytes) landscape_in
