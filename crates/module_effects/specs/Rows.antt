-- Business tables: the rows that there are, with their texts.
use Rattle.std.specs.Prelude.{ℕ, List, Option, Some, None}
use Rattle.std.specs.Ordering.{ordering_then, nat_cmp}
use Rattle.std.specs.Cmp.Lexicographic.{slice_cmp}
use Rattle.std.specs.declared.cmp.Ordering.{Ordering}
use Rattle.std.specs.FinMap.{FinMap, insert, remove}
use Rattle.enq_base.specs.declared.unit.Effect.{Effect}

-- a row is named by its table and its key
abbrev pub RowName : Type 0
RowName = List ℕ × List ℕ

-- by the table's bytes, and then by the key's
abbrev pub row_cmp : RowName → RowName → Ordering
row_cmp a b = ordering_then (slice_cmp nat_cmp a.0 b.0) (slice_cmp nat_cmp a.1 b.1)

-- the text of each row that there is
abbrev pub Tables : Type 0
Tables = FinMap row_cmp (List ℕ)

-- the tables with this text in the row, or without the row
abbrev pub with_row : Tables → RowName → Option (List ℕ) → Tables
with_row tables row None = remove tables row
with_row tables row (Some text) = insert tables row text

-- the row that an effect changes
abbrev pub row_of : Effect → RowName
row_of effect = (effect.table, effect.key)
