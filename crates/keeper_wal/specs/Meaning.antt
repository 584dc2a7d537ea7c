-- The rows to which the batches of a journal lead, as a function of its bytes.
use Rattle.std.specs.Prelude.{ℕ, zero, suc, List, [], ◌∷◌, length, drop, Option, Some, None, nat_lt, ◌==◌}
use Rattle.std.specs.Prelude.{if◌then◌else◌}
use Rattle.std.specs.FinMap.{empty}
use Rattle.keeper_api.specs.Batch.{changed}
use Rattle.keeper_api.specs.Rows.{Rows}
use Rattle.keeper_api.specs.declared.rows.Change.{Change}
use Rattle.keeper_wal.specs.Reading.{batch_at}

-- the rows after the batch that was read, and after those behind it
abbrev pub after_batch : (Rows → List ℕ → Rows) → Rows → Option (List Change × List ℕ) → Rows
after_batch others rows None = rows
after_batch others rows (Some read) = others (changed read.0 rows) read.1

-- at most so many batches, each behind an open gate
abbrev pub rows_from : ℕ → Rows → List ℕ → Rows
rows_from zero rows bytes = rows
rows_from (suc n) rows [] = rows
rows_from (suc n) rows (gate ∷ behind) = if gate == 1 then after_batch (rows_from n) rows (batch_at behind) else rows

-- The rows for which bytes stand. Where they stand for none, those up to where they break.
unfoldable pub rows_in : List ℕ → Rows
rows_in bytes = if nat_lt 9 (length bytes) then rows_from (length bytes) empty (drop 8 bytes) else empty
