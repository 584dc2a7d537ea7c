-- What right records say of a ledger.
use Rattle.std.specs.Prelude.{ℕ, Bool, List}
use Rattle.enq_base.specs.declared.unit.Num.{Num as Number}
use Rattle.update_records.specs.Ledger.{IsRightLevel}
use Rattle.update_records.specs.RecordRows.{Level}
use Rattle.update_records.specs.declared.stored.Record.{Record}
use Rattle.update_records.specs.declared.stored.Record.TheVariants as rec

abbrev pub level_in : ℕ → ℕ → ℕ → Bool → Level
level_in from to level buffered = record { from = from; to = to; level = level; buffered = buffered }

-- the row is of an interval that has these numbers, as a lawful ledger wants it
abbrev pub IsRightRow : List Number → Record → Type 0
IsRightRow numbers (rec.Level object nr from to level buffered) =
    IsRightLevel (object, nr) numbers (level_in from to level buffered)
IsRightRow numbers r = ⊥
