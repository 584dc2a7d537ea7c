-- A ledger with one thing more.
use Rattle.std.specs.Prelude.{ℕ, ◌+◌, [], ◌∷◌, ◌++◌, length}
use Rattle.enq_base.specs.declared.owner.UnitKey.{UnitKey}
use Rattle.update_records.specs.declared.records.Mark.{Mark}
use Rattle.update_records.specs.declared.records.MarkKind.{MarkKind}
use Rattle.update_records.specs.declared.records.MarkKind.TheVariants.{Rec}
use Rattle.update_records.specs.declared.records.Unit.{Unit as UnitOfWork}
use Rattle.update_records.specs.Ledger.{Ledger}

-- a mark with the number behind the last one
abbrev pub next_mark : Ledger → UnitKey → MarkKind → Mark
next_mark ledger key kind = record { seq = length ledger.marks + 1; unit = key; kind = kind }

abbrev pub with_mark : Ledger → UnitKey → MarkKind → Ledger
with_mark ledger key kind = record ledger { marks = ledger.marks ++ next_mark ledger key kind ∷ [] }

-- one more unit, and its mark
abbrev pub with_unit : Ledger → UnitOfWork → Ledger
with_unit ledger unit = record (with_mark ledger unit.key Rec) { units = ledger.units ++ unit ∷ [] }

-- another start number
abbrev pub with_start : Ledger → ℕ → Ledger
with_start ledger start = record ledger { start = start }
