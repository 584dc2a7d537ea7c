-- What was read of each table is the ledger that the records spell.
use Rattle.std.proofs.Common.{◌≡◌, ℕ, true, false, List, [], map, refl, sym, ap, ◌∙◌, arith}
use Rattle.std.specs.FinMap.{empty, get-empty, get-from_entries, same_map}
use Rattle.std.specs.List.{flat_map}
use Rattle.module_effects.specs.Rows.{row_cmp}
use Rattle.module_effects.proofs.lemmas.Tables.{exact_rows, rows_total}
use Rattle.update_records.specs.Ledger.{Ledger, Levels, no_ledger, recorded}
use Rattle.update_records.specs.declared.records.Mark.{Mark}
use Rattle.update_records.specs.declared.records.Unit.{Unit as UnitOfWork}
use Rattle.update_records.specs.declared.stored.Record.{Record}
use Rattle.store_reading.specs.Rules.{marks_in}
use Rattle.store_reading.specs.Stores.{is_bare, ledger_in, level_entry, levels_in, start_in, unit_in, units_in}
use Rattle.store_reading.specs.Told.{records_in}
use Rattle.store_reading.proofs.Bare.{bare_table}
use Rattle.store_reading.proofs.Exact.{ledger_bare, ledger_told}
use Rattle.store_reading.proofs.lemmas.BooksStand.{told_ledger}

abbrev made_of : ℕ → List UnitOfWork → List Mark → Levels → Ledger
made_of start units marks levels = record { start = start; units = units; marks = marks; levels = levels }

same_parts : (start other : ℕ) (units others : List UnitOfWork) (marks noted : List Mark) (levels stored : Levels) → start ≡ other → units ≡ others
    → marks ≡ noted → levels ≡ stored → made_of start units marks levels ≡ made_of other others noted stored
same_parts start other units others marks noted levels stored s u m l = λ i. record { start = s i; units = u i; marks = m i; levels = l i }

no_levels : levels_in [] ≡ empty
no_levels = same_map rows_total exact_rows (levels_in []) empty (λ q. get-from_entries rows_total (flat_map level_entry []) q ∙ sym (get-empty row_cmp q))

no_units : (records : List (List Record)) → is_bare records ≡ true → units_in records ≡ []
no_units records is =
    ap (λ marks. map (unit_in (records_in records 1) (records_in records 3) (records_in records 7)) (recorded marks))
    (ap marks_in (bare_table records 4 (omega arith) is))

bare_told : (records : List (List Record)) → is_bare records ≡ true → told_ledger records ≡ no_ledger
bare_told records is =
    same_parts _ _ _ _ _ _ _ _ (ap start_in (bare_table records 0 (omega arith) is)) (no_units records is)
    (ap marks_in (bare_table records 4 (omega arith) is))
    (ap levels_in (bare_table records 5 (omega arith) is) ∙ no_levels)

told : (records : List (List Record)) → told_ledger records ≡ ledger_in records
told records =
    elim (is_bare records) as (λ b. is_bare records ≡ b → told_ledger records ≡ ledger_in records) [
      | true ↦ λ is. bare_told records is ∙ sym (ledger_bare records is)
      | false ↦ λ is. sym (ledger_told records is)
    ] refl

-- the start number, the units, the marks and the intervals that were read
pub ledger_read : (records : List (List Record)) (start : ℕ) (units : List UnitOfWork) (marks : List Mark) (levels : Levels)
    → start ≡ start_in (records_in records 0) → units ≡ units_in records → marks ≡ marks_in (records_in records 4)
    → levels ≡ levels_in (records_in records 5) → made_of start units marks levels ≡ ledger_in records
ledger_read records start units marks levels s u m l = same_parts start _ units _ marks _ levels _ s u m l ∙ told records
