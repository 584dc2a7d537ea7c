-- The business rows that the records of a good store tell are those that its marks make.
use Rattle.std.proofs.Common.{◌≡◌, ℕ, ◌+◌, true, false, cond, if◌then◌else◌, List, [], ◌∷◌, Some, None, Result, Ok, Err, IfOk, refl, sym, ap, ◌∙◌, arith}
use Rattle.std.specs.Str.{bytes_eq}
use Rattle.std.specs.FinMap.{empty, get, get-empty, get-insert, same_map}
use Rattle.std.proofs.lemmas.Bool.Decides.{same_from_decides, Decides-like}
use Rattle.std.proofs.lemmas.Slice.Eq.{bytes_eq-Decides}
use Rattle.keeper_api.specs.declared.rows.Row.{Row}
use Rattle.lock_entry.proofs.lemmas.Naming.{bytes_eq-same}
use Rattle.module_effects.specs.Rows.{RowName, Tables, row_cmp}
use Rattle.module_effects.proofs.lemmas.Tables.{exact_rows, rows_total, same_row, same_row-Decides}
use Rattle.update_records.specs.Business.{tables_of}
use Rattle.update_records.specs.Ledger.{Ledger, with_map}
use Rattle.update_records.specs.RecordRows.{row_name}
use Rattle.update_records.specs.declared.stored.Record.{Record}
use Rattle.update_records.specs.declared.stored.Record.TheVariants as rec
use Rattle.record_laws.proofs.Keyed.{unname, unname_name}
use Rattle.store_reading.specs.Business.{business_in}
use Rattle.store_reading.specs.Good.{ledger_of}
use Rattle.store_reading.specs.Posts.{difference_from, is_business, rows_for, tables_by}
use Rattle.store_reading.specs.Stores.{is_bare, ledger_in, rule_fault, store_fault, units_in}
use Rattle.store_reading.specs.Told.{records_in, AreRead}
use Rattle.store_reading.specs.declared.fault.ReadingFault.{ReadingFault}
use Rattle.store_reading.specs.declared.ledger.StoredLedger.{StoredLedger}
use Rattle.store_reading.proofs.Bare.{bare_table}
use Rattle.store_reading.proofs.Exact.{kept_rules, ledger_bare, ledger_told}
use Rattle.store_reading.proofs.Sound.{units_right}
use Rattle.store_reading.proofs.TablesStand.{get_alone}
use Rattle.store_reading.proofs.lemmas.Followings.{tables_follow}
use Rattle.store_reading.proofs.lemmas.Legal.{first_true, second_true}
use Rattle.store_reading.proofs.lemmas.Members.{get_in_table, value_of}
use Rattle.store_reading.proofs.lemmas.Shelved.{named_here}

-- ---- a row by its name and by its key

at_name : (name other : RowName) → same_row name other ≡ bytes_eq (row_name name) (row_name other)
at_name name other =
    same_from_decides _ _ (same_row-Decides name other)
    (Decides-like (bytes_eq (row_name name) (row_name other)) (λ e. sym (unname_name name) ∙ ap unname e ∙ unname_name other) (ap row_name)
    (bytes_eq-Decides (row_name name) (row_name other)))

-- the row that stands for a text of the tables has it
value_for : (tables : Tables) (name : RowName) → value_of (row_name name) (rows_for tables) ≡ get tables name
value_for tables name =
    sym (get_in_table (with_map 6 (λ (t : List ℕ). t) tables empty) 6 (row_name name) refl)
    ∙ get_alone tables (6, row_name name)
    ∙ ap (λ b. cond b (get tables (unname (row_name name))) None) (named_here 6 name)
    ∙ ap (get tables) (unname_name name)

-- ---- records without a difference

abbrev Told : RowName → List Row → List Record → Type 0
Told name rows records = get (business_in records) name ≡ value_of (row_name name) rows

one_told : (name : RowName) (row : Row) (rows : List Row) (table key text : List ℕ) (records : List Record)
    → is_business row (rec.Business table key text) ≡ true → Told name rows records → Told name (row ∷ rows) (rec.Business table key text ∷ records)
one_told name row rows table key text records is rest =
    let key_is : row.key ≡ row_name (table, key) = bytes_eq-same row.key (row_name (table, key)) (first_true (bytes_eq row.key (row_name (table, key))) _ is) in
    let text_is : row.value ≡ text = bytes_eq-same row.value text (second_true (bytes_eq row.key (row_name (table, key))) _ is) in
    get-insert rows_total (business_in records) (table, key) text name
    ∙ ap (λ b. cond b (Some text) (get (business_in records) name)) (at_name name (table, key))
    ∙ ap (cond (bytes_eq (row_name name) (row_name (table, key))) (Some text)) rest
    ∙ sym (ap (λ k. cond (bytes_eq (row_name name) k) (Some row.value) (value_of (row_name name) rows)) key_is
    ∙ ap (λ t. cond (bytes_eq (row_name name) (row_name (table, key))) (Some t) (value_of (row_name name) rows)) text_is)

more_told : (name : RowName) (row : Row) (rows : List Row) (r : Record) (records : List Record) → is_business row r ≡ true → Told name rows records
    → Told name (row ∷ rows) (r ∷ records)
more_told name row rows (rec.Business table key text) records is rest = one_told name row rows table key text records is rest
more_told name row rows (rec.Meta s n) records is rest = let odd : false ≡ true = is in cc
more_told name row rows (rec.Header u user v1 v2 locks numbers) records is rest = let odd : false ≡ true = is in cc
more_told name row rows (rec.Module u part count) records is rest = let odd : false ≡ true = is in cc
more_told name row rows (rec.Step u part index effect) records is rest = let odd : false ≡ true = is in cc
more_told name row rows (rec.Mark m) records is rest = let odd : false ≡ true = is in cc
more_told name row rows (rec.Level object nr from to level buffered) records is rest = let odd : false ≡ true = is in cc
more_told name row rows (rec.Lock u index table mode count pattern) records is rest = let odd : false ≡ true = is in cc

all_told : (name : RowName) (n : ℕ) (rows : List Row) (records : List Record) → difference_from n rows records ≡ None → Told name rows records
all_told name n [] [] h = get-empty row_cmp name
all_told name n [] (r ∷ records) h = cc
all_told name n (row ∷ rows) [] h = cc
all_told name n (row ∷ rows) (r ∷ records) h =
    elim (is_business row r)
    as (λ b. is_business row r ≡ b → cond b (difference_from (n + 1) rows records) (Some (record { table = 6; row = n })) ≡ None
    → Told name (row ∷ rows) (r ∷ records)) [
      | true ↦ λ is at. more_told name row rows r records is (all_told name (n + 1) rows records at)
      | false ↦ λ is at. cc
    ] refl h

pub business_is : (tables : Tables) (records : List Record) → difference_from 1 (rows_for tables) records ≡ None → business_in records ≡ tables
business_is tables records none =
    same_map rows_total exact_rows (business_in records) tables (λ name. all_told name 1 (rows_for tables) records none ∙ value_for tables name)

-- ---- a store that breaks no rule

abbrev business : Ledger → Tables
business ledger = tables_of ledger.units ledger.marks

rows_right : (records : List (List Record)) → AreRead records → store_fault records ≡ None
    → business_in (records_in records 6) ≡ business (ledger_in records)
rows_right records read none =
    elim (is_bare records)
    as (λ b. is_bare records ≡ b → (if b then None else rule_fault records) ≡ None → business_in (records_in records 6) ≡ business (ledger_in records)) [
      | true ↦ λ is kept. ap business_in (bare_table records 6 (omega arith) is) ∙ ap business (sym (ledger_bare records is))
      | false ↦ λ is kept.
          business_is (tables_by (records_in records 3) (records_in records 4)) (records_in records 6) (kept_rules records kept).business
          ∙ tables_follow (records_in records 3) (units_in records) (units_right records read kept).effects (records_in records 4)
          ∙ ap business (sym (ledger_told records is))
    ] refl none

abbrev Read : Type 0
Read = Result StoredLedger ReadingFault

pub read_rows : (records : List (List Record)) (r : Read) → AreRead records
    → IfOk r (λ stored. (store_fault records ≡ None) × (ledger_of stored ≡ ledger_in records))
    → IfOk r (λ stored. stored.rows.tables ≡ business_in (records_in records 6))
    → IfOk r (λ stored. stored.rows.tables ≡ tables_of stored.units.items stored.marks.items)
read_rows records (Err fault) read right kept = tt
read_rows records (Ok stored) read right kept = kept ∙ rows_right records read right.0 ∙ ap business (sym right.1)
