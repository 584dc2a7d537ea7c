-- Business records without a difference are the rows of the business tables.
use Rattle.std.proofs.Common.{◌≡◌, ℕ, ◌+◌, true, false, cond, List, [], ◌∷◌, Option, Some, None, Contains, refl, sym, ap, ◌∙◌, arith}
use Rattle.std.specs.Option.{option_map}
use Rattle.std.specs.Str.{bytes_eq}
use Rattle.std.specs.FinMap.{empty, get, get-empty}
use Rattle.keeper_api.specs.declared.rows.Row.{Row}
use Rattle.keeper_api.specs.Rows.{Spot, spot_cmp, Rows}
use Rattle.lock_entry.proofs.lemmas.Naming.{bytes_eq-same}
use Rattle.module_effects.specs.Rows.{RowName, Tables}
use Rattle.update_records.specs.Ledger.{has_bytes, own, with_map}
use Rattle.update_records.specs.RecordRows.{row_name}
use Rattle.update_records.specs.Spelling.{Spells}
use Rattle.update_records.specs.declared.stored.Record.{Record}
use Rattle.update_records.specs.declared.stored.Record.TheVariants as rec
use Rattle.record_laws.proofs.Keyed.{get_map, is_named, unname, unname_name}
use Rattle.record_laws.proofs.Own.{get_own}
use Rattle.store_reading.specs.Posts.{difference_from, is_business, rows_for}
use Rattle.table_reading.specs.Tables.{rows_in}
use Rattle.store_reading.specs.Told.{records_in, SpellAll, SpellEach}
use Rattle.store_reading.proofs.lemmas.Legal.{first_true, second_true}
use Rattle.store_reading.proofs.lemmas.Members.{get_in_table, record_stands, value_of}
use Rattle.store_reading.proofs.lemmas.Shelved.{AgreesMap, IsMapped, named_here, named_spot, or_else}

-- ---- the rows that stand for business tables

or_none : (o : Option (List ℕ)) → or_else (option_map (λ (text : List ℕ). text) o) None ≡ o
or_none None = refl
or_none (Some text) = refl

pub get_alone : (tables : Tables) (q : Spot) → get (with_map 6 (λ (text : List ℕ). text) tables empty) q ≡ cond (is_named 6 q) (get tables (unname q.1)) None
get_alone tables q =
    get_map 6 (λ (text : List ℕ). text) tables empty q
    ∙ ap (λ x. cond (is_named 6 q) (or_else (option_map (λ (text : List ℕ). text) (get tables (unname q.1))) x) x) (get-empty spot_cmp q)
    ∙ ap (λ x. cond (is_named 6 q) x None) (or_none (get tables (unname q.1)))

-- each text of the tables has its row
pub rows_for_has : (tables : Tables) (name : RowName) (text : List ℕ) → get tables name ≡ Some text → value_of (row_name name) (rows_for tables) ≡ Some text
rows_for_has tables name text has =
    sym (get_in_table (with_map 6 (λ (t : List ℕ). t) tables empty) 6 (row_name name) refl)
    ∙ get_alone tables (6, row_name name)
    ∙ ap (λ b. cond b (get tables (unname (row_name name))) None) (named_here 6 name)
    ∙ ap (get tables) (unname_name name)
    ∙ has

-- and there is no other row
pub rows_for_only : (tables : Tables) (key text : List ℕ) → has_bytes key ≡ true → value_of key (rows_for tables) ≡ Some text → IsMapped 6 tables (6, key)
rows_for_only tables key text bytes h =
    elim (is_named 6 (6, key)) as (λ b. is_named 6 (6, key) ≡ b → cond b (get tables (unname key)) None ≡ Some text → IsMapped 6 tables (6, key)) [
      | true ↦ λ is at. (unname key, text, at, named_spot 6 (6, key) is)
      | false ↦ λ is at. cc
    ] refl (sym (get_alone tables (6, key)) ∙ get_in_table (with_map 6 (λ (t : List ℕ). t) tables empty) 6 key bytes ∙ h)

-- ---- no difference

same_business : (row other : Row) (table key text : List ℕ) → is_business row (rec.Business table key text) ≡ true
    → Spells 6 other.key other.value (rec.Business table key text) → row ≡ other
same_business row other table key text h spells =
    let spelled = spells.spelled in
    let key_is : row_name (table, key) ≡ other.key = cc in
    let value_is : text ≡ other.value = cc in
    let here : row.key ≡ row_name (table, key) = bytes_eq-same row.key (row_name (table, key)) (first_true (bytes_eq row.key (row_name (table, key))) _ h) in
    let told : row.value ≡ text = bytes_eq-same row.value text (second_true (bytes_eq row.key (row_name (table, key))) _ h) in
    let keys = here ∙ key_is in
    let values = told ∙ value_is in
    λ i. record { key = keys i; value = values i }

same_row : (row other : Row) (r : Record) → is_business row r ≡ true → Spells 6 other.key other.value r → row ≡ other
same_row row other (rec.Business table key text) h spells = same_business row other table key text h spells
same_row row other (rec.Meta s n) h spells = let odd : false ≡ true = h in cc
same_row row other (rec.Header u user v1 v2 locks numbers) h spells = let odd : false ≡ true = h in cc
same_row row other (rec.Module u part count) h spells = let odd : false ≡ true = h in cc
same_row row other (rec.Step u part index effect) h spells = let odd : false ≡ true = h in cc
same_row row other (rec.Mark m) h spells = let odd : false ≡ true = h in cc
same_row row other (rec.Level object nr from to level buffered) h spells = let odd : false ≡ true = h in cc
same_row row other (rec.Lock u index table mode count pattern) h spells = let odd : false ≡ true = h in cc

same_rows : (n : ℕ) (xs ys : List Row) (records : List Record) → difference_from n xs records ≡ None → SpellEach 6 ys records → xs ≡ ys
same_rows n [] [] [] h each = refl
same_rows n (x ∷ xs) [] [] h each = cc
same_rows n xs [] (r ∷ records) h each = absurd each
same_rows n xs (y ∷ ys) [] h each = absurd each
same_rows n [] (y ∷ ys) (r ∷ records) h each = cc
same_rows n (x ∷ xs) (y ∷ ys) (r ∷ records) h each =
    elim (is_business x r)
    as (λ b. is_business x r ≡ b → cond b (difference_from (n + 1) xs records) (Some (record { table = 6; row = n })) ≡ None → x ∷ xs ≡ y ∷ ys) [
      | true ↦ λ is at.
          let first = same_row x y r is each.0 in
          let rest = same_rows (n + 1) xs ys records at each.1 in
          λ i. first i ∷ rest i
      | false ↦ λ is at. cc
    ] refl h

-- where business records don't differ from tables, their rows are those of the tables
pub business_rows : (rows : Rows) (records : List (List Record)) (tables : Tables) → SpellAll rows records
    → difference_from 1 (rows_for tables) (records_in records 6) ≡ None → rows_for tables ≡ rows_in rows 6
business_rows rows records tables all none = same_rows 1 (rows_for tables) (rows_in rows 6) (records_in records 6) none (all 6 (omega arith))

-- ---- what stands

pub tables_agree : (rows : Rows) (records : List (List Record)) (tables : Tables) → SpellAll rows records
    → difference_from 1 (rows_for tables) (records_in records 6) ≡ None
    → AgreesMap (own rows) 6 (λ (text : List ℕ). text) tables
tables_agree rows records tables all none name text has =
    get_own rows (6, row_name name)
    ∙ get_in_table rows 6 (row_name name) refl
    ∙ ap (value_of (row_name name)) (sym (business_rows rows records tables all none))
    ∙ rows_for_has tables name text has

-- each business row is one of the tables
pub business_mapped : (rows : Rows) (records : List (List Record)) (tables : Tables) → SpellAll rows records
    → difference_from 1 (rows_for tables) (records_in records 6) ≡ None
    → (table key text : List ℕ) → Contains (records_in records 6) (rec.Business table key text) → IsMapped 6 tables (6, row_name (table, key))
business_mapped rows records tables all none table key text h =
    let name : RowName = (table, key) in
    let stands : get (own rows) (6, row_name name) ≡ Some text = record_stands rows records all 6 (omega arith) (rec.Business table key text) h in
    rows_for_only tables (row_name name) text refl (
    ap (value_of (row_name name)) (business_rows rows records tables all none)
    ∙ sym (get_own rows (6, row_name name) ∙ get_in_table rows 6 (row_name name) refl)
    ∙ stands)
