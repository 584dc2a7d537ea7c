-- The business rows of a good store are those that its marks make.
use Rattle.std.proofs.Common.{◌≡◌, ℕ, ◌+◌, true, false, cond, List, [], ◌∷◌, Some, None, Contains, if◌then◌else◌, refl, sym, ap, subst, ◌∙◌}
use Rattle.std.specs.Str.{bytes_eq}
use Rattle.std.specs.FinMap.{empty, get}
use Rattle.std.proofs.lemmas.Bool.{and_from}
use Rattle.keeper_api.specs.declared.rows.Change.{Change}
use Rattle.keeper_api.specs.declared.rows.Row.{Row}
use Rattle.keeper_api.specs.Batch.{spot_of}
use Rattle.keeper_api.specs.Rows.{Rows, RiseFrom}
use Rattle.keeper_api.specs.RowLaws.{value_in}
use Rattle.lock_entry.proofs.lemmas.Naming.{bytes_eq-refl, bytes_eq-same}
use Rattle.update_records.specs.Business.{tables_of}
use Rattle.update_records.specs.Ledger.{Ledger, book_rows, has_bytes, map_rows, own, rows_of, with_map}
use Rattle.update_records.specs.RecordRows.{level_value, row_name}
use Rattle.update_records.specs.Spelling.{Spells, record_row}
use Rattle.update_records.specs.declared.stored.Record.{Record}
use Rattle.update_records.specs.declared.stored.Record.TheVariants as rec
use Rattle.record_laws.proofs.Books.{books_in, is_book_table}
use Rattle.record_laws.proofs.Keyed.{get_map}
use Rattle.record_laws.proofs.Own.{get_own}
use Rattle.store_reading.specs.Posts.{difference_from, is_business, rows_for}
use Rattle.table_reading.specs.Tables.{rows_in}
use Rattle.store_reading.specs.Told.{SpellEach}
use Rattle.store_reading.proofs.lemmas.Elements.{contains_here, contains_there}
use Rattle.store_laws.proofs.InOrder.{one_list, Rises}
use Rattle.store_laws.proofs.LedgerRows.{past, some_bytes, value_here}
use Rattle.store_reading.proofs.lemmas.Members.{get_in_table, value_of}
use Rattle.table_reading.proofs.lemmas.Pages.{rows_rise}

-- ---- rows in the order of their keys

rows_rises : (low : List ℕ) (rows : List Row) → RiseFrom low rows → Rises (λ (row : Row). row.key) low rows
rows_rises low [] rise = tt
rows_rises low (row ∷ rows) rise = (rise.0, rows_rises row.key rows rise.1)

row_there : (rows : List Row) (key value : List ℕ) → value_of key rows ≡ Some value → Contains rows (record { key = key; value = value })
row_there [] key value h = cc
row_there (x ∷ rows) key value h =
    let row : Row = record { key = key; value = value } in
    elim (bytes_eq key x.key) as (λ b. bytes_eq key x.key ≡ b → cond b (Some x.value) (value_of key rows) ≡ Some value → Contains (x ∷ rows) row) [
      | true ↦ λ is at.
          let key_is : x.key ≡ key = sym (bytes_eq-same key x.key is) in
          let value_is : x.value ≡ value = cc in
          let same : x ≡ row = λ i. record { key = key_is i; value = value_is i } in
          subst (λ (y : Row). Contains (x ∷ rows) y) same (contains_here x rows)
      | false ↦ λ is at. contains_there x rows row (row_there rows key value at)
    ] refl h

half : (xs ys : List Row) → RiseFrom [] xs → ((key : List ℕ) → has_bytes key ≡ true → value_of key xs ≡ value_of key ys) → (row : Row) → Contains xs row
    → Contains ys row
half xs ys rise same row h =
    let at = value_here [] xs row rise h in
    row_there ys row.key row.value (sym (same row.key (some_bytes row.key at.1)) ∙ at.0)

-- rows in the order of their keys that tell the same of each key are the same
one_rows : (xs ys : List Row) → RiseFrom [] xs → RiseFrom [] ys → ((key : List ℕ) → has_bytes key ≡ true → value_of key xs ≡ value_of key ys) → xs ≡ ys
one_rows xs ys rise_x rise_y same =
    one_list (λ (row : Row). row.key) [] [] xs ys (rows_rises [] xs rise_x) (rows_rises [] ys rise_y) (half xs ys rise_x same)
    (half ys xs rise_y (λ key some. sym (same key some)))

-- ---- business rows

-- the rows for a ledger's tables are those of table 6
pub business_rows_are : (rows : Rows) (ledger : Ledger) → own rows ≡ rows_of ledger → rows_for (tables_of ledger.units ledger.marks) ≡ rows_in rows 6
business_rows_are rows ledger exact =
    let tables = tables_of ledger.units ledger.marks in
    let alone = with_map 6 (λ (text : List ℕ). text) tables empty in
    one_rows (rows_in alone 6) (rows_in rows 6) (rows_rise alone 6) (rows_rise rows 6) (λ key some.
    sym (get_in_table alone 6 key some)
    ∙ sym (get_map 5 level_value ledger.levels alone (6, key))
    ∙ sym (past is_book_table (book_rows ledger) (map_rows ledger.levels tables) (6, key) (books_in is_book_table refl refl refl refl refl refl ledger) refl)
    ∙ ap (λ (rs : Rows). get rs (6, key)) (sym exact)
    ∙ get_own rows (6, key)
    ∙ ap (λ b. cond b (get rows (6, key)) None) some
    ∙ get_in_table rows 6 key some)

table_six : (key value : List ℕ) (r : Record) → Spells 6 key value r → (spot_of (record_row r)).0 ≡ 6
table_six key value r spells = ap (λ (c : Change). (spot_of c).0) spells.spelled

business_is : (row : Row) (r : Record) → Spells 6 row.key row.value r → is_business row r ≡ true
business_is row (rec.Business table key text) spells =
    let key_is : row_name (table, key) ≡ row.key = ap (λ (c : Change). (spot_of c).1) spells.spelled in
    let values : Some text ≡ Some row.value = ap value_in spells.spelled in
    let value_is : text ≡ row.value = cc in
    and_from (bytes_eq row.key (row_name (table, key))) (bytes_eq row.value text)
    (subst (λ k. bytes_eq row.key k ≡ true) (sym key_is) (bytes_eq-refl row.key))
    (subst (λ v. bytes_eq row.value v ≡ true) (sym value_is) (bytes_eq-refl row.value))
business_is row (rec.Meta s n) spells = let odd = table_six row.key row.value (rec.Meta s n) spells in cc
business_is row (rec.Header u user v1 v2 locks numbers) spells = let odd = table_six row.key row.value (rec.Header u user v1 v2 locks numbers) spells in cc
business_is row (rec.Module u part count) spells = let odd = table_six row.key row.value (rec.Module u part count) spells in cc
business_is row (rec.Step u part index effect) spells = let odd = table_six row.key row.value (rec.Step u part index effect) spells in cc
business_is row (rec.Mark m) spells = let odd = table_six row.key row.value (rec.Mark m) spells in cc
business_is row (rec.Level object nr from to level buffered) spells = let odd =
    table_six row.key row.value (rec.Level object nr from to level buffered) spells in cc
business_is row (rec.Lock u index table mode count pattern) spells = let odd = table_six row.key row.value (rec.Lock u index table mode count pattern) spells in
    cc

-- records that rows of table 6 spell don't differ from them
pub no_difference : (n : ℕ) (rows : List Row) (records : List Record) → SpellEach 6 rows records → difference_from n rows records ≡ None
no_difference n [] [] each = refl
no_difference n [] (r ∷ records) each = absurd each
no_difference n (row ∷ rows) [] each = absurd each
no_difference n (row ∷ rows) (r ∷ records) each =
    ap (λ b. if b then difference_from (n + 1) rows records else Some (record { table = 6; row = n })) (business_is row r each.0)
    ∙ no_difference (n + 1) rows records each.1
