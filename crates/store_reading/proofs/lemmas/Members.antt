-- A record stands in its table exactly where its row stands in the store.
use Rattle.std.proofs.Common.{◌≡◌, ℕ, ◌<◌, ⊎_elim, Bool, true, false, cond, nat_eq, nat_lt, map, List, [], ◌∷◌, Option, Some, None, filter, Contains, refl, sym, ap, subst, ◌∙◌}
use Rattle.std.proofs.lemmas.Bool.{and_from, eqb-true, eq-eqb, lt-ltb, ltb-true}
use Rattle.std.specs.Ordering.{eq_by_cmp}
use Rattle.std.specs.Str.{bytes_eq}
use Rattle.std.specs.FinMap.{entries, find, get, get-entries}
use Rattle.keeper_api.specs.declared.rows.Row.{Row}
use Rattle.keeper_api.specs.Batch.{spot_of}
use Rattle.keeper_api.specs.Rows.{Spot, spot_cmp, Rows, is_behind, is_below, row_of, RiseFrom}
use Rattle.keeper_api.specs.RowLaws.{same_spot, value_in}
use Rattle.lock_entry.proofs.lemmas.Naming.{bytes_eq-refl, bytes_eq-same}
use Rattle.update_records.specs.Ledger.{has_bytes, is_own, own}
use Rattle.update_records.specs.Spelling.{record_row, IsRecord, Spells}
use Rattle.update_records.specs.declared.stored.Record.{Record}
use Rattle.record_laws.proofs.Own.{get_own}
use Rattle.record_laws.proofs.Keyed.{spot-Decides}
use Rattle.table_reading.specs.Tables.{rows_in}
use Rattle.store_reading.specs.Told.{records_in, AreRead, SpellAll, SpellEach}
use Rattle.store_reading.proofs.lemmas.Elements.{contains_cases, contains_here, contains_none, contains_there}
use Rattle.store_reading.proofs.lemmas.Legal.{first_true, second_true}
use Rattle.table_reading.proofs.lemmas.Pages.{rows_rise, not_below_itself, below_trans}

-- ---- the value of a key among the rows of a table

-- the value of the first row with this key
abbrev pub value_of : List ℕ → List Row → Option (List ℕ)
value_of key [] = None
value_of key (row ∷ rows) = cond (bytes_eq key row.key) (Some row.value) (value_of key rows)

abbrev Entries : Type 0
Entries = List (Spot × List ℕ)

abbrev rows_behind : ℕ → Entries → List Row
rows_behind table es = map row_of (filter (is_behind table []) es)

has_some : (key : List ℕ) → has_bytes key ≡ true → is_below [] key ≡ true
has_some [] h = cc
has_some (b ∷ bs) h = refl

some_has : (key : List ℕ) → is_below [] key ≡ true → has_bytes key ≡ true
some_has [] h = cc
some_has (b ∷ bs) h = refl

same_bytes : (a b : List ℕ) → a ≡ b → bytes_eq a b ≡ true
same_bytes a b e = subst (λ c. bytes_eq a c ≡ true) e (bytes_eq-refl a)

pub no_true : (b : Bool) → (b ≡ true → ⊥) → b ≡ false
no_true true h = absurd (h refl)
no_true false h = refl

one_skipped : (b : Bool) (key : List ℕ) (row : Row) (rows : List Row) → (b ≡ true → bytes_eq key row.key ≡ false)
    → value_of key rows ≡ value_of key (cond b (row ∷ rows) rows)
one_skipped true key row rows h = sym (ap (λ c. cond c (Some row.value) (value_of key rows)) (h refl))
one_skipped false key row rows h = refl

find_behind : (table : ℕ) (key : List ℕ) (es : Entries) → has_bytes key ≡ true → find spot_cmp (table, key) es ≡ value_of key (rows_behind table es)
find_behind table key [] h = refl
find_behind table key (e ∷ es) h =
    elim (eq_by_cmp spot_cmp (table, key) e.0) as (λ b. eq_by_cmp spot_cmp (table, key) e.0 ≡ b
    → cond b (Some e.1) (find spot_cmp (table, key) es) ≡ value_of key
    (map row_of (cond (is_behind table [] e) (e ∷ filter (is_behind table []) es) (filter (is_behind table []) es)))) [
      | true ↦ λ is.
          let same : (table, key) ≡ e.0 = same_spot (table, key) e.0 is in
          let at : nat_eq e.0.0 table ≡ true = eq-eqb e.0.0 table (ap (λ (s : Spot). s.0) (sym same)) in
          let spelt : key ≡ e.0.1 = ap (λ (s : Spot). s.1) same in
          let in_table : is_behind table [] e ≡ true = and_from (nat_eq e.0.0 table) (is_below [] e.0.1) at
          (has_some e.0.1 (subst (λ k. has_bytes k ≡ true) spelt h)) in
          sym (ap (λ b. value_of key (map row_of (cond b (e ∷ filter (is_behind table []) es) (filter (is_behind table []) es)))) in_table
          ∙ ap (λ b. cond b (Some e.1) (value_of key (rows_behind table es))) (same_bytes key e.0.1 spelt))
      | false ↦ λ is.
          find_behind table key es h
          ∙ elim (is_behind table [] e)
          as (λ b. is_behind table [] e ≡ b → value_of key (rows_behind table es) ≡ value_of key
          (map row_of (cond b (e ∷ filter (is_behind table []) es) (filter (is_behind table []) es)))) [
            | true ↦ λ inside.
                let other : bytes_eq key e.0.1 ≡ false = no_true (bytes_eq key e.0.1) (λ same.
                let table_is : e.0.0 ≡ table = eqb-true e.0.0 table (first_true (nat_eq e.0.0 table) _ inside) in
                let key_is : key ≡ e.0.1 = bytes_eq-same key e.0.1 same in
                let spot_is : (table, key) ≡ e.0 = λ i. (sym table_is i, key_is i) in
                let odd : true ≡ false = sym ((spot-Decides (table, key) e.0).1 spot_is) ∙ is in cc) in
                sym (ap (λ b. cond b (Some e.1) (value_of key (rows_behind table es))) other)
            | false ↦ λ inside. refl
          ] refl
    ] refl

-- what stands at a key of a table is what the rows of the table tell
pub get_in_table : (rows : Rows) (table : ℕ) (key : List ℕ) → has_bytes key ≡ true → get rows (table, key) ≡ value_of key (rows_in rows table)
get_in_table rows table key h = get-entries rows (table, key) ∙ find_behind table key (entries rows) h

-- ---- rows that spell records

-- the row of a record, among the rows of its table
pub record Stands (table : ℕ) (rows : List Row) (r : Record) : Type 0 where
  pub key : List ℕ
  pub value : List ℕ
  pub spells : Spells table key value r
  pub found : value_of key rows ≡ Some value

-- of rising keys, each is above the one that they rise from
above_first : (low : List ℕ) (rows : List Row) (key value : List ℕ) → RiseFrom low rows → value_of key rows ≡ Some value → is_below low key ≡ true
above_first low [] key value rise h = cc
above_first low (row ∷ rows) key value rise h =
    elim (bytes_eq key row.key) as (λ b. bytes_eq key row.key ≡ b → cond b (Some row.value) (value_of key rows) ≡ Some value → is_below low key ≡ true) [
      | true ↦ λ is at. subst (λ k. is_below low k ≡ true) (sym (bytes_eq-same key row.key is)) rise.0
      | false ↦ λ is at. below_trans low row.key key rise.0 (above_first row.key rows key value rise.1 at)
    ] refl h

pub stands_among : (table : ℕ) (low : List ℕ) (rows : List Row) (records : List Record) (r : Record) → RiseFrom low rows → SpellEach table rows records
    → Contains records r → Stands table rows r
stands_among table low [] [] r rise each h = absurd (contains_none r h)
stands_among table low [] (x ∷ records) r rise each h = absurd each
stands_among table low (row ∷ rows) [] r rise each h = absurd each
stands_among table low (row ∷ rows) (x ∷ records) r rise each h = ⊎_elim
    (λ same. record {
      key = row.key;
      value = row.value;
      spells = subst (Spells table row.key row.value) same each.0;
      found = ap (λ b. cond b (Some row.value) (value_of row.key rows)) (bytes_eq-refl row.key);
    })
    (λ there.
    let s = stands_among table row.key rows records r rise.1 each.1 there in
    let other : bytes_eq s.key row.key ≡ false = no_true (bytes_eq s.key row.key) (λ same.
    let above : is_below row.key s.key ≡ true = above_first row.key rows s.key s.value rise.1 s.found in
    let itself : is_below row.key row.key ≡ true = subst (λ k. is_below row.key k ≡ true) (bytes_eq-same s.key row.key same) above in
    let odd : true ≡ false = sym itself ∙ not_below_itself row.key in cc) in
    record {
      key = s.key;
      value = s.value;
      spells = s.spells;
      found = ap (λ b. cond b (Some row.value) (value_of s.key rows)) other ∙ s.found;
    })
    (contains_cases x records r h)

pub among_rows : (table : ℕ) (rows : List Row) (records : List Record) (key value : List ℕ) → SpellEach table rows records → value_of key rows ≡ Some value
    → (r : Record) × Contains records r × Spells table key value r
among_rows table [] [] key value each h = cc
among_rows table [] (x ∷ records) key value each h = absurd each
among_rows table (row ∷ rows) [] key value each h = absurd each
among_rows table (row ∷ rows) (x ∷ records) key value each h =
    elim (bytes_eq key row.key)
    as (λ b. bytes_eq key row.key ≡ b → cond b (Some row.value) (value_of key rows) ≡ Some value → (r : Record) × Contains (x ∷ records) r
    × Spells table key value r) [
      | true ↦ λ is at.
          let same : row.key ≡ key = sym (bytes_eq-same key row.key is) in
          let told : row.value ≡ value = cc in
          (x, contains_here x records, subst (λ k. Spells table k value x) same (subst (λ v. Spells table row.key v x) told each.0))
      | false ↦ λ is at.
          let s = among_rows table rows records key value each.1 at in
          (s.0, contains_there x records s.0 s.1, s.2)
    ] refl h

-- ---- records of a store

pub are_read : (rows : Rows) (records : List (List Record)) → SpellAll rows records → AreRead records
are_read rows records all table low = (rows_in rows table, rows_rise rows table, all table low)

-- the row of a record
pub stands_in : (rows : Rows) (records : List (List Record)) → SpellAll rows records → (table : ℕ) → table < 8 → (r : Record)
    → Contains (records_in records table) r → Stands table (rows_in rows table) r
stands_in rows records all table low r h = stands_among table [] (rows_in rows table) (records_in records table) r (rows_rise rows table) (all table low) h

pub grammar_of : (rows : Rows) (records : List (List Record)) → SpellAll rows records → (table : ℕ) → table < 8 → (r : Record)
    → Contains (records_in records table) r → IsRecord r
grammar_of rows records all table low r h = (stands_in rows records all table low r h).spells.grammar

-- a record stands in the table of its row
pub table_of : (rows : Rows) (records : List (List Record)) → SpellAll rows records → (table : ℕ) → table < 8 → (r : Record)
    → Contains (records_in records table) r → (spot_of (record_row r)).0 ≡ table
table_of rows records all table low r h = ap (λ c. (spot_of c).0) (stands_in rows records all table low r h).spells.spelled

-- the row of a record stands
pub record_stands : (rows : Rows) (records : List (List Record)) → SpellAll rows records → (table : ℕ) → table < 8 → (r : Record)
    → Contains (records_in records table) r
    → get (own rows) (spot_of (record_row r)) ≡ value_in (record_row r)
record_stands rows records all table low r h =
    let s = stands_in rows records all table low r h in
    let bytes : has_bytes s.key ≡ true = some_has s.key (above_first [] (rows_in rows table) s.key s.value (rows_rise rows table) s.found) in
    let inside : is_own (table, s.key) ≡ true = and_from (nat_lt table 8) (has_bytes s.key) (lt-ltb table 8 low) bytes in
    ap (λ c. get (own rows) (spot_of c)) s.spells.spelled
    ∙ get_own rows (table, s.key)
    ∙ ap (λ b. cond b (get rows (table, s.key)) None) inside
    ∙ get_in_table rows table s.key bytes
    ∙ s.found
    ∙ ap value_in (sym s.spells.spelled)

-- a record whose row stands
pub record IsTold (records : List (List Record)) (spot : Spot) (value : List ℕ) : Type 0 where
  pub low : spot.0 < 8
  pub one : Record
  pub there : Contains (records_in records spot.0) one
  pub spells : Spells spot.0 spot.1 value one

-- each row of the store is that of a record
pub row_is_told : (rows : Rows) (records : List (List Record)) → SpellAll rows records → (spot : Spot) (value : List ℕ) → get (own rows) spot ≡ Some value
    → IsTold records spot value
row_is_told rows records all spot value h =
    elim (is_own spot) as (λ b. is_own spot ≡ b → cond b (get rows spot) None ≡ Some value → IsTold records spot value) [
      | true ↦ λ is at.
          let low : spot.0 < 8 = ltb-true spot.0 8 (first_true (nat_lt spot.0 8) _ is) in
          let bytes : has_bytes spot.1 ≡ true = second_true (nat_lt spot.0 8) _ is in
          let s = among_rows spot.0 (rows_in rows spot.0) (records_in records spot.0) spot.1 value (all spot.0 low)
          (sym (get_in_table rows spot.0 spot.1 bytes) ∙ at) in
          record { low = low; one = s.0; there = s.1; spells = s.2 }
      | false ↦ λ is at. cc
    ] refl (sym (get_own rows spot) ∙ h)
