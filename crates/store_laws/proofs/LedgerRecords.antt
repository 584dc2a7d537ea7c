-- The records of a lawful ledger: each is in the grammar and has its row there, and each row is one of theirs.
use Rattle.std.proofs.Common.{◌≡◌, ℕ, zero, suc, ◌+◌, ◌≤◌, ◌<◌, ◌^◌, ◌⊎◌, ⊎_elim, true, false, map, List, [], ◌∷◌, ◌++◌, length, Some, IfSome, flat_map, Contains, refl, sym, ap, subst, ◌∙◌, arith}
use Rattle.std.specs.List.{AllByRecursion, range_with_len}
use Rattle.std.specs.FinMap.{get}
use Rattle.std.proofs.lemmas.List.Elements.{All-contains, recursion_from_All, Contains-append_cases}
use Rattle.std.proofs.lemmas.Map.Keys.{IsDistinct-cons}
use Rattle.byteorder.specs.Endian.{big_bytes}
use Rattle.keeper_api.specs.declared.rows.Change.{Change}
use Rattle.keeper_api.specs.Batch.{spot_of, is_same_spot}
use Rattle.keeper_api.specs.Rows.{Spot, is_below}
use Rattle.keeper_api.specs.RowLaws.{InTables, tables_append}
use Rattle.module_effects.specs.Rows.{RowName, Tables}
use Rattle.update_records.specs.Business.{numbers_of, tables_of}
use Rattle.update_records.specs.Grammar.{IsUnit, IsUnitKey}
use Rattle.update_records.specs.Ledger.{Ledger, Levels, IsLawful, IsMarkUnder, IsRightLevel, book_rows}
use Rattle.update_records.specs.RecordRows.{Level, mark_row, meta_row, unit_rows}
use Rattle.update_records.specs.Spelling.{IsRecord, record_row, records_of}
use Rattle.update_records.specs.declared.records.Mark.{Mark}
use Rattle.update_records.specs.declared.records.Unit.{Unit as UnitOfWork}
use Rattle.update_records.specs.declared.stored.Record.{Record}
use Rattle.update_records.specs.declared.stored.Record.TheVariants as rec
use Rattle.record_laws.proofs.Apart.{tables_apart}
use Rattle.record_laws.proofs.Books.{is_mark_table, is_meta_table, is_unit_table, marks_and_meta, meta_is, unit_in, units_and_marks, units_and_meta}
use Rattle.update_records.proofs.lemmas.Distinct.{AllApart, AreDistinct, IsApart, all_append, distinct_append, none_distinct, not_same, spots, unit_distinct, units_apart}
use Rattle.update_records.proofs.lemmas.UnitRecords.{kind_fits, unit_fits, unit_is}
use Rattle.store_reading.proofs.lemmas.Elements.{all_contained, contains_cases, contains_map, contains_none, each_contained, of_flat, of_map}
use Rattle.store_laws.proofs.InOrder.{Rises, bytes_below, rises_above}
use Rattle.store_laws.proofs.KeysApart.{KeysApart, keys_of, recorded_apart}
use Rattle.table_reading.proofs.lemmas.Pages.{not_below_itself}
use Rattle.update_records.proofs.lemmas.BusinessTexts.{IsRow, business_fits}

-- ---- the records

abbrev pub mark_records : List Mark → List Record
mark_records marks = map (λ (m : Mark). rec.Mark m) marks

abbrev pub start_record : Ledger → Record
start_record ledger = rec.Meta ledger.start (length ledger.marks)

-- those of the units, of the marks, and of the start number
abbrev pub book_records : Ledger → List Record
book_records ledger = flat_map records_of ledger.units ++ mark_records ledger.marks ++ start_record ledger ∷ []

abbrev pub level_record : RowName → Level → Record
level_record name level = rec.Level name.0 name.1 level.from level.to level.level level.buffered

-- the record of a stored interval
pub record IsLevelOf (levels : Levels) (r : Record) : Type 0 where
  pub name : RowName
  pub level : Level
  pub stored : get levels name ≡ Some level
  pub is : level_record name level ≡ r

-- the record of a business row
pub record IsBusinessOf (tables : Tables) (r : Record) : Type 0 where
  pub name : RowName
  pub text : List ℕ
  pub stored : get tables name ≡ Some text
  pub is : rec.Business name.0 name.1 text ≡ r

-- the ledger has the record
abbrev pub IsToldBy : Ledger → Record → Type 0
IsToldBy ledger r = Contains (book_records ledger) r ⊎ (IsLevelOf ledger.levels r ⊎ IsBusinessOf (tables_of ledger.units ledger.marks) r)

-- ---- lists of numbers and of marks

in_range : (a n y : ℕ) → Contains (range_with_len a n) y → (a ≤ y) × (y < a + n)
in_range a zero y h = absurd (contains_none y h)
in_range a (suc n) y h = ⊎_elim
    (λ e. (omega arith, omega arith))
    (λ at. let r = in_range (a + 1) n y at in let low = r.0 in let high = r.1 in (omega arith, omega arith))
    (contains_cases a (range_with_len (a + 1) n) y h)

abbrev pub seqs : List Mark → List ℕ
seqs marks = map (λ (m : Mark). m.seq) marks

seq_within : (marks : List Mark) (n : ℕ) (m : Mark) → seqs marks ≡ range_with_len 1 n → Contains marks m → m.seq < 1 + n
seq_within marks n m is h =
    (in_range 1 n m.seq (subst (λ (ns : List ℕ). Contains ns m.seq) is (contains_map (λ (x : Mark). x.seq) marks m h))).1

abbrev pub mark_key : Mark → List ℕ
mark_key m = big_bytes 8 m.seq

pub marks_rise : (marks : List Mark) (a n : ℕ) (low : List ℕ) → seqs marks ≡ range_with_len a n → a + n ≤ 256 ^ 8
    → ((i : ℕ) → a ≤ i → i < 256 ^ 8 → is_below low (big_bytes 8 i) ≡ true)
    → Rises mark_key low marks
marks_rise [] a n low is fits above = tt
marks_rise (m ∷ marks) a zero low is fits above = cc
marks_rise (m ∷ marks) a (suc n) low is fits above =
    let first : m.seq ≡ a = cc in
    let rest : seqs marks ≡ range_with_len (a + 1) n = cc in (
      above m.seq (omega arith) (omega arith),
      marks_rise marks (a + 1) n (mark_key m) rest (omega arith)
          (λ i more high. bytes_below 8 m.seq i (omega arith) high),
    )

-- ---- the grammar

pub only : (x y : Record) → Contains (x ∷ []) y → x ≡ y
only x y h = ⊎_elim (λ e. e) (λ at. absurd (contains_none y at)) (contains_cases x [] y h)

key_fits : (start : ℕ) (m : Mark) → start < 2 ^ 32 → IsMarkUnder start m → IsUnitKey m.unit
key_fits start m low under = let last = under.last in record { start = omega arith; session = under.session; luw = under.luw }

module _ (ledger : Ledger) (law : IsLawful ledger) where
  pub unit_law : (unit : UnitOfWork) → Contains ledger.units unit → IsUnit unit
  unit_law unit h = All-contains IsUnit ledger.units unit law.units h

  unit_fit : (unit : UnitOfWork) → IsUnit unit → (r : Record) → Contains (records_of unit) r → IsRecord r
  unit_fit unit is r h =
      All-contains IsRecord (records_of unit) r (unit_fits unit is.key is.user is.few is.first is.second is.few_numbers is.numbers is.few_entries is.entries) h

  mark_fit : (m : Mark) → Contains ledger.marks m → IsRecord (rec.Mark m)
  mark_fit m h =
      let under = All-contains (IsMarkUnder ledger.start) ledger.marks m law.marks h in
      let seq = seq_within ledger.marks (length ledger.marks) m law.numbered h in
      let few = law.few in
      (omega arith, key_fits ledger.start m law.start under, kind_fits m.kind under.kind)

  book_fit : (r : Record) → Contains (book_records ledger) r → IsRecord r
  book_fit r h =
      let units = flat_map records_of ledger.units in
      let marks = mark_records ledger.marks in
      let few = law.few in
      ⊎_elim
      (λ front. ⊎_elim
      (λ at. let unit = of_flat records_of ledger.units r at in unit_fit unit.0 (unit_law unit.0 unit.1) r unit.2)
      (λ at. let m = of_map (λ (m : Mark). rec.Mark m) ledger.marks r at in subst IsRecord m.2 (mark_fit m.0 m.1))
      (Contains-append_cases units marks r front))
      (λ at. subst IsRecord (only (start_record ledger) r at) (law.start, omega arith))
      (Contains-append_cases (units ++ marks) (start_record ledger ∷ []) r h)

  level_fit : (r : Record) → IsLevelOf ledger.levels r → IsRecord r
  level_fit r at =
      let numbers = numbers_of ledger.units ledger.marks in
      let right : IsRightLevel at.name numbers at.level = subst (λ o. IfSome o (IsRightLevel at.name numbers)) at.stored (law.levels.right at.name) in
      let order = right.order in
      let within = right.within in
      let high = right.high in
      subst IsRecord at.is (right.object, right.nr, omega arith, high, omega arith)

  business_fit : (r : Record) → IsBusinessOf (tables_of ledger.units ledger.marks) r → IsRecord r
  business_fit r at =
      let row : IsRow at.name at.text = subst (λ o. IfSome o (IsRow at.name)) at.stored
      (business_fits ledger.units ledger.marks (recursion_from_All IsUnit ledger.units law.units) at.name) in
      subst IsRecord at.is (row.table, row.key, row.spelt)

  -- each record of the ledger is in the grammar
  pub told_fits : (r : Record) → IsToldBy ledger r → IsRecord r
  told_fits r told = ⊎_elim (λ at. book_fit r at) (λ maps. ⊎_elim (λ at. level_fit r at) (λ at. business_fit r at) maps) told

-- ---- rows of the books

rows_append : (xs ys : List Record) → map record_row (xs ++ ys) ≡ map record_row xs ++ map record_row ys
rows_append [] ys = refl
rows_append (x ∷ xs) ys = ap (λ (rows : List Change). record_row x ∷ rows) (rows_append xs ys)

units_rows : (units : List UnitOfWork) → map record_row (flat_map records_of units) ≡ flat_map unit_rows units
units_rows [] = refl
units_rows (u ∷ units) =
    rows_append (records_of u) (flat_map records_of units)
    ∙ ap (λ (rows : List Change). rows ++ map record_row (flat_map records_of units)) (unit_is u)
    ∙ ap (λ (rows : List Change). unit_rows u ++ rows) (units_rows units)

marks_rows : (marks : List Mark) → map record_row (mark_records marks) ≡ map mark_row marks
marks_rows [] = refl
marks_rows (m ∷ marks) = ap (λ (rows : List Change). mark_row m ∷ rows) (marks_rows marks)

pub book_is : (ledger : Ledger) → 1 ≤ ledger.start → map record_row (book_records ledger) ≡ book_rows ledger
book_is ledger begun =
    let units = flat_map records_of ledger.units in
    let marks = mark_records ledger.marks in
    let last : List Change = meta_row ledger.start (length ledger.marks) ∷ [] in
    rows_append (units ++ marks) (start_record ledger ∷ [])
    ∙ ap (λ (rows : List Change). rows ++ last) (rows_append units marks)
    ∙ ap (λ (rows : List Change). rows ++ map record_row marks ++ last) (units_rows ledger.units)
    ∙ ap (λ (rows : List Change). flat_map unit_rows ledger.units ++ rows ++ last) (marks_rows ledger.marks)
    ∙ ap (λ (rows : List Change). flat_map unit_rows ledger.units ++ map mark_row ledger.marks ++ rows) (sym (meta_is ledger.start (length ledger.marks) begun))

-- ---- no two of them stand in one place

spot_apart : (s : Spot) (ys : List Change) → ((d : Change) → Contains ys d → s ≡ spot_of d → ⊥) → IsApart s ys
spot_apart s ys h = each_contained (λ y. is_same_spot s y ≡ false) (spots ys) (λ y at.
    let d = of_map spot_of ys y at in subst (λ z. is_same_spot s z ≡ false) d.2 (not_same s (spot_of d.0) (h d.0 d.1)))

all_apart : (xs ys : List Change) → ((c d : Change) → Contains xs c → Contains ys d → spot_of c ≡ spot_of d → ⊥) → AllApart xs ys
all_apart xs ys h = each_contained (λ x. IsApart (spot_of x) ys) xs (λ c in_c. spot_apart (spot_of c) ys (λ d in_d. h c d in_c in_d))

units_distinct : (units : List UnitOfWork) → AllByRecursion IsUnit units → KeysApart (keys_of units) → AreDistinct (flat_map unit_rows units)
units_distinct [] are apart = none_distinct
units_distinct (u ∷ units) are apart =
    distinct_append (unit_rows u) (flat_map unit_rows units) (unit_distinct u are.0.few are.0.few_entries) (units_distinct units are.1 apart.1)
    (all_apart (unit_rows u) (flat_map unit_rows units) (λ c d in_c in_d same.
    let v = of_flat unit_rows units d in_d in
    let is_v : IsUnit v.0 = all_contained IsUnit units v.0 are.1 v.1 in
    units_apart u v.0 are.0.key is_v.key
    (λ keys. apart.0 (subst (λ k. Contains (keys_of units) k) (sym keys) (contains_map (λ (x : UnitOfWork). x.key) units v.0 v.1)))
    c d in_c v.2 same))

marks_distinct : (marks : List Mark) (low : List ℕ) → Rises mark_key low marks → AreDistinct (map mark_row marks)
marks_distinct [] low rise = none_distinct
marks_distinct (m ∷ marks) low rise =
    IsDistinct-cons is_same_spot (spot_of (mark_row m)) (spots (map mark_row marks))
    (spot_apart (spot_of (mark_row m)) (map mark_row marks) (λ d at same.
    let n = of_map mark_row marks d at in
    let key : mark_key m ≡ mark_key n.0 = ap (λ (s : Spot). s.1) (same ∙ ap spot_of (sym n.2)) in
    let odd : true ≡ false = sym (rises_above mark_key (mark_key m) marks n.0 rise.1 n.1) ∙ ap (is_below (mark_key m)) (sym key)
    ∙ not_below_itself (mark_key m) in cc))
    (marks_distinct marks (mark_key m) rise.1)

units_in : (units : List UnitOfWork) → InTables is_unit_table (flat_map unit_rows units)
units_in [] = tt
units_in (u ∷ units) = tables_append is_unit_table (unit_rows u) (flat_map unit_rows units) (unit_in is_unit_table refl refl refl refl u) (units_in units)

marks_in : (marks : List Mark) → InTables is_mark_table (map mark_row marks)
marks_in [] = tt
marks_in (m ∷ marks) = (refl, marks_in marks)

pub book_distinct : (ledger : Ledger) → IsLawful ledger → AreDistinct (book_rows ledger)
book_distinct ledger law =
    let units = flat_map unit_rows ledger.units in
    let marks = map mark_row ledger.marks in
    let start : List Change = meta_row ledger.start (length ledger.marks) ∷ [] in
    let few = law.few in
    let apart : KeysApart (keys_of ledger.units) = subst KeysApart (sym law.recorded) (recorded_apart ledger.units [] ledger.marks law.legal) in
    let rise : Rises mark_key [] ledger.marks = marks_rise ledger.marks 1 (length ledger.marks) [] law.numbered (omega arith) (λ i more high. refl) in
    let in_units = units_in ledger.units in
    let in_marks = marks_in ledger.marks in
    let front : AreDistinct (units ++ marks) =
    distinct_append units marks (units_distinct ledger.units (recursion_from_All IsUnit ledger.units law.units) apart) (marks_distinct ledger.marks [] rise)
    (tables_apart is_unit_table is_mark_table units_and_marks units marks in_units in_marks) in
    let last : AreDistinct start = IsDistinct-cons is_same_spot (spot_of (meta_row ledger.start (length ledger.marks))) [] tt none_distinct in
    let all : AreDistinct (units ++ marks ++ start) =
    distinct_append (units ++ marks) start front last
    (all_append (λ x. IsApart (spot_of x) start) units marks
    (tables_apart is_unit_table is_meta_table units_and_meta units start in_units (refl, tt))
    (tables_apart is_mark_table is_meta_table marks_and_meta marks start in_marks (refl, tt))) in
    subst (λ (rows : List Change). AreDistinct (units ++ marks ++ rows)) (sym (meta_is ledger.start (length ledger.marks) law.started)) all
