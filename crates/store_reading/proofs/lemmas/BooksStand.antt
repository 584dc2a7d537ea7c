-- The rows of the units, of the marks and of the start number are those of the records of their tables.
use Rattle.std.proofs.Common.{◌≡◌, ℕ, ◌+◌, ◌<◌, ⊎_elim, Bool, true, false, cond, ◌&&◌, ◌||◌, nat_eq, nat_le, map, List, [], ◌∷◌, ◌++◌, length, filter, flat_map}
use Rattle.std.proofs.Common.{Contains, refl, sym, ap, subst, ◌∙◌, arith}
use Rattle.std.specs.List.{AllByRecursion}
use Rattle.std.proofs.lemmas.Bool.{eqb-true, leb-true, or_left, or_right}
use Rattle.std.proofs.lemmas.List.Elements.{Contains-append_cases, Contains-append_left, Contains-append_right}
use Rattle.keeper_api.specs.declared.rows.Change.{Change}
use Rattle.keeper_api.specs.Batch.{spot_of}
use Rattle.keeper_api.specs.Rows.{Rows}
use Rattle.enq_base.specs.Owners.{same_unit}
use Rattle.enq_base.specs.declared.owner.Owner.TheVariants.{Upd}
use Rattle.enq_base.specs.declared.owner.UnitKey.{UnitKey}
use Rattle.lock_entry.proofs.lemmas.Naming.{same_owner-refl}
use Rattle.update_records.specs.Ledger.{Ledger, book_rows, meta_rows, own, recorded}
use Rattle.update_records.specs.Marks.{is_rec}
use Rattle.update_records.specs.RecordRows.{mark_row, meta_row, unit_rows}
use Rattle.update_records.specs.Spelling.{record_row, records_of}
use Rattle.update_records.specs.declared.records.Mark.{Mark}
use Rattle.update_records.specs.declared.records.Unit.{Unit as UnitOfWork}
use Rattle.update_records.specs.declared.stored.Record.{Record}
use Rattle.update_records.specs.declared.stored.Record.TheVariants as rec
use Rattle.record_laws.proofs.Books.{meta_is}
use Rattle.update_records.proofs.lemmas.UnitRecords.{unit_is}
use Rattle.store_reading.specs.First.{AreRight}
use Rattle.store_reading.specs.Rules.{has_meta, has_number, is_meta, marks_in}
use Rattle.store_reading.specs.Stores.{levels_in, start_in, unit_in, units_in}
use Rattle.store_reading.specs.Told.{records_in, SpellAll}
use Rattle.store_reading.specs.Units.{is_recorded}
use Rattle.store_reading.proofs.lemmas.Elements.{contains_cases, contains_flat, contains_here, contains_map, contains_none, contains_there, each_contained, of_flat, of_map}
use Rattle.store_reading.proofs.lemmas.Followings.{HaveEffects}
use Rattle.store_reading.proofs.lemmas.Legal.{all_marks, first_true, second_true}
use Rattle.store_reading.proofs.lemmas.Members.{record_stands}
use Rattle.store_reading.proofs.lemmas.Shelved.{Agrees}
use Rattle.record_laws.proofs.Status.{one_unit}

-- ---- the start number

meta_changes : (start marks n : ℕ) → is_meta n (rec.Meta start marks) ≡ true → meta_rows start n ≡ meta_row start marks ∷ []
meta_changes start marks n h =
    let low = leb-true 1 start (first_true (nat_le 1 start) _ h) in
    let same : marks ≡ n = eqb-true marks n (first_true (nat_eq marks n) _ (second_true (nat_le 1 start) _ h)) in
    meta_is start n low ∙ ap (λ k. meta_row start k ∷ []) (sym same)

pub meta_told : (meta : List Record) (n : ℕ) → has_meta meta n ≡ true → meta_rows (start_in meta) n ≡ map record_row meta
meta_told [] n h = let odd : false ≡ true = h in cc
meta_told (r ∷ s ∷ meta) n h = let odd : false ≡ true = h in cc
meta_told (rec.Meta start marks ∷ []) n h = meta_changes start marks n h
meta_told (rec.Header u user v1 v2 locks numbers ∷ []) n h = let odd : false ≡ true = h in cc
meta_told (rec.Module u part count ∷ []) n h = let odd : false ≡ true = h in cc
meta_told (rec.Step u part index effect ∷ []) n h = let odd : false ≡ true = h in cc
meta_told (rec.Mark m ∷ []) n h = let odd : false ≡ true = h in cc
meta_told (rec.Level object nr from to level buffered ∷ []) n h = let odd : false ≡ true = h in cc
meta_told (rec.Business table key text ∷ []) n h = let odd : false ≡ true = h in cc
meta_told (rec.Lock u index table mode count pattern ∷ []) n h = let odd : false ≡ true = h in cc

-- ---- the marks

pub marks_told : (before marks : List Record) → AreRight (λ before. has_number (length before + 1)) before marks
    → map mark_row (marks_in marks) ≡ map record_row marks
marks_told before [] h = refl
marks_told before (rec.Mark m ∷ marks) h = ap (λ (rows : List Change). mark_row m ∷ rows) (marks_told (before ++ rec.Mark m ∷ []) marks h.1)
marks_told before (rec.Meta s n ∷ marks) h = let odd : false ≡ true = h.0 in cc
marks_told before (rec.Header u user v1 v2 locks numbers ∷ marks) h = let odd : false ≡ true = h.0 in cc
marks_told before (rec.Module u part count ∷ marks) h = let odd : false ≡ true = h.0 in cc
marks_told before (rec.Step u part index effect ∷ marks) h = let odd : false ≡ true = h.0 in cc
marks_told before (rec.Level object nr from to level buffered ∷ marks) h = let odd : false ≡ true = h.0 in cc
marks_told before (rec.Business table key text ∷ marks) h = let odd : false ≡ true = h.0 in cc
marks_told before (rec.Lock u index table mode count pattern ∷ marks) h = let odd : false ≡ true = h.0 in cc

-- ---- the recorded units

same_unit_itself : (a b : UnitKey) → a ≡ b → same_unit a b ≡ true
same_unit_itself a b e = subst (λ c. same_unit a c ≡ true) e (same_owner-refl (Upd a))

abbrev pub keys_after : Bool → UnitKey → List UnitKey → List UnitKey
keys_after b key keys = cond b (key ∷ keys) keys

pub first_recorded : (m : Mark) (marks : List Mark) → recorded (m ∷ marks) ≡ keys_after (is_rec m.kind) m.unit (recorded marks)
first_recorded m marks =
    elim (is_rec m.kind)
    as (λ b. map (λ (x : Mark). x.unit) (cond b (m ∷ filter (λ (x : Mark). is_rec x.kind) marks) (filter (λ (x : Mark). is_rec x.kind) marks)) ≡ keys_after
    b m.unit (recorded marks)) [
      | true ↦ refl
      | false ↦ refl
    ]

one_recorded : (b : Bool) (unit key : UnitKey) (keys : List UnitKey) (rest : Bool) → (Contains keys key → rest ≡ true) → Contains (keys_after b unit keys) key
    → ((b && same_unit unit key) || rest) ≡ true
one_recorded true unit key keys rest h at =
    ⊎_elim (λ e. or_left (same_unit unit key) rest (same_unit_itself unit key e)) (λ there. or_right (same_unit unit key) rest (h there))
    (contains_cases unit keys key at)
one_recorded false unit key keys rest h at = h at

-- a unit whose recording the marks tell is a recorded one
pub key_recorded : (marks : List Record) (key : UnitKey) → Contains (recorded (marks_in marks)) key → is_recorded marks key ≡ true
key_recorded [] key h = absurd (contains_none key h)
key_recorded (rec.Mark m ∷ marks) key h =
    one_recorded (is_rec m.kind) m.unit key (recorded (marks_in marks)) (is_recorded marks key) (key_recorded marks key)
    (subst (λ keys. Contains keys key) (first_recorded m (marks_in marks)) h)
key_recorded (rec.Meta s n ∷ marks) key h = key_recorded marks key h
key_recorded (rec.Header u user v1 v2 locks numbers ∷ marks) key h = key_recorded marks key h
key_recorded (rec.Module u part count ∷ marks) key h = key_recorded marks key h
key_recorded (rec.Step u part index effect ∷ marks) key h = key_recorded marks key h
key_recorded (rec.Level object nr from to level buffered ∷ marks) key h = key_recorded marks key h
key_recorded (rec.Business table k text ∷ marks) key h = key_recorded marks key h
key_recorded (rec.Lock u index table mode count pattern ∷ marks) key h = key_recorded marks key h

one_among : (b : Bool) (unit key : UnitKey) (keys : List UnitKey) (rest : Bool) → (rest ≡ true → Contains keys key) → ((b && same_unit unit key) || rest) ≡ true
    → Contains (keys_after b unit keys) key
one_among false unit key keys rest h is = h is
one_among true unit key keys rest h is =
    elim (same_unit unit key) as (λ same. same_unit unit key ≡ same → (same || rest) ≡ true → Contains (unit ∷ keys) key) [
      | true ↦ λ e one. subst (λ k. Contains (unit ∷ keys) k) (one_unit unit key e) (contains_here unit keys)
      | false ↦ λ e one. contains_there unit keys key (h one)
    ] refl is

pub recorded_key : (marks : List Record) (key : UnitKey) → is_recorded marks key ≡ true → Contains (recorded (marks_in marks)) key
recorded_key [] key h = let odd : false ≡ true = h in cc
recorded_key (rec.Mark m ∷ marks) key h =
    subst (λ keys. Contains keys key) (sym (first_recorded m (marks_in marks)))
    (one_among (is_rec m.kind) m.unit key (recorded (marks_in marks)) (is_recorded marks key) (recorded_key marks key) h)
recorded_key (rec.Meta s n ∷ marks) key h = recorded_key marks key h
recorded_key (rec.Header u user v1 v2 locks numbers ∷ marks) key h = recorded_key marks key h
recorded_key (rec.Module u part count ∷ marks) key h = recorded_key marks key h
recorded_key (rec.Step u part index effect ∷ marks) key h = recorded_key marks key h
recorded_key (rec.Level object nr from to level buffered ∷ marks) key h = recorded_key marks key h
recorded_key (rec.Business table k text ∷ marks) key h = recorded_key marks key h
recorded_key (rec.Lock u index table mode count pattern ∷ marks) key h = recorded_key marks key h

-- ---- the units and their records

-- the unit that the records of a store spell for a key
abbrev pub unit_for : List (List Record) → UnitKey → UnitOfWork
unit_for records key = unit_in (records_in records 1) (records_in records 3) (records_in records 7) key

-- a recorded unit that has the record
abbrev pub HasUnit : List (List Record) → Record → Type 0
HasUnit records r = (key : UnitKey) × (is_recorded (records_in records 4) key ≡ true) × Contains (records_of (unit_for records key)) r

-- the records of the recorded units are those of tables 1, 2, 3 and 7, and their effects are those that table 3 tells
pub record AreUnits (records : List (List Record)) : Type 0 where
  pub stand : (key : UnitKey) → is_recorded (records_in records 4) key ≡ true → (r : Record) → Contains (records_of (unit_for records key)) r
      → Contains (records_in records (spot_of (record_row r)).0) r
  pub headers : (r : Record) → Contains (records_in records 1) r → HasUnit records r
  pub modules : (r : Record) → Contains (records_in records 2) r → HasUnit records r
  pub steps : (r : Record) → Contains (records_in records 3) r → HasUnit records r
  pub locks : (r : Record) → Contains (records_in records 7) r → HasUnit records r
  pub effects : HaveEffects (records_in records 3) (units_in records)

-- the ledger of a store with rows
abbrev pub told_ledger : List (List Record) → Ledger
told_ledger records = record {
  start = start_in (records_in records 0);
  units = units_in records;
  marks = marks_in (records_in records 4);
  levels = levels_in (records_in records 5);
}

-- the rows of the units, and those of the records of tables 4 and 0
abbrev pub told_rows : List (List Record) → List Change
told_rows records = flat_map unit_rows (units_in records) ++ map record_row (records_in records 4) ++ map record_row (records_in records 0)

pub books_told : (records : List (List Record)) → has_meta (records_in records 0) (length (records_in records 4)) ≡ true
    → AreRight (λ before. has_number (length before + 1)) [] (records_in records 4) → book_rows (told_ledger records) ≡ told_rows records
books_told records meta numbered =
    let marks = records_in records 4 in
    let units = flat_map unit_rows (units_in records) in
    let start = start_in (records_in records 0) in
    ap (λ (rows : List Change). units ++ rows ++ meta_rows start (length (marks_in marks))) (marks_told [] marks numbered)
    ∙ ap (λ n. units ++ map record_row marks ++ meta_rows start n) (all_marks [] marks numbered)
    ∙ ap (λ (rows : List Change). units ++ map record_row marks ++ rows) (meta_told (records_in records 0) (length marks) meta)

table_below : (r : Record) → (spot_of (record_row r)).0 < 8
table_below (rec.Meta s n) = omega arith
table_below (rec.Header u user v1 v2 locks numbers) = omega arith
table_below (rec.Module u part count) = omega arith
table_below (rec.Step u part index effect) = omega arith
table_below (rec.Mark m) = omega arith
table_below (rec.Level object nr from to level buffered) = omega arith
table_below (rec.Business table k text) = omega arith
table_below (rec.Lock u index table mode count pattern) = omega arith

row_agrees : (rows : Rows) (records : List (List Record)) → SpellAll rows records → (table : ℕ) → table < 8 → (c : Change)
    → Contains (map record_row (records_in records table)) c → Agrees (own rows) c
row_agrees rows records all table low c h =
    let at = of_map record_row (records_in records table) c h in
    subst (Agrees (own rows)) at.2 (record_stands rows records all table low at.0 at.1)

-- the unit of a change, and its record
unit_agrees : (rows : Rows) (records : List (List Record)) → SpellAll rows records → AreUnits records → (c : Change)
    → Contains (flat_map unit_rows (units_in records)) c → Agrees (own rows) c
unit_agrees rows records all units c h =
    let keys = recorded (marks_in (records_in records 4)) in
    let unit = of_flat unit_rows (units_in records) c h in
    let key = of_map (unit_for records) keys unit.0 unit.1 in
    let row : Contains (unit_rows (unit_for records key.0)) c = subst (λ u. Contains (unit_rows u) c) (sym key.2) unit.2 in
    let at = of_map record_row (records_of (unit_for records key.0)) c
    (subst (λ (rows : List Change). Contains rows c) (sym (unit_is (unit_for records key.0))) row) in
    let stands = units.stand key.0 (key_recorded (records_in records 4) key.0 key.1) at.0 at.1 in
    subst (Agrees (own rows)) at.2 (record_stands rows records all (spot_of (record_row at.0)).0 (table_below at.0) at.0 stands)

-- the rows have each row of the books
pub books_agree : (rows : Rows) (records : List (List Record)) → SpellAll rows records → AreUnits records
    → AllByRecursion (Agrees (own rows)) (told_rows records)
books_agree rows records all units = each_contained (Agrees (own rows)) (told_rows records) (λ c h.
    let book = flat_map unit_rows (units_in records) in
    let marks = map record_row (records_in records 4) in
    ⊎_elim (λ front.
    ⊎_elim (λ at. unit_agrees rows records all units c at) (λ at. row_agrees rows records all 4 (omega arith) c at) (Contains-append_cases book marks c front))
    (λ at. row_agrees rows records all 0 (omega arith) c at)
    (Contains-append_cases (book ++ marks) (map record_row (records_in records 0)) c h))

-- ---- each record of the books has its row there

pub meta_booked : (records : List (List Record)) (r : Record) → Contains (records_in records 0) r → Contains (told_rows records) (record_row r)
meta_booked records r h =
    Contains-append_right (flat_map unit_rows (units_in records) ++ map record_row (records_in records 4)) (map record_row (records_in records 0))
    (record_row r) (contains_map record_row (records_in records 0) r h)

pub mark_booked : (records : List (List Record)) (r : Record) → Contains (records_in records 4) r → Contains (told_rows records) (record_row r)
mark_booked records r h =
    let book = flat_map unit_rows (units_in records) in
    let marks = map record_row (records_in records 4) in
    Contains-append_left (book ++ marks) (map record_row (records_in records 0)) (record_row r)
    (Contains-append_right book marks (record_row r) (contains_map record_row (records_in records 4) r h))

pub unit_booked : (records : List (List Record)) (r : Record) → HasUnit records r → Contains (told_rows records) (record_row r)
unit_booked records r at =
    let book = flat_map unit_rows (units_in records) in
    let marks = map record_row (records_in records 4) in
    let keys = recorded (marks_in (records_in records 4)) in
    let unit = contains_map (unit_for records) keys at.0 (recorded_key (records_in records 4) at.0 at.1) in
    let row : Contains (unit_rows (unit_for records at.0)) (record_row r) =
    subst (λ (rows : List Change). Contains rows (record_row r)) (unit_is (unit_for records at.0))
    (contains_map record_row (records_of (unit_for records at.0)) r at.2) in
    Contains-append_left (book ++ marks) (map record_row (records_in records 0)) (record_row r)
    (Contains-append_left book marks (record_row r) (contains_flat unit_rows (units_in records) (unit_for records at.0) (record_row r) unit row))
