-- The records of a good store, table by table.
use Rattle.std.proofs.Common.{◌≡◌, ℕ, ◌+◌, ◌≤◌, ◌<◌, ◌^◌, inl, ⊎_elim, true, false, nat_eq, List, [], ◌∷◌, ◌++◌, length, flat_map, if◌then◌else◌, Contains, refl, sym, ap, subst, ◌∙◌, arith}
use Rattle.std.proofs.lemmas.List.Elements.{Contains-append_cases, Contains-append_left, Contains-append_right}
use Rattle.byteorder.specs.Endian.{big_bytes}
use Rattle.keeper_api.specs.declared.rows.Change.{Change}
use Rattle.keeper_api.specs.declared.rows.Row.{Row}
use Rattle.keeper_api.specs.Batch.{spot_of}
use Rattle.keeper_api.specs.Rows.{Rows, RiseFrom, is_below}
use Rattle.enq_base.specs.declared.owner.UnitKey.{UnitKey}
use Rattle.enq_base.specs.declared.unit.Effect.{Effect}
use Rattle.lock_entry.specs.declared.entry.Entry.{Entry}
use Rattle.update_records.specs.Business.{tables_of}
use Rattle.update_records.specs.Ledger.{Ledger, IsLawful, own, rows_of}
use Rattle.update_records.specs.RecordRows.{unit_bytes, unit_rows}
use Rattle.update_records.specs.Spelling.{header_of, locks_of, part_of, record_row, records_of, steps_of}
use Rattle.update_records.specs.declared.records.Mark.{Mark}
use Rattle.update_records.specs.declared.records.Unit.{Unit as UnitOfWork}
use Rattle.update_records.specs.declared.stored.Record.{Record}
use Rattle.update_records.specs.declared.stored.Record.TheVariants as rec
use Rattle.record_laws.proofs.Books.{is_unit_table, unit_in}
use Rattle.update_records.proofs.lemmas.UnitRecords.{unit_is}
use Rattle.table_reading.specs.Tables.{rows_in}
use Rattle.store_reading.specs.Told.{records_in, SpellAll, SpellEach}
use Rattle.store_reading.proofs.lemmas.Elements.{all_contained, contains_cases, contains_flat, contains_here, contains_map, contains_none, contains_there, of_flat, of_map}
use Rattle.store_laws.proofs.InOrder.{Rises, below_behind, bytes_below}
use Rattle.store_laws.proofs.LedgerRecords.{mark_key, mark_records, only, start_record, IsBusinessOf, IsLevelOf, IsToldBy}
use Rattle.store_laws.proofs.LedgerRows.{contained_told, told_contained}
use Rattle.store_reading.proofs.lemmas.Members.{table_of}
use Rattle.table_reading.proofs.lemmas.Pages.{rows_rise}

-- ---- records and their tables

abbrev pub table_in : Record → ℕ
table_in r = (spot_of (record_row r)).0

abbrev pub key_in : Record → List ℕ
key_in r = (spot_of (record_row r)).1

-- the records of the tables are those of the ledger, in the order of their keys
pub record AreRecordsOf (records : List (List Record)) (ledger : Ledger) : Type 0 where
  pub table : (table : ℕ) → table < 8 → (r : Record) → Contains (records_in records table) r → table_in r ≡ table
  pub told : (table : ℕ) → table < 8 → (r : Record) → Contains (records_in records table) r → IsToldBy ledger r
  pub there : (r : Record) → IsToldBy ledger r → Contains (records_in records (table_in r)) r
  pub rise : (table : ℕ) → table < 8 → Rises key_in [] (records_in records table)

records_rise : (table : ℕ) (low : List ℕ) (rows : List Row) (records : List Record) → RiseFrom low rows → SpellEach table rows records
    → Rises key_in low records
records_rise table low [] [] rise each = tt
records_rise table low [] (r ∷ records) rise each = absurd each
records_rise table low (row ∷ rows) [] rise each = absurd each
records_rise table low (row ∷ rows) (r ∷ records) rise each =
    let key : row.key ≡ key_in r = ap (λ (c : Change). (spot_of c).1) (sym each.0.spelled) in
    (subst (λ k. is_below low k ≡ true) key rise.0, subst (λ k. Rises key_in k records) key (records_rise table row.key rows records rise.1 each.1))

pub are_records : (rows : Rows) (records : List (List Record)) (ledger : Ledger) → IsLawful ledger → own rows ≡ rows_of ledger → SpellAll rows records
    → AreRecordsOf records ledger
are_records rows records ledger law exact all = record {
  table = table_of rows records all;
  told = contained_told rows ledger law exact records all;
  there = told_contained rows ledger law exact records all;
  rise = λ table low. records_rise table [] (rows_in rows table) (records_in records table) (rows_rise rows table) (all table low);
}

-- ---- which records a ledger has

pub unit_table : (unit : UnitOfWork) (r : Record) → Contains (records_of unit) r → is_unit_table (table_in r) ≡ true
unit_table unit r h =
    all_contained (λ (c : Change). is_unit_table (spot_of c).0 ≡ true) (unit_rows unit) (record_row r) (unit_in is_unit_table refl refl refl refl unit)
    (subst (λ (rows : List Change). Contains rows (record_row r)) (unit_is unit) (contains_map record_row (records_of unit) r h))

pub told_in : (ledger : Ledger) (r : Record) (R : Type 0) → IsToldBy ledger r
    → ((unit : UnitOfWork) → Contains ledger.units unit → Contains (records_of unit) r → R)
    → ((m : Mark) → Contains ledger.marks m → rec.Mark m ≡ r → R) → (start_record ledger ≡ r → R) → (IsLevelOf ledger.levels r → R)
    → (IsBusinessOf (tables_of ledger.units ledger.marks) r → R) → R
told_in ledger r R told unit mark start level business =
    let units = flat_map records_of ledger.units in
    let marks = mark_records ledger.marks in
    ⊎_elim
    (λ book. ⊎_elim
    (λ front. ⊎_elim
    (λ at. let u = of_flat records_of ledger.units r at in unit u.0 u.1 u.2)
    (λ at. let m = of_map (λ (m : Mark). rec.Mark m) ledger.marks r at in mark m.0 m.1 m.2)
    (Contains-append_cases units marks r front))
    (λ at. start (only (start_record ledger) r at))
    (Contains-append_cases (units ++ marks) (start_record ledger ∷ []) r book))
    (λ maps. ⊎_elim level business maps)
    told

pub told_unit : (ledger : Ledger) (unit : UnitOfWork) (r : Record) → Contains ledger.units unit → Contains (records_of unit) r → IsToldBy ledger r
told_unit ledger unit r in_units h =
    let units = flat_map records_of ledger.units in
    inl (Contains-append_left (units ++ mark_records ledger.marks) (start_record ledger ∷ []) r
    (Contains-append_left units (mark_records ledger.marks) r (contains_flat records_of ledger.units unit r in_units h)))

pub told_mark : (ledger : Ledger) (r : Record) → Contains (mark_records ledger.marks) r → IsToldBy ledger r
told_mark ledger r h =
    let units = flat_map records_of ledger.units in
    inl (Contains-append_left (units ++ mark_records ledger.marks) (start_record ledger ∷ []) r (Contains-append_right units (mark_records ledger.marks) r h))

pub told_start : (ledger : Ledger) → IsToldBy ledger (start_record ledger)
told_start ledger =
    inl (Contains-append_right (flat_map records_of ledger.units ++ mark_records ledger.marks) (start_record ledger ∷ []) (start_record ledger)
    (contains_here (start_record ledger) []))

no_unit_table : (n : ℕ) (R : Type 0) → is_unit_table n ≡ true → is_unit_table n ≡ false → R
no_unit_table n R is not_is = let odd : true ≡ false = sym is ∙ not_is in cc

-- a record in a table of units is one of a unit
pub of_unit : (ledger : Ledger) (r : Record) (n : ℕ) → IsToldBy ledger r → table_in r ≡ n → is_unit_table n ≡ true → (unit : UnitOfWork)
    × Contains ledger.units unit × Contains (records_of unit) r
of_unit ledger r n told table is =
    let R = (unit : UnitOfWork) × Contains ledger.units unit × Contains (records_of unit) r in
    let not_here : (x : Record) → x ≡ r → is_unit_table (table_in x) ≡ false → R =
    λ x same out. no_unit_table n R is (ap is_unit_table (sym table) ∙ ap (λ y. is_unit_table (table_in y)) (sym same) ∙ out) in
    told_in ledger r R told
    (λ unit at h. (unit, at, h))
    (λ m at same. not_here (rec.Mark m) same refl)
    (λ same. not_here (start_record ledger) same refl)
    (λ level. not_here _ level.is refl)
    (λ business. not_here _ business.is refl)

pub mark_of : (ledger : Ledger) (r : Record) → IsToldBy ledger r → table_in r ≡ 4 → Contains (mark_records ledger.marks) r
mark_of ledger r told table =
    let R = Contains (mark_records ledger.marks) r in
    let not_here : (x : Record) → x ≡ r → (table_in x ≡ 4 → ⊥) → R = λ x same out. absurd (out (ap table_in same ∙ table)) in
    told_in ledger r R told
    (λ unit at h. no_unit_table (table_in r) R (unit_table unit r h) (ap is_unit_table table))
    (λ m at same. subst (λ x. Contains (mark_records ledger.marks) x) same (contains_map (λ (m : Mark). rec.Mark m) ledger.marks m at))
    (λ same. not_here (start_record ledger) same (λ e. cc))
    (λ level. not_here _ level.is (λ e. cc))
    (λ business. not_here _ business.is (λ e. cc))

pub start_of : (ledger : Ledger) (r : Record) → IsToldBy ledger r → table_in r ≡ 0 → start_record ledger ≡ r
start_of ledger r told table =
    let R = start_record ledger ≡ r in
    let not_here : (x : Record) → x ≡ r → (table_in x ≡ 0 → ⊥) → R = λ x same out. absurd (out (ap table_in same ∙ table)) in
    told_in ledger r R told
    (λ unit at h. no_unit_table (table_in r) R (unit_table unit r h) (ap is_unit_table table))
    (λ m at same. not_here (rec.Mark m) same (λ e. cc))
    (λ same. same)
    (λ level. not_here _ level.is (λ e. cc))
    (λ business. not_here _ business.is (λ e. cc))

pub level_of : (ledger : Ledger) (r : Record) → IsToldBy ledger r → table_in r ≡ 5 → IsLevelOf ledger.levels r
level_of ledger r told table =
    let R = IsLevelOf ledger.levels r in
    let not_here : (x : Record) → x ≡ r → (table_in x ≡ 5 → ⊥) → R = λ x same out. absurd (out (ap table_in same ∙ table)) in
    told_in ledger r R told
    (λ unit at h. no_unit_table (table_in r) R (unit_table unit r h) (ap is_unit_table table))
    (λ m at same. not_here (rec.Mark m) same (λ e. cc))
    (λ same. not_here (start_record ledger) same (λ e. cc))
    (λ level. level)
    (λ business. not_here _ business.is (λ e. cc))

-- ---- the records of a unit

-- the effects of a part
abbrev pub side : ℕ → UnitOfWork → List Effect
side part unit = if nat_eq part 1 then unit.parts.v1 else unit.parts.v2

part_cases : (key : UnitKey) (part : ℕ) (effects : List Effect) (r : Record) (R : Type 0) → Contains (part_of key part effects) r
    → (1 ≤ length effects → rec.Module key part (length effects) ≡ r → R) → (Contains (steps_of key part 1 effects) r → R) → R
part_cases key part [] r R h module_is steps = absurd (contains_none r h)
part_cases key part (e ∷ effects) r R h module_is steps =
    ⊎_elim (λ same. module_is (omega arith) same) steps (contains_cases (rec.Module key part (length (e ∷ effects))) (steps_of key part 1 (e ∷ effects)) r h)

pub unit_cases : (unit : UnitOfWork) (r : Record) (R : Type 0) → Contains (records_of unit) r → (header_of unit ≡ r → R)
    → ((part : ℕ) → 1 ≤ length (side part unit) → rec.Module unit.key part (length (side part unit)) ≡ r → R)
    → ((part : ℕ) → Contains (steps_of unit.key part 1 (side part unit)) r → R) → (Contains (locks_of unit.key 1 unit.entries) r → R) → R
unit_cases unit r R h header module_is steps locks =
    let first = part_of unit.key 1 unit.parts.v1 in
    let second = part_of unit.key 2 unit.parts.v2 in
    ⊎_elim header
    (λ rest. ⊎_elim
    (λ parts. ⊎_elim
    (λ at. part_cases unit.key 1 unit.parts.v1 r R at (λ some is. module_is 1 some is) (λ step. steps 1 step))
    (λ at. part_cases unit.key 2 unit.parts.v2 r R at (λ some is. module_is 2 some is) (λ step. steps 2 step))
    (Contains-append_cases first second r parts))
    locks
    (Contains-append_cases (first ++ second) (locks_of unit.key 1 unit.entries) r rest))
    (contains_cases (header_of unit) (first ++ second ++ locks_of unit.key 1 unit.entries) r h)

module _ (unit : UnitOfWork) where
  pub header_in : Contains (records_of unit) (header_of unit)
  header_in = contains_here (header_of unit) _

  -- the records of a part, where it is one of the unit's
  abbrev pub HasPart : ℕ → Type 0
  HasPart part = (r : Record) → Contains (part_of unit.key part (side part unit)) r → Contains (records_of unit) r

  pub first_in : HasPart 1
  first_in r h =
      let first = part_of unit.key 1 unit.parts.v1 in
      let second = part_of unit.key 2 unit.parts.v2 in
      let locks = locks_of unit.key 1 unit.entries in
      contains_there (header_of unit) (first ++ second ++ locks) r (Contains-append_left (first ++ second) locks r (Contains-append_left first second r h))

  pub second_in : HasPart 2
  second_in r h =
      let first = part_of unit.key 1 unit.parts.v1 in
      let second = part_of unit.key 2 unit.parts.v2 in
      let locks = locks_of unit.key 1 unit.entries in
      contains_there (header_of unit) (first ++ second ++ locks) r (Contains-append_left (first ++ second) locks r (Contains-append_right first second r h))

  pub locks_in : (r : Record) → Contains (locks_of unit.key 1 unit.entries) r → Contains (records_of unit) r
  locks_in r h =
      let first = part_of unit.key 1 unit.parts.v1 in
      let second = part_of unit.key 2 unit.parts.v2 in
      let locks = locks_of unit.key 1 unit.entries in
      contains_there (header_of unit) (first ++ second ++ locks) r (Contains-append_right (first ++ second) locks r h)

pub step_part : (key : UnitKey) (part : ℕ) (effects : List Effect) (r : Record) → Contains (steps_of key part 1 effects) r
    → Contains (part_of key part effects) r
step_part key part [] r h = absurd (contains_none r h)
step_part key part (e ∷ effects) r h = contains_there (rec.Module key part (length (e ∷ effects))) (steps_of key part 1 (e ∷ effects)) r h

-- a record that is the row of an effect
pub record IsStep (key : UnitKey) (part index n : ℕ) (r : Record) : Type 0 where
  pub at : ℕ
  pub effect : Effect
  pub is : rec.Step key part at effect ≡ r
  pub low : index ≤ at
  pub high : at < index + n

pub step_is : (key : UnitKey) (part index : ℕ) (effects : List Effect) (r : Record) → Contains (steps_of key part index effects) r
    → IsStep key part index (length effects) r
step_is key part index [] r h = absurd (contains_none r h)
step_is key part index (e ∷ effects) r h = ⊎_elim
    (λ same. record { at = index; effect = e; is = same; low = omega arith; high = omega arith })
    (λ there.
    let rest = step_is key part (index + 1) effects r there in
    let low = rest.low in
    let high = rest.high in
    record { at = rest.at; effect = rest.effect; is = rest.is; low = omega arith; high = omega arith })
    (contains_cases (rec.Step key part index e) (steps_of key part (index + 1) effects) r h)

-- a record that is the row of a lock
pub record IsLock (key : UnitKey) (index : ℕ) (entries : List Entry) (r : Record) : Type 0 where
  pub at : ℕ
  pub entry : Entry
  pub is : rec.Lock key at entry.table entry.mode entry.count entry.pattern ≡ r
  pub low : index ≤ at
  pub high : at < index + length entries

pub lock_is : (key : UnitKey) (index : ℕ) (entries : List Entry) (r : Record) → Contains (locks_of key index entries) r → IsLock key index entries r
lock_is key index [] r h = absurd (contains_none r h)
lock_is key index (e ∷ entries) r h = ⊎_elim
    (λ same. record { at = index; entry = e; is = same; low = omega arith; high = omega arith })
    (λ there.
    let rest = lock_is key (index + 1) entries r there in
    let low = rest.low in
    let high = rest.high in
    record { at = rest.at; entry = rest.entry; is = rest.is; low = omega arith; high = omega arith })
    (contains_cases (rec.Lock key index e.table e.mode e.count e.pattern) (locks_of key (index + 1) entries) r h)

-- ---- their order

pub steps_rise : (key : UnitKey) (part index : ℕ) (effects : List Effect) (low : List ℕ) → index + length effects ≤ 256 ^ 2
    → ((i : ℕ) → index ≤ i → i < 256 ^ 2 → is_below low (unit_bytes key ++ part ∷ big_bytes 2 i) ≡ true) → Rises key_in low (steps_of key part index effects)
steps_rise key part index [] low fits above = tt
steps_rise key part index (e ∷ effects) low fits above = (
  above index (omega arith) (omega arith),
  steps_rise key part (index + 1) effects (unit_bytes key ++ part ∷ big_bytes 2 index) (omega arith)
      (λ i more high. below_behind (unit_bytes key) (part ∷ big_bytes 2 index) (part ∷ big_bytes 2 i)
      (below_behind (part ∷ []) (big_bytes 2 index) (big_bytes 2 i) (bytes_below 2 index i (omega arith) high))),
)

pub locks_rise : (key : UnitKey) (index : ℕ) (entries : List Entry) (low : List ℕ) → index + length entries ≤ 256 ^ 4
    → ((i : ℕ) → index ≤ i → i < 256 ^ 4 → is_below low (unit_bytes key ++ big_bytes 4 i) ≡ true) → Rises key_in low (locks_of key index entries)
locks_rise key index [] low fits above = tt
locks_rise key index (e ∷ entries) low fits above = (
  above index (omega arith) (omega arith),
  locks_rise key (index + 1) entries (unit_bytes key ++ big_bytes 4 index) (omega arith)
      (λ i more high. below_behind (unit_bytes key) (big_bytes 4 index) (big_bytes 4 i) (bytes_below 4 index i (omega arith) high)),
)

pub records_of_marks_rise : (marks : List Mark) (low : List ℕ) → Rises mark_key low marks → Rises key_in low (mark_records marks)
records_of_marks_rise [] low rise = tt
records_of_marks_rise (m ∷ marks) low rise = (rise.0, records_of_marks_rise marks (mark_key m) rise.1)
