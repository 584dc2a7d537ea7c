-- Rows stand for one ledger at most.
use Rattle.std.proofs.Common.{◌≡◌, ℕ, inl, inr, ⊎_elim, List, [], map, length, Option, Some, None, Contains, refl, sym, ap, subst, ◌∙◌}
use Rattle.std.specs.FinMap.{get, same_map}
use Rattle.std.specs.List.{range_with_len}
use Rattle.keeper_api.specs.Batch.{spot_of}
use Rattle.keeper_api.specs.Rows.{Rows}
use Rattle.keeper_api.specs.declared.rows.Change.{Change}
use Rattle.keeper_api.specs.declared.rows.Change.TheVariants.{Put, Del}
use Rattle.keeper_api.specs.RowLaws.{value_in}
use Rattle.module_effects.proofs.lemmas.Tables.{exact_rows, rows_total}
use Rattle.module_effects.specs.Rows.{RowName}
use Rattle.update_records.specs.Ledger.{Ledger, IsLawful, StandFor, no_ledger, own, recorded, rows_of}
use Rattle.update_records.specs.RecordRows.{Level}
use Rattle.update_records.specs.Spelling.{Spells, record_row, records_of}
use Rattle.update_records.specs.declared.records.Mark.{Mark}
use Rattle.update_records.specs.declared.records.Unit.{Unit as UnitOfWork}
use Rattle.update_records.specs.declared.stored.Record.{Record}
use Rattle.update_records.specs.declared.stored.Record.TheVariants as rec
use Rattle.update_records.proofs.lemmas.TableLaws.{one_record}
use Rattle.store_reading.proofs.lemmas.Elements.{contains_map, of_map}
use Rattle.store_laws.proofs.GoodTables.{level_of, mark_of, of_unit, start_of, table_in, told_mark, told_start, told_unit, unit_table}
use Rattle.store_laws.proofs.KeysApart.{KeysApart, keys_of, one_unit_of, recorded_apart}
use Rattle.store_laws.proofs.LedgerRecords.{level_record, start_record, told_fits, unit_law, IsToldBy}
use Rattle.store_laws.proofs.LedgerRows.{none_held, row_of_ledger, told_row, value_there}
use Rattle.ledger_laws.proofs.Lists.{same_named, same_numbered}
use Rattle.ledger_laws.proofs.UnitsAlike.{of_key, unit_alike}

-- a change that leaves a value puts it into its place
own_row : (c : Change) (v : List ℕ) → value_in c ≡ Some v → c ≡ Put (spot_of c).0 (spot_of c).1 v
own_row (Put table key value) v h = let same : value ≡ v = cc in ap (λ (w : List ℕ). Put table key w) same
own_row (Del table key) v h = cc

-- what one ledger of the rows tells another tells too
told_too : (rows : Rows) (a b : Ledger) → IsLawful a → IsLawful b → own rows ≡ rows_of a → own rows ≡ rows_of b → (r : Record) → IsToldBy a r → IsToldBy b r
told_too rows a b law_a law_b exact_a exact_b r told =
    let q = spot_of (record_row r) in
    let v = value_there r in
    let here : get (own rows) q ≡ Some v.0 = ap (λ (rs : Rows). get rs q) exact_a ∙ told_row a law_a r told ∙ v.1 in
    let at = row_of_ledger rows b law_b exact_b q v.0 here in
    let spelled : Spells q.0 q.1 v.0 r = record { grammar = told_fits a law_a r told; spelled = own_row (record_row r) v.0 v.1 } in
    subst (IsToldBy b) (one_record q.0 q.1 v.0 at.0 r at.2 spelled) at.1

-- ---- two lawful ledgers, where the second tells what the first tells

module _ (a b : Ledger) (law_a : IsLawful a) (law_b : IsLawful b) (told : (r : Record) → IsToldBy a r → IsToldBy b r) where
  starts : start_record b ≡ start_record a
  starts = start_of b (start_record a) (told (start_record a) (told_start a)) refl

  same_start : a.start ≡ b.start
  same_start = let is = starts in cc

  same_length : length b.marks ≡ length a.marks
  same_length = let is = starts in cc

  mark_too : (m : Mark) → Contains a.marks m → Contains b.marks m
  mark_too m h =
      let r = rec.Mark m in
      let at = of_map (λ (x : Mark). rec.Mark x) b.marks r (mark_of b r (told r (told_mark a r (contains_map (λ (x : Mark). rec.Mark x) a.marks m h))) refl) in
      let is = at.2 in
      let same : at.0 ≡ m = cc in
      subst (λ (x : Mark). Contains b.marks x) same at.1

  same_marks : a.marks ≡ b.marks
  same_marks = same_numbered (λ (m : Mark). m.seq) a.marks b.marks 1 (length a.marks)
      law_a.numbered (law_b.numbered ∙ ap (range_with_len 1) same_length) mark_too

  level_too : (name : RowName) (level : Level) → get a.levels name ≡ Some level → get b.levels name ≡ Some level
  level_too name level stored =
      let r = level_record name level in
      let at = level_of b r (told r (inr (inl (record { name = name; level = level; stored = stored; is = refl })))) refl in
      let is = at.is in
      let objects : at.name.0 ≡ name.0 = cc in
      let digits : at.name.1 ≡ name.1 = cc in
      let names : at.name ≡ name = λ i. (objects i, digits i) in
      let froms : at.level.from ≡ level.from = cc in
      let tos : at.level.to ≡ level.to = cc in
      let highs : at.level.level ≡ level.level = cc in
      let buffers : at.level.buffered ≡ level.buffered = cc in
      let levels : at.level ≡ level = λ i. record { from = froms i; to = tos i; level = highs i; buffered = buffers i } in
      ap (λ (n : RowName). get b.levels n) (sym names) ∙ at.stored ∙ ap (λ (l : Level). Some l) levels

  same_keys : map (λ (unit : UnitOfWork). unit.key) a.units ≡ map (λ (unit : UnitOfWork). unit.key) b.units
  same_keys = law_a.recorded ∙ ap (λ (marks : List Mark). recorded marks) same_marks ∙ sym law_b.recorded

  unit_too : (u v : UnitOfWork) → Contains a.units u → Contains b.units v → u.key ≡ v.key → u ≡ v
  unit_too u v in_a in_b key =
      let apart : KeysApart (keys_of b.units) = subst KeysApart (sym law_b.recorded) (recorded_apart b.units [] b.marks law_b.legal) in
      unit_alike u v (unit_law a law_a u in_a) (unit_law b law_b v in_b) key (λ r h.
      let at = of_unit b r (table_in r) (told r (told_unit a u r in_a h)) refl (unit_table u r h) in
      let one : at.0 ≡ v = one_unit_of b.units at.0 v apart at.1 in_b (sym (of_key at.0 r at.2) ∙ of_key u r h ∙ key) in
      subst (λ (w : UnitOfWork). Contains (records_of w) r) one at.2)

  same_units : a.units ≡ b.units
  same_units = same_named (λ (unit : UnitOfWork). unit.key) a.units b.units same_keys unit_too

-- ---- one lawful ledger

-- two values that may be missing are one, where each is there as soon as the other is
alike : {X : Type 0} (o p : Option X) → ((x : X) → o ≡ Some x → p ≡ Some x) → ((x : X) → p ≡ Some x → o ≡ Some x) → o ≡ p
alike None None there back = refl
alike None (Some y) there back = back y refl
alike (Some x) p there back = sym (there x refl)

module _ (rows : Rows) (a b : Ledger) (law_a : IsLawful a) (law_b : IsLawful b) (exact_a : own rows ≡ rows_of a) (exact_b : own rows ≡ rows_of b) where
  there : (r : Record) → IsToldBy a r → IsToldBy b r
  there = told_too rows a b law_a law_b exact_a exact_b

  back : (r : Record) → IsToldBy b r → IsToldBy a r
  back = told_too rows b a law_b law_a exact_b exact_a

  same_levels : a.levels ≡ b.levels
  same_levels = same_map rows_total exact_rows a.levels b.levels (λ name.
      alike (get a.levels name) (get b.levels name) (level_too a b law_a law_b there name) (level_too b a law_b law_a back name))

  one_lawful : a ≡ b
  one_lawful = λ i. record {
    start = same_start a b law_a law_b there i;
    units = same_units a b law_a law_b there i;
    marks = same_marks a b law_a law_b there i;
    levels = same_levels i;
  }

-- ---- one ledger

-- a lawful ledger has a row, that of its start, and a store that nobody has opened has none
not_none : (rows : Rows) (ledger : Ledger) → IsLawful ledger → own rows ≡ rows_of ledger → own rows ≡ rows_of no_ledger → ⊥
not_none rows ledger law exact none =
    let r = start_record ledger in
    let q = spot_of (record_row r) in
    let v = value_there r in
    none_held q v.0 (ap (λ (rs : Rows). get rs q) (sym none ∙ exact) ∙ told_row ledger law r (told_start ledger) ∙ v.1)

pub one_ledger : (rows : Rows) (a b : Ledger) → StandFor rows a → StandFor rows b → a ≡ b
one_ledger rows a b of_a of_b =
    let none_of : (l : Ledger) → own rows ≡ rows_of l → l ≡ no_ledger → own rows ≡ rows_of no_ledger = λ l exact none.
    exact ∙ ap (λ (x : Ledger). rows_of x) none in
    ⊎_elim
    (λ none_a. ⊎_elim
    (λ none_b. none_a ∙ sym none_b)
    (λ law_b. absurd (not_none rows b law_b of_b.exact (none_of a of_a.exact none_a)))
    of_b.lawful)
    (λ law_a. ⊎_elim
    (λ none_b. absurd (not_none rows a law_a of_a.exact (none_of b of_b.exact none_b)))
    (λ law_b. one_lawful rows a b law_a law_b of_a.exact of_b.exact)
    of_b.lawful)
    of_a.lawful
