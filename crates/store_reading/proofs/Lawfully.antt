-- The ledger that records spell is lawful where they break no rule.
use Rattle.std.proofs.Common.{◌≡◌, ℕ, ◌+◌, ◌^◌, ◌<◌, ◌≤◌, inl, inr, Bool, true, false, cond, not, ◌&&◌, nat_eq, nat_le, List, [], ◌∷◌, ◌++◌, map, length}
use Rattle.std.proofs.Common.{if◌then◌else◌, Some, None, refl, sym, ap, subst, ◌∙◌, arith}
use Rattle.std.specs.List.{All, AllByRecursion}
use Rattle.std.specs.Option.{option_map_or}
use Rattle.std.proofs.lemmas.Bool.{and_parts, eqb-true, leb-true, le-leb}
use Rattle.std.proofs.lemmas.List.Elements.{All-from_recursion, recursion_from_All}
use Rattle.enq_base.specs.Owners.{same_unit}
use Rattle.enq_base.specs.declared.owner.UnitKey.{UnitKey}
use Rattle.enq_base.specs.declared.unit.Effect.{Effect}
use Rattle.update_records.specs.Business.{numbers_in, numbers_of}
use Rattle.update_records.specs.Grammar.{IsUnit}
use Rattle.update_records.specs.Ledger.{IsLawful, Ledger, LevelsAgree, no_ledger, recorded}
use Rattle.update_records.specs.Marks.{has_no_v2, is_empty_part, unit_at}
use Rattle.update_records.specs.Spelling.{IsRecord}
use Rattle.update_records.specs.declared.records.Mark.{Mark}
use Rattle.update_records.specs.declared.records.MarkKind.{MarkKind}
use Rattle.update_records.specs.declared.records.MarkKind.TheVariants.{Rec}
use Rattle.update_records.specs.declared.records.Unit.{Unit as UnitOfWork}
use Rattle.update_records.specs.declared.stored.Record.{Record}
use Rattle.update_records.specs.declared.stored.Record.TheVariants as rec
use Rattle.record_laws.proofs.Status.{unit_refl}
use Rattle.store_reading.specs.First.{AreRight as EachRight}
use Rattle.store_reading.specs.Intervals.{committed, is_right_level, numbers_at, numbers_by}
use Rattle.store_reading.specs.Lawful.{IsRightRow}
use Rattle.store_reading.specs.Posts.{effects_of, is_right_post}
use Rattle.store_reading.specs.Rules.{has_meta, has_number, has_second, is_meta, is_right_mark, marks_in}
use Rattle.store_reading.specs.Stores.{is_bare, ledger_in, levels_in, rule_fault, start_in, units_in}
use Rattle.store_reading.specs.Told.{AreRead, IsTableRead, records_in}
use Rattle.store_reading.specs.Units.{is_recorded}
use Rattle.store_reading.specs.declared.counts.Counts.{Counts}
use Rattle.store_reading.specs.declared.rules.Place.{Place}
use Rattle.store_reading.proofs.Faultless.{are_whole, breaks_none, first_part, second_none, second_part}
use Rattle.store_reading.proofs.Fits.{unit_fits}
use Rattle.store_reading.proofs.Heads.{head_or_none}
use Rattle.store_reading.proofs.Intervals.{levels_agree}
use Rattle.store_reading.proofs.lemmas.Legal.{all_marks, all_right, first_none, legal_from, no_wrong_unit, numbered, under_from}
use Rattle.store_reading.proofs.Levels.{right_rows}
use Rattle.store_reading.proofs.Posted.{posts_right}
use Rattle.store_reading.proofs.Rising.{AreIn, In, all_weaker, in_any, read_in, table_of}
use Rattle.store_reading.proofs.UnitFacts.{AreWhole, part_read, two_is_part, recorded_is, second_is, unit_at_key, unit_by, unit_read, units_by, unknown_bare}

-- ---- the meta row

-- one meta row
record IsMetaRead (meta : List Record) (marks : ℕ) : Type 0 where
  low : 1 ≤ start_in meta
  fits : start_in meta < 2 ^ 32
  few : marks ≤ 1048576

meta_holds : (b : Bool) (place : Place) → cond b None (Some place) ≡ None → b ≡ true
meta_holds true place h = refl
meta_holds false place h = cc

meta_row : (r : Record) (marks : ℕ) → IsRecord r → is_meta marks r ≡ true → IsMetaRead (r ∷ []) marks
meta_row (rec.Meta start n) marks is h =
    let a = and_parts (nat_le 1 start) (nat_eq n marks && nat_le n 1048576) h in
    let b = and_parts (nat_eq n marks) (nat_le n 1048576) a.1 in
    record {
      low = leb-true 1 start a.0;
      fits = is.0;
      few = subst (λ k. k ≤ 1048576) (eqb-true n marks b.0) (leb-true n 1048576 b.1);
    }
meta_row r marks is h = let odd : false ≡ true = h in cc

meta_read : (meta : List Record) (marks : ℕ) → AreIn 0 meta → has_meta meta marks ≡ true → IsMetaRead meta marks
meta_read [] marks all h = cc
meta_read (r ∷ []) marks all h = meta_row r marks all.0.0 h
meta_read (r ∷ s ∷ meta) marks all h = cc

-- ---- units

own_keys : (t : ℕ → List Record) (keys : List UnitKey) → map (λ (unit : UnitOfWork). unit.key) (map (unit_at_key t) keys) ≡ keys
own_keys t [] = refl
own_keys t (key ∷ keys) = ap (λ ks. key ∷ ks) (own_keys t keys)

units_fit : (t : ℕ → List Record) → AreWhole t → (keys : List UnitKey) → ((key : UnitKey) → In keys key → is_recorded (t 4) key ≡ true)
    → AllByRecursion IsUnit (map (unit_at_key t) keys)
units_fit t w [] known = tt
units_fit t w (key ∷ keys) known = (unit_fits t w key (known key (inl refl)), units_fit t w keys (λ k h. known k (inr h)))

recorded_known : (t : ℕ → List Record) (key : UnitKey) → In (recorded (marks_in (t 4))) key → is_recorded (t 4) key ≡ true
recorded_known t key h = sym (recorded_is key (t 4)) ∙ in_any (λ k. same_unit k key) (recorded (marks_in (t 4))) key h (unit_refl key)

empty_is : (xs : List Effect) (n : ℕ) → length xs ≡ n → is_empty_part xs ≡ not (nat_le 1 n)
empty_is [] n h = ap (λ k. not (nat_le 1 k)) h
empty_is (x ∷ xs) n h = sym (ap not (le-leb 1 n (omega arith)))

no_second : (t : ℕ → List Record) → AreWhole t → (key : UnitKey) → has_no_v2 (units_by t) key ≡ not (has_second (t 1) key)
no_second t w key =
    ap is_empty_part (sym (second_is t w key))
    ∙ elim (head_or_none (t 1) key w.rise_headers) as (λ _. is_empty_part (effects_of (t 3) key 2) ≡ not (has_second (t 1) key)) [
      | inl head ↦ empty_is (effects_of (t 3) key 2) head.0.v2 (unit_read t w key head).second ∙ ap not (sym head.1.second)
      | inr bare ↦ empty_is (effects_of (t 3) key 2) 0 ((part_read t w key 2 two_is_part).many ∙ ap (λ (c : Counts). c.v2) bare.counts)
          ∙ ap not (sym bare.second)
    ]

-- ---- numbers

numbers_same : (t : ℕ → List Record) → AreWhole t → (key : UnitKey) → numbers_at (t 1) key ≡ option_map_or (λ (unit : UnitOfWork). unit.numbers)
    (unit_at (units_by t) key) []
numbers_same t w key =
    elim (is_recorded (t 4) key)
    as (λ b. is_recorded (t 4) key ≡ b → numbers_at (t 1) key ≡ option_map_or (λ (unit : UnitOfWork). unit.numbers)
    (if b then Some (unit_at_key t key) else None) []) [
      | true ↦ λ e. refl
      | false ↦ λ e. (unknown_bare t w key e).numbers
    ] refl
    ∙ ap (λ u. option_map_or (λ (unit : UnitOfWork). unit.numbers) u []) (sym (unit_by t key))

module _ (headers : List Record) (units : List UnitOfWork)
    (same : (key : UnitKey) → numbers_at headers key ≡ option_map_or (λ (unit : UnitOfWork). unit.numbers) (unit_at units key) []) where
  numbers_kind : (m : Mark) (kind : MarkKind) → numbers_by headers (rec.Mark (record m { kind = kind })) ≡ numbers_in units (record m { kind = kind })
  numbers_kind m Rec = same m.unit
  numbers_kind m kind = refl

  committed_is : (marks : List Record) → committed headers marks ≡ numbers_of units (marks_in marks)
  committed_is [] = refl
  committed_is (rec.Mark m ∷ marks) =
      ap (λ ns. ns ++ committed headers marks) (numbers_kind m m.kind) ∙ ap (λ ns. numbers_in units m ++ ns) (committed_is marks)
  committed_is (r ∷ marks) = committed_is marks

-- ---- the ledger

abbrev Lists : Type 0
Lists = List (List Record)

grammars : (table : ℕ) (records : List Record) → AreIn table records → All IsRecord records
grammars table records all = All-from_recursion IsRecord records (all_weaker (λ r. IsRecord r × (table_of r ≡ table)) IsRecord (λ r h. h.0) records all)

-- the ledger of which the four parts are told
abbrev spelled : Lists → Ledger
spelled records =
    record {
      start = start_in (records_in records 0);
      units = units_in records;
      marks = marks_in (records_in records 4);
      levels =
          levels_in (records_in records 5);
    }

spelled_lawful : (records : Lists) → AreRead records → rule_fault records ≡ None → IsLawful (spelled records)
spelled_lawful records read right =
    let t = records_in records in
    let r0 : IsTableRead 0 (t 0) = read 0 (omega arith) in
    let r5 : IsTableRead 5 (t 5) = read 5 (omega arith) in
    let none = breaks_none records right in
    let w = are_whole records read none in
    let places : EachRight (λ before. has_number (length before + 1)) [] (t 4) = all_right (λ before. has_number (length before + 1)) 4 [] (t 4) none.numbers in
    let marks : EachRight (is_right_mark (start_in (t 0)) (t 1)) [] (t 4) = all_right (is_right_mark (start_in (t 0)) (t 1)) 4 [] (t 4) none.marks in
    let meta : IsMetaRead (t 0) (length (t 4)) =
    meta_read (t 0) (length (t 4)) (read_in 0 (t 0) r0) (meta_holds (has_meta (t 0) (length (t 4))) (record { table = 0; row = 1 }) none.meta) in
    let numbers : committed (t 1) (t 4) ≡ numbers_of (units_in records) (marks_in (t 4)) = committed_is (t 1) (units_in records) (numbers_same t w) (t 4) in
    let rows : All (IsRightRow (committed (t 1) (t 4))) (t 5) =
    right_rows (committed (t 1) (t 4)) [] (t 5) (grammars 5 (t 5) (read_in 5 (t 5) r5))
    (all_right (λ before. is_right_level (committed (t 1) (t 4))) 5 [] (t 5) (first_none _ _ none.levels)) in
    record {
      started = meta.low;
      start = meta.fits;
      few = subst (λ n. n ≤ 1048576) (sym (all_marks [] (t 4) places)) meta.few;
      numbered = numbered (t 4) places;
      marks = under_from (start_in (t 0)) (t 1) (t 2) (t 3) (t 7) [] (t 4) (grammars 4 (t 4) w.of_marks) marks
          (no_wrong_unit (t 1) (t 2) (t 3) (t 4) (t 7) none.units);
      legal = legal_from (start_in (t 0)) (t 1) (units_in records) [] (t 4) (no_second t w) marks;
      units = All-from_recursion IsUnit (units_in records) (units_fit t w (recorded (marks_in (t 4))) (recorded_known t));
      recorded = own_keys t (recorded (marks_in (t 4)));
      right = posts_right (t 3) (units_in records) (record { first = first_part records read right; second = second_part records read right }) (t 4)
          (all_right (is_right_post (t 3)) 4 [] (t 4) (first_none _ _ none.posts));
      levels = subst (LevelsAgree (levels_in (t 5))) numbers
          (levels_agree (t 5) (committed (t 1) (t 4)) (recursion_from_All (IsRightRow (committed (t 1) (t 4))) (t 5) rows) (second_none _ _ none.levels));
    }

-- records that break no rule spell a lawful ledger
pub ledger_lawful : (records : Lists) → AreRead records → is_bare records ≡ false → rule_fault records ≡ None → IsLawful (ledger_in records)
ledger_lawful records read some right = subst (λ b. IsLawful (if b then no_ledger else spelled records)) (sym some) (spelled_lawful records read right)
