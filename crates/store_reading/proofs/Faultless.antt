-- Records that break no rule: what each rule says of them, and the units that they spell.
use Rattle.std.proofs.Common.{◌≡◌, ℕ, inl, inr, Bool, true, List, [], ◌∷◌, ◌++◌, length, Option, None, Some, sym, ap, ◌∙◌, arith}
use Rattle.std.specs.List.{Contains}
use Rattle.std.specs.Option.{option_or}
use Rattle.enq_base.specs.declared.owner.UnitKey.{UnitKey}
use Rattle.keeper_api.specs.Batch.{spot_of}
use Rattle.update_records.specs.Marks.{v1_of, v2_of}
use Rattle.update_records.specs.Spelling.{record_row, records_of}
use Rattle.update_records.specs.declared.stored.Record.{Record}
use Rattle.store_reading.specs.First.{AreRight}
use Rattle.store_reading.specs.Intervals.{level_fault}
use Rattle.store_reading.specs.Posts.{effects_of, post_fault}
use Rattle.store_reading.specs.Rules.{mark_fault, meta_fault, number_fault}
use Rattle.store_reading.specs.Stores.{rule_fault, start_in, unit_in, units_in}
use Rattle.store_reading.specs.Told.{AreRead, IsTableRead, records_in}
use Rattle.store_reading.specs.Units.{is_counted, is_recorded, is_recorded_header, is_right_unit, unit_fault}
use Rattle.store_reading.specs.declared.rules.Place.{Place}
use Rattle.store_reading.proofs.lemmas.Legal.{all_right, first_none, no_wrong_unit}
use Rattle.store_reading.proofs.Rising.{In, contains_in, in_contains, in_all, read_in, read_rise}
use Rattle.store_reading.proofs.UnitFacts.{AreWhole, first_is, header_back, lock_back, module_back, second_is, step_back, unit_there, IsOfUnit}

abbrev pub Lists : Type 0
Lists = List (List Record)

pub second_none : (a b : Option Place) → option_or a b ≡ None → b ≡ None
second_none None b h = h
second_none (Some place) b h = cc

-- no rule names a place
pub record BreaksNone (t : ℕ → List Record) : Type 0 where
  pub meta : meta_fault (t 0) (length (t 4)) ≡ None
  pub numbers : number_fault (t 4) ≡ None
  pub marks : mark_fault (start_in (t 0)) (t 1) (t 4) ≡ None
  pub units : unit_fault (t 1) (t 2) (t 3) (t 4) (t 7) ≡ None
  pub posts : post_fault (t 3) (t 4) (t 6) ≡ None
  pub levels : level_fault (t 1) (t 4) (t 5) ≡ None

pub breaks_none : (records : Lists) → rule_fault records ≡ None → BreaksNone (records_in records)
breaks_none records h =
    let posts = first_none _ _ h in
    let units = first_none _ _ posts in
    let marks = first_none _ _ units in
    let numbers = first_none _ _ marks in
    record {
      meta = first_none _ _ numbers;
      numbers = second_none _ _ numbers;
      marks = second_none _ _ marks;
      units = second_none _ _ units;
      posts = second_none _ _ posts;
      levels = second_none _ _ h;
    }

pub each_right : (test : Record → Bool) (before records : List Record) → AreRight (λ before. test) before records → (r : Record) → In records r → test r ≡ true
each_right test before [] all r h = absurd h
each_right test before (x ∷ xs) all r (inl e) = ap test (sym e) ∙ all.0
each_right test before (x ∷ xs) all r (inr h) = each_right test (before ++ x ∷ []) xs all.1 r h

pub are_whole : (records : Lists) → AreRead records → BreaksNone (records_in records) → AreWhole (records_in records)
are_whole records read none =
    let t = records_in records in
    let r1 : IsTableRead 1 (t 1) = read 1 (omega arith) in
    let r2 : IsTableRead 2 (t 2) = read 2 (omega arith) in
    let r3 : IsTableRead 3 (t 3) = read 3 (omega arith) in
    let r4 : IsTableRead 4 (t 4) = read 4 (omega arith) in
    let r7 : IsTableRead 7 (t 7) = read 7 (omega arith) in
    let locks = none.units in
    let steps = first_none _ _ locks in
    let modules = first_none _ _ steps in
    let headers = first_none _ _ modules in
    record {
      of_headers = read_in 1 (t 1) r1;
      of_modules = read_in 2 (t 2) r2;
      of_steps = read_in 3 (t 3) r3;
      of_marks = read_in 4 (t 4) r4;
      of_locks = read_in 7 (t 7) r7;
      rise_headers = read_rise 1 (t 1) r1;
      rise_modules = read_rise 2 (t 2) r2;
      rise_steps = read_rise 3 (t 3) r3;
      rise_locks = read_rise 7 (t 7) r7;
      whole = each_right (is_right_unit (t 1) (t 2) (t 3) (t 7)) [] (t 4) (no_wrong_unit (t 1) (t 2) (t 3) (t 4) (t 7) none.units);
      known = each_right (is_recorded_header (t 4)) [] (t 1) (all_right (λ before. is_recorded_header (t 4)) 1 [] (t 1) (second_none _ _ headers));
      modules = each_right (is_counted (t 1)) [] (t 2) (all_right (λ before. is_counted (t 1)) 2 [] (t 2) (second_none _ _ modules));
      steps = each_right (is_counted (t 1)) [] (t 3) (all_right (λ before. is_counted (t 1)) 3 [] (t 3) (second_none _ _ steps));
      locks = each_right (is_counted (t 1)) [] (t 7) (all_right (λ before. is_counted (t 1)) 7 [] (t 7) (second_none _ _ locks));
    }

-- ---- the units

-- the records of the unit that the rows of a key spell
abbrev pub rows_of_unit : Lists → UnitKey → List Record
rows_of_unit records key = records_of (unit_in (records_in records 1) (records_in records 3) (records_in records 7) key)

-- each record of a recorded unit is one of its table
pub each_stands : (records : Lists) → AreRead records → rule_fault records ≡ None → (key : UnitKey) → is_recorded (records_in records 4) key ≡ true
    → (r : Record) → Contains (rows_of_unit records key) r
    → Contains (records_in records (spot_of (record_row r)).0) r
each_stands records read right key known r h =
    contains_in (records_in records (spot_of (record_row r)).0) r
    (unit_there (records_in records) (are_whole records read (breaks_none records right)) key known r (in_contains (rows_of_unit records key) r h))

-- a recorded unit has this record
abbrev pub HasUnit : Lists → Record → Type 0
HasUnit records r = (key : UnitKey) × (is_recorded (records_in records 4) key ≡ true) × Contains (rows_of_unit records key) r

told : (records : Lists) (r : Record) → IsOfUnit (records_in records) r → HasUnit records r
told records r h = (h.0, h.1, contains_in (rows_of_unit records h.0) r h.2)

abbrev pub AllHaveUnits : Lists → ℕ → Type 0
AllHaveUnits records table = (r : Record) → Contains (records_in records table) r → HasUnit records r

pub headers_have : (records : Lists) → AreRead records → rule_fault records ≡ None → AllHaveUnits records 1
headers_have records read right r h =
    let w = are_whole records read (breaks_none records right) in
    let there = in_contains (records_in records 1) r h in
    let here = in_all _ (records_in records 1) r w.of_headers there in
    told records r (header_back (records_in records) w r here.0 here.1 there)

pub modules_have : (records : Lists) → AreRead records → rule_fault records ≡ None → AllHaveUnits records 2
modules_have records read right r h =
    let w = are_whole records read (breaks_none records right) in
    let there = in_contains (records_in records 2) r h in
    let here = in_all _ (records_in records 2) r w.of_modules there in
    told records r (module_back (records_in records) w r here.0 here.1 there)

pub steps_have : (records : Lists) → AreRead records → rule_fault records ≡ None → AllHaveUnits records 3
steps_have records read right r h =
    let w = are_whole records read (breaks_none records right) in
    let there = in_contains (records_in records 3) r h in
    let here = in_all _ (records_in records 3) r w.of_steps there in
    told records r (step_back (records_in records) w r here.0 here.1 there)

pub locks_have : (records : Lists) → AreRead records → rule_fault records ≡ None → AllHaveUnits records 7
locks_have records read right r h =
    let w = are_whole records read (breaks_none records right) in
    let there = in_contains (records_in records 7) r h in
    let here = in_all _ (records_in records 7) r w.of_locks there in
    told records r (lock_back (records_in records) w r here.0 here.1 there)

-- the effects that the rows give a part are those of its unit
pub first_part : (records : Lists) → AreRead records → rule_fault records ≡ None → (key : UnitKey)
    → effects_of (records_in records 3) key 1 ≡ v1_of (units_in records) key
first_part records read right key = first_is (records_in records) (are_whole records read (breaks_none records right)) key

pub second_part : (records : Lists) → AreRead records → rule_fault records ≡ None → (key : UnitKey)
    → effects_of (records_in records 3) key 2 ≡ v2_of (units_in records) key
second_part records read right key = second_is (records_in records) (are_whole records read (breaks_none records right)) key
