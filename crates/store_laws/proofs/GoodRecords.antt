-- The tables of a good store as lists: the start number, the marks, and the effects and locks of each unit.
use Rattle.std.proofs.Common.{◌≡◌, ℕ, ◌+◌, ◌≤◌, Bool, true, false, cond, ◌&&◌, nat_eq, List, [], ◌∷◌, ◌++◌, length, Option, Some, None, filter, if◌then◌else◌}
use Rattle.std.proofs.Common.{Contains, refl, sym, ap, subst, ◌∙◌, arith}
use Rattle.std.specs.Option.{option_map_or}
use Rattle.std.proofs.lemmas.Bool.{and_from, eq-eqb, eqb-true}
use Rattle.enq_base.specs.Owners.{same_unit}
use Rattle.enq_base.specs.declared.owner.UnitKey.{UnitKey}
use Rattle.enq_base.specs.declared.unit.Effect.{Effect}
use Rattle.update_records.specs.Ledger.{Ledger, IsLawful}
use Rattle.update_records.specs.Marks.{unit_at}
use Rattle.update_records.specs.Spelling.{header_of, locks_of, part_of, records_of, steps_of}
use Rattle.update_records.specs.declared.records.Mark.{Mark}
use Rattle.update_records.specs.declared.records.Unit.{Unit as UnitOfWork}
use Rattle.update_records.specs.declared.stored.Record.{Record}
use Rattle.update_records.specs.declared.stored.Record.TheVariants as rec
use Rattle.record_laws.proofs.Status.{one_unit, unit_refl}
use Rattle.store_reading.specs.Posts.{effect_in, effects_of}
use Rattle.store_reading.specs.Told.{records_in}
use Rattle.store_reading.proofs.lemmas.Elements.{contains_here, contains_none, of_map}
use Rattle.store_reading.proofs.lemmas.Followings.{HaveEffects}
use Rattle.store_laws.proofs.GoodTables.{first_in, key_in, lock_is, locks_in, locks_rise, mark_of, of_unit, records_of_marks_rise, second_in, side, start_of}
use Rattle.store_laws.proofs.GoodTables.{step_is, step_part, steps_rise, table_in, told_mark, told_start, told_unit, unit_cases, AreRecordsOf, HasPart}
use Rattle.store_laws.proofs.InOrder.{Rises, contains_filter, of_filter, one_list, rises_filter}
use Rattle.store_laws.proofs.KeysApart.{KeysApart, found_unit, keys_of, one_unit_of, recorded_apart, unit_found}
use Rattle.store_laws.proofs.LedgerRecords.{mark_records, marks_rise, only, start_record, unit_law}
use Rattle.store_reading.proofs.lemmas.Legal.{first_true, second_true}

pub keys_apart : (ledger : Ledger) → IsLawful ledger → KeysApart (keys_of ledger.units)
keys_apart ledger law = subst KeysApart (sym law.recorded) (recorded_apart ledger.units [] ledger.marks law.legal)

-- ---- the rows of a key

-- an effect of this part
abbrev pub is_step : UnitKey → ℕ → Record → Bool
is_step key part (rec.Step unit p index effect) = same_unit unit key && nat_eq p part
is_step key part r = false

-- a lock of this unit
abbrev pub is_lock : UnitKey → Record → Bool
is_lock key (rec.Lock unit index table mode count pattern) = same_unit unit key
is_lock key r = false

kept : (b : Bool) (effect : Effect) (steps : List Record) (key : UnitKey) (part : ℕ) (r : Record) → effect_in key part r ≡ (if b then effect ∷ [] else [])
    → (if b then effect ∷ [] else []) ++ effects_of steps key part ≡ effects_of (cond b (r ∷ steps) steps) key part
kept true effect steps key part r is = ap (λ (es : List Effect). es ++ effects_of steps key part) (sym is)
kept false effect steps key part r is = refl

effects_kept : (steps : List Record) (key : UnitKey) (part : ℕ) → effects_of steps key part ≡ effects_of (filter (is_step key part) steps) key part
effects_kept [] key part = refl
effects_kept (rec.Step u p index e ∷ steps) key part =
    ap (λ (es : List Effect). (if same_unit u key && nat_eq p part then e ∷ [] else []) ++ es) (effects_kept steps key part)
    ∙ kept (same_unit u key && nat_eq p part) e (filter (is_step key part) steps) key part (rec.Step u p index e) refl
effects_kept (rec.Meta s n ∷ steps) key part = effects_kept steps key part
effects_kept (rec.Header u user v1 v2 locks numbers ∷ steps) key part = effects_kept steps key part
effects_kept (rec.Module u p count ∷ steps) key part = effects_kept steps key part
effects_kept (rec.Mark m ∷ steps) key part = effects_kept steps key part
effects_kept (rec.Level object nr from to level buffered ∷ steps) key part = effects_kept steps key part
effects_kept (rec.Business table k text ∷ steps) key part = effects_kept steps key part
effects_kept (rec.Lock u index table mode count pattern ∷ steps) key part = effects_kept steps key part

pub same_part : (key : UnitKey) (part : ℕ) → (same_unit key key && nat_eq part part) ≡ true
same_part key part = and_from (same_unit key key) (nat_eq part part) (unit_refl key) (eq-eqb part part refl)

effects_back : (key : UnitKey) (part index : ℕ) (effects : List Effect) → effects_of (steps_of key part index effects) key part ≡ effects
effects_back key part index [] = refl
effects_back key part index (e ∷ effects) =
    ap (λ b. (if b then e ∷ [] else []) ++ effects_of (steps_of key part (index + 1) effects) key part) (same_part key part)
    ∙ ap (e ∷◌) (effects_back key part (index + 1) effects)

-- the effects of a key's unit, or none
abbrev pub side_at : List UnitOfWork → ℕ → UnitKey → List Effect
side_at units part key = option_map_or (side part) (unit_at units key) []

module _ (records : List (List Record)) (ledger : Ledger) (law : IsLawful ledger) (are : AreRecordsOf records ledger) where
  -- ---- tables 0 and 4

  pub start_table : records_in records 0 ≡ start_record ledger ∷ []
  start_table =
      one_list key_in [] [] (records_in records 0) (start_record ledger ∷ []) (are.rise 0 (omega arith)) (refl, tt)
      (λ r h. subst (λ x. Contains (start_record ledger ∷ []) x) (start_of ledger r (are.told 0 (omega arith) r h) (are.table 0 (omega arith) r h))
      (contains_here (start_record ledger) []))
      (λ r h. subst (λ x. Contains (records_in records 0) x) (only (start_record ledger) r h) (are.there (start_record ledger) (told_start ledger)))

  pub mark_table : records_in records 4 ≡ mark_records ledger.marks
  mark_table =
      let few = law.few in
      one_list key_in [] [] (records_in records 4) (mark_records ledger.marks) (are.rise 4 (omega arith))
      (records_of_marks_rise ledger.marks [] (marks_rise ledger.marks 1 (length ledger.marks) [] law.numbered (omega arith) (λ i more high. refl)))
      (λ r h. mark_of ledger r (are.told 4 (omega arith) r h) (are.table 4 (omega arith) r h))
      (λ r h.
      let m = of_map (λ (m : Mark). rec.Mark m) ledger.marks r h in
      subst (λ n. Contains (records_in records n) r) (ap table_in (sym m.2)) (are.there r (told_mark ledger r h)))

  -- ---- table 3

  step_there : (key : UnitKey) (part : ℕ) (unit : UnitOfWork) (r : Record) → Contains ledger.units unit → (p : ℕ)
      → Contains (steps_of unit.key p 1 (side p unit)) r → is_step key part r ≡ true
      → Contains (steps_of key part 1 (side_at ledger.units part key)) r
  step_there key part unit r in_units p h is =
      let s = step_is unit.key p 1 (side p unit) r h in
      let both : (same_unit unit.key key && nat_eq p part) ≡ true = ap (is_step key part) s.is ∙ is in
      let key_is : unit.key ≡ key = one_unit unit.key key (first_true (same_unit unit.key key) (nat_eq p part) both) in
      let part_is : p ≡ part = eqb-true p part (second_true (same_unit unit.key key) (nat_eq p part) both) in
      let found : unit_at ledger.units key ≡ Some unit = ap (unit_at ledger.units) (sym key_is)
      ∙ unit_found ledger.units unit (keys_apart ledger law) in_units in
      let effects : side part unit ≡ side_at ledger.units part key = ap (λ o. option_map_or (side part) o []) (sym found) in
      subst (λ es. Contains (steps_of key part 1 es) r) effects
      (subst (λ n. Contains (steps_of key n 1 (side n unit)) r) part_is (subst (λ k. Contains (steps_of k p 1 (side p unit)) r) key_is h))

  step_told : (key : UnitKey) (part : ℕ) (r : Record) → Contains (records_in records 3) r → is_step key part r ≡ true
      → Contains (steps_of key part 1 (side_at ledger.units part key)) r
  step_told key part r h is =
      let R = Contains (steps_of key part 1 (side_at ledger.units part key)) r in
      let other : (x : Record) → x ≡ r → is_step key part x ≡ false → R = λ x same out. let odd : true ≡ false =
      sym is ∙ ap (is_step key part) (sym same) ∙ out in cc in
      let at = of_unit ledger r 3 (are.told 3 (omega arith) r h) (are.table 3 (omega arith) r h) refl in
      unit_cases at.0 r R at.2
      (λ same. other (header_of at.0) same refl)
      (λ p some same. other _ same refl)
      (λ p steps. step_there key part at.0 r at.1 p steps is)
      (λ locks. let l = lock_is at.0.key 1 at.0.entries r locks in other _ l.is refl)

  step_back : (key : UnitKey) (part : ℕ) (r : Record) → ((unit : UnitOfWork) → HasPart unit part) → (o : Option UnitOfWork) → unit_at ledger.units key ≡ o
      → Contains (steps_of key part 1 (option_map_or (side part) o [])) r → Contains (records_in records 3) r × (is_step key part r ≡ true)
  step_back key part r has None found h = absurd (contains_none r h)
  step_back key part r has (Some unit) found h =
      let at = found_unit ledger.units key unit found in
      let s = step_is key part 1 (side part unit) r h in
      let own : Contains (records_of unit) r =
      has unit r (subst (λ k. Contains (part_of k part (side part unit)) r) (sym at.1) (step_part key part (side part unit) r h)) in (
        subst (λ n. Contains (records_in records n) r) (ap table_in (sym s.is)) (are.there r (told_unit ledger unit r at.0 own)),
        ap (is_step key part)
            (sym s.is) ∙ same_part key part,
      )

  few_effects : (part : ℕ) (unit : UnitOfWork) → Contains ledger.units unit → length (side part unit) ≤ 200
  few_effects part unit h =
      let few = (unit_law ledger law unit h).few in
      elim (nat_eq part 1) as (λ b. length (if b then unit.parts.v1 else unit.parts.v2) ≤ 200) [ true ↦ omega arith | false ↦ omega arith ]

  side_rises : (key : UnitKey) (part : ℕ) (o : Option UnitOfWork) → unit_at ledger.units key ≡ o
      → Rises key_in [] (steps_of key part 1 (option_map_or (side part) o []))
  side_rises key part None found = tt
  side_rises key part (Some unit) found =
      let few = few_effects part unit (found_unit ledger.units key unit found).0 in
      steps_rise key part 1 (side part unit) [] (omega arith) (λ i more high. refl)

  -- the effects of a part, in order
  pub step_table : (key : UnitKey) (part : ℕ) → ((unit : UnitOfWork) → HasPart unit part)
      → filter (is_step key part) (records_in records 3) ≡ steps_of key part 1 (side_at ledger.units part key)
  step_table key part has =
      one_list key_in [] [] (filter (is_step key part) (records_in records 3)) (steps_of key part 1 (side_at ledger.units part key))
      (rises_filter key_in (is_step key part) [] (records_in records 3) (are.rise 3 (omega arith)))
      (side_rises key part (unit_at ledger.units key) refl)
      (λ r h. let at = of_filter (is_step key part) (records_in records 3) r h in step_told key part r at.0 at.1)
      (λ r h. let at = step_back key part r has (unit_at ledger.units key) refl h in contains_filter (is_step key part) (records_in records 3) r at.0 at.1)

  effects_are : (key : UnitKey) (part : ℕ) → ((unit : UnitOfWork) → HasPart unit part)
      → effects_of (records_in records 3) key part ≡ side_at ledger.units part key
  effects_are key part has =
      effects_kept (records_in records 3) key part
      ∙ ap (λ (steps : List Record). effects_of steps key part) (step_table key part has)
      ∙ effects_back key part 1 (side_at ledger.units part key)

  -- the effects of each unit are those that table 3 tells
  pub have_effects : HaveEffects (records_in records 3) ledger.units
  have_effects = record { first = λ key. effects_are key 1 first_in; second = λ key. effects_are key 2 second_in }

  -- ---- table 7

  lock_told : (unit : UnitOfWork) (r : Record) → Contains ledger.units unit → Contains (records_in records 7) r → is_lock unit.key r ≡ true
      → Contains (locks_of unit.key 1 unit.entries) r
  lock_told unit r in_units h is =
      let R = Contains (locks_of unit.key 1 unit.entries) r in
      let other : (x : Record) → x ≡ r → is_lock unit.key x ≡ false → R = λ x same out. let odd : true ≡ false =
      sym is ∙ ap (is_lock unit.key) (sym same) ∙ out in cc in
      let at = of_unit ledger r 7 (are.told 7 (omega arith) r h) (are.table 7 (omega arith) r h) refl in
      unit_cases at.0 r R at.2
      (λ same. other (header_of at.0) same refl)
      (λ p some same. other _ same refl)
      (λ p steps. let s = step_is at.0.key p 1 (side p at.0) r steps in other _ s.is refl)
      (λ locks.
      let l = lock_is at.0.key 1 at.0.entries r locks in
      let same : at.0 ≡ unit = one_unit_of ledger.units at.0 unit (keys_apart ledger law) at.1 in_units
      (one_unit at.0.key unit.key (ap (is_lock unit.key) l.is ∙ is)) in
      subst (λ (u : UnitOfWork). Contains (locks_of u.key 1 u.entries) r) same locks)

  -- the locks of a unit, in order
  pub lock_table : (unit : UnitOfWork) → Contains ledger.units unit → filter (is_lock unit.key) (records_in records 7) ≡ locks_of unit.key 1 unit.entries
  lock_table unit in_units =
      let few = (unit_law ledger law unit in_units).few_entries in
      one_list key_in [] [] (filter (is_lock unit.key) (records_in records 7)) (locks_of unit.key 1 unit.entries)
      (rises_filter key_in (is_lock unit.key) [] (records_in records 7) (are.rise 7 (omega arith)))
      (locks_rise unit.key 1 unit.entries [] (omega arith) (λ i more high. refl))
      (λ r h. let at = of_filter (is_lock unit.key) (records_in records 7) r h in lock_told unit r in_units at.0 at.1)
      (λ r h.
      let l = lock_is unit.key 1 unit.entries r h in
      contains_filter (is_lock unit.key) (records_in records 7) r
      (subst (λ n. Contains (records_in records n) r) (ap table_in (sym l.is)) (are.there r (told_unit ledger unit r in_units (locks_in unit r h))))
      (ap (is_lock unit.key) (sym l.is) ∙ unit_refl unit.key))
