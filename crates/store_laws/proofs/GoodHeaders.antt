-- What the headers of a good store tell of a unit.
use Rattle.std.proofs.Common.{◌≡◌, ◌⊎◌, inl, inr, ⊎_elim, Bool, true, false, cond, not, ◌&&◌, nat_le, List, [], ◌∷◌, length, Some, None, Contains, refl, sym, ap, subst, ◌∙◌, arith}
use Rattle.std.specs.List.{fold, list_any}
use Rattle.std.specs.Option.{option_map_or}
use Rattle.std.proofs.lemmas.Bool.{and_from, false_from_ne_true as no_true, le-leb, or_from}
use Rattle.enq_base.specs.Owners.{same_unit}
use Rattle.enq_base.specs.declared.owner.UnitKey.{UnitKey}
use Rattle.enq_base.specs.declared.unit.Effect.{Effect}
use Rattle.enq_base.specs.declared.unit.Num.{Num as Number}
use Rattle.update_records.specs.Ledger.{Ledger, IsLawful}
use Rattle.update_records.specs.Marks.{has_no_v2, is_empty_part, unit_at}
use Rattle.update_records.specs.Spelling.{header_of}
use Rattle.update_records.specs.declared.records.Unit.{Unit as UnitOfWork}
use Rattle.update_records.specs.declared.stored.Record.{Record}
use Rattle.record_laws.proofs.Status.{one_unit, unit_refl}
use Rattle.store_reading.specs.Intervals.{numbers_after, numbers_at, numbers_told}
use Rattle.store_reading.specs.Rules.{has_second, tells_second}
use Rattle.store_reading.specs.Told.{records_in}
use Rattle.store_reading.specs.Units.{counts_after, counts_at, no_counts, told}
use Rattle.store_reading.specs.declared.counts.Counts.{Counts}
use Rattle.store_reading.proofs.lemmas.Elements.{contains_cases, contains_here, contains_none, contains_there}
use Rattle.store_laws.proofs.GoodRecords.{keys_apart}
use Rattle.store_laws.proofs.GoodTables.{header_in, lock_is, of_unit, side, step_is, table_in, told_unit, unit_cases, AreRecordsOf}
use Rattle.store_laws.proofs.KeysApart.{found_unit, unit_found}
use Rattle.store_reading.proofs.lemmas.Shelved.{any_contained}

-- ---- what one of several records tells

module _ {B : Type 0} (step : B → Record → B) where
  still : (records : List Record) (before : B) → ((r : Record) → Contains records r → (b : B) → step b r ≡ b) → fold step before records ≡ before
  still [] before keeps = refl
  still (r ∷ records) before keeps =
      still records (step before r) (λ s at. keeps s (contains_there r records s at)) ∙ keeps r (contains_here r records) before

  -- a record that tells x, whatever was told before
  abbrev Tells : B → List Record → Type 0
  Tells x records = (r : Record) × Contains records r × ((b : B) → step b r ≡ x)

  later : (x before : B) (r : Record) (records : List Record) → ((b : B) → step b r ≡ b) → (before ≡ x) ⊎ Tells x (r ∷ records) → (step before r ≡ x)
      ⊎ Tells x records
  later x before r records keeps (inl e) = inl (keeps before ∙ e)
  later x before r records keeps (inr at) =
      ⊎_elim (λ e. inl (ap (step before) e ∙ at.2 before)) (λ there. inr (at.0, there, at.2)) (contains_cases r records at.0 at.1)

  -- where each record tells x or nothing, and one of them tells it
  once_told : (x : B) (records : List Record) (before : B) → ((r : Record) → Contains records r → ((b : B) → step b r ≡ b) ⊎ ((b : B) → step b r ≡ x))
      → (before ≡ x) ⊎ Tells x records
      → fold step before records ≡ x
  once_told x [] before each (inl e) = e
  once_told x [] before each (inr at) = absurd (contains_none at.0 at.1)
  once_told x (r ∷ records) before each is =
      once_told x records (step before r) (λ s at. each s (contains_there r records s at))
      (⊎_elim (λ keeps. later x before r records keeps is) (λ tells. inl (tells before)) (each r (contains_here r records)))

none_pass : (test : Record → Bool) (records : List Record) → ((r : Record) → Contains records r → test r ≡ false) → list_any test records ≡ false
none_pass test [] h = refl
none_pass test (r ∷ records) h = or_from (test r) (list_any test records) (h r (contains_here r records))
    (none_pass test records (λ s at. h s (contains_there r records s at)))

counts_fold : (key : UnitKey) (before : Counts) (records : List Record) → counts_after key before records ≡ fold (told key) before records
counts_fold key before [] = refl
counts_fold key before (r ∷ records) = counts_fold key (told key before r) records

numbers_fold : (key : UnitKey) (before : List Number) (records : List Record) → numbers_after key before records ≡ fold (numbers_told key) before records
numbers_fold key before [] = refl
numbers_fold key before (r ∷ records) = numbers_fold key (numbers_told key before r) records

-- ---- the headers of a good store

-- what the header of a unit counts
abbrev pub counts_for : UnitOfWork → Counts
counts_for unit = record { v1 = length unit.parts.v1; v2 = length unit.parts.v2; locks = length unit.entries; numbers = length unit.numbers }

some_effects : (effects : List Effect) → nat_le 1 (length effects) ≡ not (is_empty_part effects)
some_effects [] = refl
some_effects (e ∷ effects) = le-leb 1 (length (e ∷ effects)) (omega arith)

module _ (records : List (List Record)) (ledger : Ledger) (law : IsLawful ledger) (are : AreRecordsOf records ledger) where
  pub header_told : (r : Record) → Contains (records_in records 1) r → (unit : UnitOfWork) × Contains ledger.units unit × (header_of unit ≡ r)
  header_told r h =
      let R = (unit : UnitOfWork) × Contains ledger.units unit × (header_of unit ≡ r) in
      let table = are.table 1 (omega arith) r h in
      let other : (x : Record) → x ≡ r → (table_in x ≡ 1 → ⊥) → R = λ x same out. absurd (out (ap table_in same ∙ table)) in
      let at = of_unit ledger r 1 (are.told 1 (omega arith) r h) table refl in
      unit_cases at.0 r R at.2
      (λ same. (at.0, at.1, same))
      (λ part some same. other _ same (λ e. cc))
      (λ part steps. let s = step_is at.0.key part 1 (side part at.0) r steps in other _ s.is (λ e. cc))
      (λ locks. let l = lock_is at.0.key 1 at.0.entries r locks in other _ l.is (λ e. cc))

  pub header_there : (unit : UnitOfWork) → Contains ledger.units unit → Contains (records_in records 1) (header_of unit)
  header_there unit h = are.there (header_of unit) (told_unit ledger unit (header_of unit) h (header_in unit))

  found_by : (unit : UnitOfWork) (key : UnitKey) → Contains ledger.units unit → same_unit unit.key key ≡ true → unit_at ledger.units key ≡ Some unit
  found_by unit key h same = ap (unit_at ledger.units) (sym (one_unit unit.key key same)) ∙ unit_found ledger.units unit (keys_apart ledger law) h

  -- of the headers each tells of its unit alone
  headers_tell : {B : Type 0} (step : B → Record → B) (value : UnitOfWork → B) (key : UnitKey)
      → ((b : B) (unit : UnitOfWork) → step b (header_of unit) ≡ cond (same_unit unit.key key) (value unit) b)
      → (before : B) → fold step before (records_in records 1) ≡ option_map_or value (unit_at ledger.units key) before
  headers_tell {B} step value key says before =
      elim (unit_at ledger.units key) as (λ o. unit_at ledger.units key ≡ o → fold step before (records_in records 1) ≡ option_map_or value o before) [
        | None ↦ λ found. still step (records_in records 1) before (λ r h b.
            let at = header_told r h in
            let out : same_unit at.0.key key ≡ false = no_true (same_unit at.0.key key)
            (λ same. let odd : None ≡ Some at.0 = sym found ∙ found_by at.0 key at.1 same in cc) in
            subst (λ x. step b x ≡ b) at.2 (says b at.0 ∙ ap (λ c. cond c (value at.0) b) out))
        | Some unit ↦ λ found.
            let here = found_unit ledger.units key unit found in
            let own : same_unit unit.key key ≡ true = subst (λ k. same_unit unit.key k ≡ true) here.1 (unit_refl unit.key) in
            once_told step (value unit) (records_in records 1) before
            (λ r h. let at = header_told r h in
            elim (same_unit at.0.key key) as (λ c. same_unit at.0.key key ≡ c → ((b : B) → step b r ≡ b) ⊎ ((b : B) → step b r ≡ value unit)) [
              | true ↦ λ is. inr (λ b.
                  let same : Some at.0 ≡ Some unit = sym (found_by at.0 key at.1 is) ∙ found in
                  let one : at.0 ≡ unit = cc in
                  subst (λ x. step b x ≡ value unit) at.2 (says b at.0 ∙ ap (λ c. cond c (value at.0) b) is ∙ ap value one))
              | false ↦ λ is. inl (λ b. subst (λ x. step b x ≡ b) at.2 (says b at.0 ∙ ap (λ c. cond c (value at.0) b) is))
            ] refl)
            (inr (header_of unit, header_there unit here.0, λ b. says b unit ∙ ap (λ c. cond c (value unit) b) own))
      ] refl

  pub counts_are : (unit : UnitOfWork) → Contains ledger.units unit → counts_at (records_in records 1) unit.key ≡ counts_for unit
  counts_are unit h =
      counts_fold unit.key no_counts (records_in records 1)
      ∙ headers_tell (told unit.key) counts_for unit.key (λ b u. refl) no_counts
      ∙ ap (λ o. option_map_or counts_for o no_counts) (unit_found ledger.units unit (keys_apart ledger law) h)

  pub numbers_are : (key : UnitKey) → numbers_at (records_in records 1) key ≡ option_map_or (λ (unit : UnitOfWork). unit.numbers) (unit_at ledger.units key) []
  numbers_are key = numbers_fold key [] (records_in records 1) ∙ headers_tell (numbers_told key) (λ (unit : UnitOfWork). unit.numbers) key (λ b u. refl) []

  no_second : (key : UnitKey) → ((unit : UnitOfWork) → Contains ledger.units unit → same_unit unit.key key ≡ true → nat_le 1 (length unit.parts.v2) ≡ false)
      → has_second (records_in records 1) key ≡ false
  no_second key none = none_pass (tells_second key) (records_in records 1) (λ r h.
      let at = header_told r h in
      subst (λ x. tells_second key x ≡ false) at.2
      (elim (same_unit at.0.key key) as (λ b. same_unit at.0.key key ≡ b → (b && nat_le 1 (length at.0.parts.v2)) ≡ false)
      [ true ↦ λ is. none at.0 at.1 is | false ↦ λ is. refl ] refl))

  some_second : (unit : UnitOfWork) (key : UnitKey) → unit_at ledger.units key ≡ Some unit
      → is_empty_part unit.parts.v2 ≡ not (has_second (records_in records 1) key)
  some_second unit key found =
      let here = found_unit ledger.units key unit found in
      let own : same_unit unit.key key ≡ true = subst (λ k. same_unit unit.key k ≡ true) here.1 (unit_refl unit.key) in
      elim (is_empty_part unit.parts.v2) as (λ b. is_empty_part unit.parts.v2 ≡ b → b ≡ not (has_second (records_in records 1) key)) [
        | true ↦ λ is. sym (ap not (no_second key (λ v at same.
            let both : Some v ≡ Some unit = sym (found_by v key at same) ∙ found in
            let one : v ≡ unit = cc in
            ap (λ (u : UnitOfWork). nat_le 1 (length u.parts.v2)) one ∙ some_effects unit.parts.v2 ∙ ap not is)))
        | false ↦ λ is. sym (ap not (any_contained (tells_second key) (records_in records 1) (header_of unit)
            (and_from (same_unit unit.key key) (nat_le 1 (length unit.parts.v2)) own (some_effects unit.parts.v2 ∙ ap not is))
            (header_there unit here.0)))
      ] refl

  -- the headers tell which units have a V2 part
  pub second_told : (key : UnitKey) → has_no_v2 ledger.units key ≡ not (has_second (records_in records 1) key)
  second_told key =
      elim (unit_at ledger.units key)
      as (λ o. unit_at ledger.units key ≡ o → is_empty_part (option_map_or (λ (unit : UnitOfWork). unit.parts.v2) o []) ≡ not
      (has_second (records_in records 1) key)) [
        | None ↦ λ found. sym (ap not (no_second key (λ unit at same. let odd : None ≡ Some unit = sym found ∙ found_by unit key at same in cc)))
        | Some unit ↦ λ found. some_second unit key found
      ] refl
