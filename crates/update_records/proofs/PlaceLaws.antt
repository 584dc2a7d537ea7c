-- A row's key says what its record is named by.
use Rattle.std.proofs.Common.{◌≡◌, ℕ, cond, eqb, List, Option, Some, refl, sym, ap, ◌∙◌}
use Rattle.keeper_api.specs.Batch.{spot_of}
use Rattle.keeper_api.specs.Rows.{Spot}
use Rattle.update_records.specs.declared.stored.Record.{Record}
use Rattle.update_records.specs.declared.stored.Record.TheVariants as rec
use Rattle.byte_fields.specs.Fields.{◌>>=◌}
use Rattle.update_records.specs.Spelling.{IsRecord, record_row}
use Rattle.update_records.specs.Places.{Place, OfStart, OfUnit, OfPart, OfStep, OfMark, OfLevel, OfBusiness, OfLock, place_of}
use Rattle.update_records.specs.Reading.{unit_key, module_key, step_key, mark_key, level_key, business_key, lock_key}
use Rattle.byte_fields.proofs.lemmas.FieldLaws.{some_is}
use Rattle.update_records.proofs.RowLaws.{is_level_key, is_business_key}
use Rattle.update_records.proofs.UnitRowLaws.{is_unit_key, is_module_key, is_lock_key}
use Rattle.update_records.proofs.StepRowLaws.{is_step_key, step_key-value}
use Rattle.update_records.proofs.MarkRowLaws.{is_mark_key}

place_in : ℕ → List ℕ → Option Place
place_in table key =
    cond (eqb table 0) (Some OfStart)
    (cond (eqb table 1) (unit_key key >>= λ unit. Some (OfUnit unit))
    (cond (eqb table 2) (module_key key >>= λ k. Some (OfPart k.0 k.1))
    (cond (eqb table 3) (step_key key >>= λ k. Some (OfStep k.0.0 k.0.1 k.1))
    (cond (eqb table 4) (mark_key key >>= λ seq. Some (OfMark seq))
    (cond (eqb table 5) (level_key key >>= λ k. Some (OfLevel k.0 k.1))
    (cond (eqb table 6) (business_key key >>= λ k. Some (OfBusiness k.0 k.1))
    (lock_key key >>= λ k. Some (OfLock k.0 k.1))))))))

abbrev in_spot : Spot → Option Place
in_spot spot = place_in spot.0 spot.1

spot_says : (r : Record) → IsRecord r → in_spot (spot_of (record_row r)) ≡ Some (place_of r)
unfolding place_in
spot_says (rec.Meta start marks) is = refl
spot_says (rec.Header unit user v1 v2 locks numbers) is = rw (is_unit_key.again unit is.0) refl
spot_says (rec.Module unit part count) is = rw (is_module_key.again (unit, part) (is.0, is.1)) refl
spot_says (rec.Step unit part index effect) is = rw (step_key-value unit part index, is_step_key.again ((unit, part), index) ((is.0, is.1), is.2)) refl
spot_says (rec.Mark m) is = rw (is_mark_key.again m.seq is.0) refl
spot_says (rec.Level object nr from to level buffered) is = rw (is_level_key.again (object, nr) (is.0, is.1)) refl
spot_says (rec.Business table key text) is = rw (is_business_key.again (table, key) (is.0, is.1)) refl
spot_says (rec.Lock unit index table mode count pattern) is = rw (is_lock_key.again (unit, index) (is.0, is.1)) refl

-- two rows in one place are of records with one name
pub one_place : (r s : Record) → IsRecord r → IsRecord s → spot_of (record_row r) ≡ spot_of (record_row s) → place_of r ≡ place_of s
one_place r s is_r is_s same = some_is (place_of r) (place_of s) (sym (spot_says r is_r) ∙ ap in_spot same ∙ spot_says s is_s)
