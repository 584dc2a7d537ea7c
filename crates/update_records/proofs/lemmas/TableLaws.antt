-- The rows of every table.
use Rattle.std.proofs.Common.{◌≡◌, ℕ, Bool, true, false, cond, eqb, List, Option, Some, None, Result, Ok, Err, refl, sym, ap, ◌∙◌}
use Rattle.std.specs.Prelude.{IfOk}
use Rattle.std.proofs.lemmas.Bool.{eqb-true}
use Rattle.keeper_api.specs.declared.rows.Change.TheVariants.{Put as PutRow}
use Rattle.byte_fields.specs.declared.fault.ReadFault.{ReadFault}
use Rattle.byte_fields.specs.declared.fault.ReadFault.TheVariants as faults
use Rattle.update_records.specs.declared.stored.Record.{Record}
use Rattle.update_records.specs.declared.stored.Record.TheVariants as rec
use Rattle.byte_fields.specs.Fields.{Gives}
use Rattle.update_records.specs.Spelling.{IsRecord, record_row, Spells}
use Rattle.update_records.specs.Reading.{meta_at, header_at, module_at, step_at, mark_at, level_at, business_at, lock_at, row_at}
use Rattle.byte_fields.proofs.lemmas.FieldLaws.{IsBytes, some_is}
use Rattle.update_records.proofs.RowLaws.{meta_takes, meta_again, level_takes, level_again, business_takes, business_again}
use Rattle.update_records.proofs.UnitRowLaws.{header_takes, header_again, module_takes, module_again, lock_takes, lock_again}
use Rattle.update_records.proofs.StepRowLaws.{step_takes, step_again}
use Rattle.update_records.proofs.MarkRowLaws.{mark_takes, mark_again}

-- the row of one table, or of the others
of_table : (Q : Option Record → Type 0) (table n : ℕ) (here there : Option Record) → (table ≡ n → Q here) → Q there → Q (cond (eqb table n) here there)
of_table Q table n here there this others =
    elim (eqb table n) as (λ (b : Bool). eqb table n ≡ b → Q (cond b here there)) [
      | true ↦ λ is. this (eqb-true table n is)
      | false ↦ λ is. others
    ] refl

pub table_takes : (table : ℕ) (key value : List ℕ) (r : Record) → IsBytes key → IsBytes value → row_at table key value ≡ Some r → Spells table key value r
unfolding row_at
table_takes table key value r kf vf =
    let Q : Option Record → Type 0 = λ o. o ≡ Some r → Spells table key value r in
    let one : (n : ℕ) (here : Option Record) → (here ≡ Some r → IsRecord r × (record_row r ≡ PutRow n key value)) → table ≡ n → Q here =
    λ n here takes is e. (let t = takes e in record { grammar = t.0; spelled = t.1 ∙ ap (λ (k : ℕ). PutRow k key value) (sym is) }) in
    of_table Q table 0 (meta_at key value) _ (one 0 (meta_at key value) (meta_takes key value r kf vf))
    (of_table Q table 1 (header_at key value) _ (one 1 (header_at key value) (header_takes key value r kf vf))
    (of_table Q table 2 (module_at key value) _ (one 2 (module_at key value) (module_takes key value r kf vf))
    (of_table Q table 3 (step_at key value) _ (one 3 (step_at key value) (step_takes key value r kf vf))
    (of_table Q table 4 (mark_at key value) _ (one 4 (mark_at key value) (mark_takes key value r kf vf))
    (of_table Q table 5 (level_at key value) _ (one 5 (level_at key value) (level_takes key value r kf vf))
    (of_table Q table 6 (business_at key value) _ (one 6 (business_at key value) (business_takes key value r kf vf))
    (of_table Q table 7 (lock_at key value) None (one 7 (lock_at key value) (lock_takes key value r kf vf)) (λ e. absurd cc))))))))

same_row : (t : ℕ) (k v : List ℕ) (table : ℕ) (key value : List ℕ) (r : Record) → row_at t k v ≡ Some r → PutRow t k v ≡ PutRow table key value
    → row_at table key value ≡ Some r
same_row t k v table key value r h e =
    let table-is : t ≡ table = cc in
    let key-is : k ≡ key = cc in
    let value-is : v ≡ value = cc in
    rw (← table-is, ← key-is, ← value-is) h

read_again : (r : Record) (table : ℕ) (key value : List ℕ) → IsRecord r → record_row r ≡ PutRow table key value → row_at table key value ≡ Some r
unfolding row_at
read_again (rec.Meta start marks) table key value is e = same_row _ _ _ table key value _ (meta_again start marks is) e
read_again (rec.Header unit user v1 v2 locks numbers) table key value is e = same_row _ _ _ table key value _ (header_again unit user v1 v2 locks numbers is) e
read_again (rec.Module unit part count) table key value is e = same_row _ _ _ table key value _ (module_again unit part count is) e
read_again (rec.Step unit part index effect) table key value is e = same_row _ _ _ table key value _ (step_again unit part index effect is) e
read_again (rec.Mark m) table key value is e = same_row _ _ _ table key value _ (mark_again m is) e
read_again (rec.Level object nr from to level buffered) table key value is e =
    same_row _ _ _ table key value _ (level_again object nr from to level buffered is) e
read_again (rec.Business name k text) table key value is e = same_row _ _ _ table key value _ (business_again name k text is) e
read_again (rec.Lock unit index name mode count pattern) table key value is e =
    same_row _ _ _ table key value _ (lock_again unit index name mode count pattern is) e

pub table_again : (table : ℕ) (key value : List ℕ) (r : Record) → Spells table key value r → row_at table key value ≡ Some r
table_again table key value r is = read_again r table key value is.grammar is.spelled

-- ---- what a reading says

pub is_read : (table : ℕ) (key value : List ℕ) (result : Result Record ReadFault) → IsBytes key → IsBytes value → Gives (λ r. r) result (row_at table key value)
    → IfOk result (Spells table key value)
is_read table key value (Ok r) kf vf e = table_takes table key value r kf vf e
is_read table key value (Err fault) kf vf e = tt

pub is_bad : (table : ℕ) (key value : List ℕ) (result : Result Record ReadFault) → Gives (λ r. r) result (row_at table key value) → result ≡ Err faults.Bad
    → (r : Record) → Spells table key value r → ⊥
is_bad table key value (Ok read) e bad r is = absurd cc
is_bad table key value (Err faults.Bad) e bad r is = let again = table_again table key value r is in absurd cc
is_bad table key value (Err faults.NoMemory) e bad r is = absurd cc

pub is_exact : (table : ℕ) (key value : List ℕ) (result : Result Record ReadFault) → Gives (λ r. r) result (row_at table key value) → (r : Record)
    → Spells table key value r → IfOk result (λ read. read ≡ r)
is_exact table key value (Ok read) e r is = let again = table_again table key value r is in some_is read r (sym e ∙ again)
is_exact table key value (Err fault) e r is = tt

-- a row spells one record at most
pub one_record : (table : ℕ) (key value : List ℕ) (r s : Record) → Spells table key value r → Spells table key value s → r ≡ s
one_record table key value r s is_r is_s = some_is r s (sym (table_again table key value r is_r) ∙ table_again table key value s is_s)
