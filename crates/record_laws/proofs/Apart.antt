-- No row of a unit is changed twice by its batch.
use Rattle.std.proofs.Common.{◌≡◌, ℕ, ◌+◌, ◌≤◌, ◌<◌, ◌^◌, Bool, true, false, ◌&&◌, nat_eq, List, [], ◌∷◌, ◌++◌, length, refl, ap, subst, ◌∙◌, arith}
use Rattle.std.specs.List.{AllByRecursion}
use Rattle.std.proofs.lemmas.Map.Keys.{IsDistinct-cons}
use Rattle.std.proofs.Common.{◌||◌, nat_lt}
use Rattle.std.proofs.lemmas.Bool.{eqb-true}
use Rattle.keeper_api.specs.declared.rows.Change.{Change}
use Rattle.keeper_api.specs.Rows.{Spot}
use Rattle.keeper_api.specs.Batch.{spot_of, is_same_spot, IsBatch}
use Rattle.keeper_api.specs.RowLaws.{InTables, AreApart}
use Rattle.enq_base.specs.declared.owner.UnitKey.{UnitKey}
use Rattle.enq_base.specs.declared.unit.Effect.{Effect}
use Rattle.lock_entry.specs.declared.entry.Entry.{Entry}
use Rattle.update_records.specs.declared.records.Mark.{Mark}
use Rattle.update_records.specs.declared.records.Unit.{Unit as UnitOfWork}
use Rattle.update_records.specs.Ledger.{is_own, has_bytes}
pub use Rattle.update_records.proofs.lemmas.Distinct.{spots, IsApart, AllApart, AreDistinct, not_same, none_distinct, distinct_append}
use Rattle.update_records.proofs.lemmas.Distinct.{all_append, unit_distinct as rows_distinct}
use Rattle.update_records.specs.RecordRows.{header_row, unit_rows, step_rows, part_rows, mark_row, lock_rows, meta_row}
use Rattle.record_laws.proofs.Books.{is_unit_table, is_mark_table, is_meta_table, units_and_meta, units_and_marks, marks_and_meta, unit_in}
use Rattle.record_laws.proofs.Own.{AreOwn}

table_apart : (p q : ℕ → Bool) → AreApart p q → (x : Change) → p (spot_of x).0 ≡ true → (ys : List Change) → InTables q ys
    → AllByRecursion (λ y. is_same_spot (spot_of x) y ≡ false) (spots ys)
table_apart p q apart x in_p [] in_q = tt
table_apart p q apart x in_p (y ∷ ys) in_q =
    (not_same (spot_of x) (spot_of y) (λ e. apart (spot_of x).0 in_p (ap (λ (s : Spot). q s.0) e ∙ in_q.0)), table_apart p q apart x in_p ys in_q.1)

pub tables_apart : (p q : ℕ → Bool) → AreApart p q → (xs ys : List Change) → InTables p xs → InTables q ys → AllApart xs ys
tables_apart p q apart [] ys in_p in_q = tt
tables_apart p q apart (x ∷ xs) ys in_p in_q = (table_apart p q apart x in_p.0 ys in_q, tables_apart p q apart xs ys in_p.1 in_q)

pub at_number : (p : ℕ → Bool) (k n : ℕ) → nat_eq n k ≡ true → p n ≡ true → p k ≡ true
at_number p k n is h = subst (λ m. p m ≡ true) (eqb-true n k is) h

pub closing_distinct : (start n : ℕ) (m : Mark) → AreDistinct (mark_row m ∷ meta_row start n ∷ [])
closing_distinct start n m =
    IsDistinct-cons is_same_spot (spot_of (mark_row m)) (spots (meta_row start n ∷ []))
    (table_apart is_mark_table is_meta_table marks_and_meta (mark_row m) refl (meta_row start n ∷ []) (refl, tt))
    (IsDistinct-cons is_same_spot (spot_of (meta_row start n)) [] tt none_distinct)

abbrev pub is_closing_table : ℕ → Bool
is_closing_table n = nat_eq n 4 || nat_eq n 0

units_and_closing : AreApart is_unit_table is_closing_table
units_and_closing n a b = elim (nat_eq n 4) as (λ t. nat_eq n 4 ≡ t → (t || nat_eq n 0) ≡ true → ⊥) [
  | true ↦ λ e h. units_and_marks n a e
  | false ↦ λ e h. units_and_meta n a h
] refl b

steps_own : (key : UnitKey) (part index : ℕ) (effects : List Effect) → AreOwn (step_rows key part index effects)
steps_own key part index [] = tt
steps_own key part index (effect ∷ effects) = (refl, steps_own key part (index + 1) effects)

part_own : (key : UnitKey) (part : ℕ) (effects : List Effect) → AreOwn (part_rows key part effects)
part_own key part [] = tt
part_own key part (effect ∷ effects) = (refl, steps_own key part 1 (effect ∷ effects))

locks_own : (key : UnitKey) (index : ℕ) (entries : List Entry) → AreOwn (lock_rows key index entries)
locks_own key index [] = tt
locks_own key index (entry ∷ entries) = (refl, locks_own key (index + 1) entries)

pub own_append : (xs ys : List Change) → AreOwn xs → AreOwn ys → AreOwn (xs ++ ys)
own_append xs ys a b = all_append (λ c. is_own (spot_of c) ≡ true) xs ys a b

pub unit_own : (unit : UnitOfWork) (start n : ℕ) (m : Mark) → AreOwn (unit_rows unit ++ mark_row m ∷ meta_row start n ∷ [])
unit_own unit start n m =
    own_append (unit_rows unit) (mark_row m ∷ meta_row start n ∷ [])
    (own_append (header_row unit ∷ part_rows unit.key 1 unit.parts.v1 ++ part_rows unit.key 2 unit.parts.v2) (lock_rows unit.key 1 unit.entries)
    (own_append (header_row unit ∷ part_rows unit.key 1 unit.parts.v1) (part_rows unit.key 2 unit.parts.v2) (refl, part_own unit.key 1 unit.parts.v1)
    (part_own unit.key 2 unit.parts.v2)) (locks_own unit.key 1 unit.entries))
    (refl, (refl, tt))

key_of : (a : Bool) (key : List ℕ) → (a && has_bytes key) ≡ true → 1 ≤ length key
key_of true [] h = cc
key_of true (b ∷ bs) h = omega arith
key_of false key h = cc

pub own_keys : (batch : List Change) → AreOwn batch → AllByRecursion (λ change. 1 ≤ length (spot_of change).1) batch
own_keys [] h = tt
own_keys (c ∷ batch) h = (key_of (nat_lt (spot_of c).0 8) (spot_of c).1 h.0, own_keys batch h.1)

-- the changes that record a unit change no row twice
pub unit_changes : (unit : UnitOfWork) → length unit.entries < 2 ^ 32 → length unit.parts.v1 + length unit.parts.v2 ≤ 200 → (start n : ℕ) (m : Mark)
    → IsBatch (unit_rows unit ++ mark_row m ∷ meta_row start n ∷ [])
unit_changes unit few_locks few start n m = record {
  keys = own_keys (unit_rows unit ++ mark_row m ∷ meta_row start n ∷ []) (unit_own unit start n m);
  distinct = distinct_append (unit_rows unit) (mark_row m ∷ meta_row start n ∷ []) (rows_distinct unit few few_locks) (closing_distinct start n m)
      (tables_apart is_unit_table is_closing_table units_and_closing (unit_rows unit) (mark_row m ∷ meta_row start n ∷ [])
      (unit_in is_unit_table refl refl refl refl unit) (refl, (refl, tt)));
}
