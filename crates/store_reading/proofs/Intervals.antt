-- Stored intervals of which none is wrong agree with the numbers that were committed.
use Rattle.std.proofs.Common.{◌≡◌, ◌⊎◌, inl, inr, Bool, true, false, cond, ◌&&◌, List, [], ◌∷◌, Option, Some, None, IfSome, refl, sym, subst}
use Rattle.std.specs.Prelude.{IsSome}
use Rattle.std.specs.FinMap.{find, get, get-from_entries}
use Rattle.std.specs.List.{AllByRecursion, flat_map, list_all}
use Rattle.std.specs.Str.{bytes_eq}
use Rattle.std.proofs.lemmas.Bool.{and_parts, or_cases}
use Rattle.std.proofs.lemmas.List.Elements.{All-from_recursion}
use Rattle.enq_base.specs.declared.unit.Num.{Num as Number}
use Rattle.lock_entry.proofs.lemmas.Naming.{bytes_eq-same}
use Rattle.module_effects.specs.Rows.{RowName, row_cmp}
use Rattle.module_effects.proofs.lemmas.Tables.{rows_total, same_row, same_row-Decides}
use Rattle.update_records.specs.Business.{interval_of}
use Rattle.update_records.specs.Ledger.{IsRightLevel, LevelsAgree}
use Rattle.update_records.specs.RecordRows.{Level}
use Rattle.update_records.specs.declared.stored.Record.{Record}
use Rattle.update_records.specs.declared.stored.Record.TheVariants as rec
use Rattle.store_reading.specs.Intervals.{has_level, missing_level}
use Rattle.store_reading.specs.Lawful.{IsRightRow, level_in}
use Rattle.store_reading.specs.Stores.{level_entry, levels_in}
use Rattle.store_reading.specs.declared.rules.Place.{Place}

abbrev found : RowName → List Record → Option Level
found name levels = find row_cmp name (flat_map level_entry levels)

right_found : (numbers : List Number) (levels : List Record) → AllByRecursion (IsRightRow numbers) levels → (name : RowName)
    → IfSome (found name levels) (IsRightLevel name numbers)
right_found numbers [] all name = tt
right_found numbers (rec.Level object nr from to level buffered ∷ levels) all name =
    elim (same_row name (object, nr))
    as (λ b. same_row name (object, nr) ≡ b → IfSome (cond b (Some (level_in from to level buffered)) (found name levels)) (IsRightLevel name numbers)) [
      | true ↦ λ e. subst (λ n. IsRightLevel n numbers (level_in from to level buffered)) (sym ((same_row-Decides name (object, nr)).0 e)) all.0
      | false ↦ λ e. right_found numbers levels all.1 name
    ] refl
right_found numbers (r ∷ levels) all name = absurd all.0

some_here : (b : Bool) (x : Level) (rest : Option Level) → (b ≡ true) ⊎ IsSome rest → IsSome (cond b (Some x) rest)
some_here true x rest h = refl
some_here false x rest (inl e) = cc
some_here false x rest (inr h) = h

level_found : (name : RowName) (levels : List Record) → has_level levels name ≡ true → IsSome (found name levels)
level_found name [] h = cc
level_found name (rec.Level object nr from to level buffered ∷ levels) h =
    some_here (same_row name (object, nr)) (level_in from to level buffered) (found name levels)
    (elim (or_cases (bytes_eq object name.0 && bytes_eq nr name.1) (has_level levels name) h)
    as (λ _. (same_row name (object, nr) ≡ true) ⊎ IsSome (found name levels)) [
      | inl e ↦
          let both = and_parts (bytes_eq object name.0) (bytes_eq nr name.1) e in
          let first = bytes_eq-same object name.0 both.0 in
          let second = bytes_eq-same nr name.1 both.1 in
          let same : name ≡ (object, nr) = sym (λ i. (first i, second i)) in
          inl ((same_row-Decides name (object, nr)).1 same)
      | inr e ↦ inr (level_found name levels e)
    ])
level_found name (r ∷ levels) h = level_found name levels h

none_missing : (b : Bool) (place : Place) → cond b None (Some place) ≡ None → b ≡ true
none_missing true place h = refl
none_missing false place h = cc

all_stored : (levels : List Record) (numbers : List Number) → list_all (λ num. has_level levels (interval_of num)) numbers ≡ true
    → AllByRecursion (λ num. IsSome (get (levels_in levels) (interval_of num))) numbers
all_stored levels [] h = tt
all_stored levels (num ∷ numbers) h =
    let both = and_parts (has_level levels (interval_of num)) (list_all (λ n. has_level levels (interval_of n)) numbers) h in (
      subst IsSome (sym (get-from_entries rows_total (flat_map level_entry levels) (interval_of num)))
          (level_found (interval_of num) levels both.0),
      all_stored levels numbers both.1,
    )

pub levels_agree : (levels : List Record) (numbers : List Number) → AllByRecursion (IsRightRow numbers) levels → missing_level levels numbers ≡ None
    → LevelsAgree (levels_in levels) numbers
levels_agree levels numbers all missing = record {
  right = λ name. subst (λ x. IfSome x (IsRightLevel name numbers)) (sym (get-from_entries rows_total (flat_map level_entry levels) name))
      (right_found numbers levels all name);
  stored = All-from_recursion (λ num. IsSome (get (levels_in levels) (interval_of num))) numbers
      (all_stored levels numbers (none_missing (list_all (λ num. has_level levels (interval_of num)) numbers) _ missing));
}
