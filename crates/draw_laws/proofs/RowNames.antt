-- The row of an interval is found by its name.
use Rattle.std.proofs.Common.{◌≡◌, ℕ, true, false, cond, List, [], ◌∷◌, map, Some, Decides, refl, sym, ap, subst, ◌∙◌}
use Rattle.std.specs.Cmp.{Equal-is, eq_by_cmp_equiv}
use Rattle.std.specs.Cmp.Lexicographic.{slice_cmp, nat_list_cmp_total}
use Rattle.std.specs.FinMap.{IsAntisymmetric, find, nat_cmp-IsAntisymmetric, slice_cmp-IsAntisymmetric}
use Rattle.std.specs.List.{find as first}
use Rattle.std.specs.Option.{option_map}
use Rattle.std.specs.Ordering.{eq_by_cmp, nat_cmp}
use Rattle.std.proofs.lemmas.Bool.Decides.{same_from_decides}
use Rattle.module_effects.proofs.lemmas.Tables.{same_row, same_row-Decides}
use Rattle.module_effects.specs.Rows.{RowName, row_cmp}
use Rattle.record_laws.proofs.Keyed.{unname, unname_name}
use Rattle.update_records.specs.Intervals.{entry_of, level_of, named}
use Rattle.update_records.specs.RecordRows.{row_name}
use Rattle.update_records.specs.declared.stored.StoredInterval.{StoredInterval}
use Rattle.ledger_steps.specs.Intervals.{is_called, key_cmp}

abbrev pub Bytes : Type 0
Bytes = List ℕ

pub exact_bytes : IsAntisymmetric (slice_cmp nat_cmp)
exact_bytes = slice_cmp-IsAntisymmetric nat_cmp-IsAntisymmetric

pub key-Decides : (k l : Bytes) → Decides (eq_by_cmp (slice_cmp nat_cmp) k l) (k ≡ l)
key-Decides k l = (
  λ t. exact_bytes k l ((Equal-is (slice_cmp nat_cmp k l)).0 t),
  λ e. subst (λ r. eq_by_cmp (slice_cmp nat_cmp) k r ≡ true) e ((eq_by_cmp_equiv nat_list_cmp_total).refl k),
)

pub same_name : (a b : RowName) → row_name a ≡ row_name b → a ≡ b
same_name a b e = sym (unname_name a) ∙ ap unname e ∙ unname_name b

pub called-Decides : (a b : RowName) → Decides (eq_by_cmp key_cmp a b) (a ≡ b)
called-Decides a b = (
  λ t. same_name a b ((key-Decides (row_name a) (row_name b)).0 t),
  λ e. (key-Decides (row_name a) (row_name b)).1 (ap row_name e),
)

pub called_row : (a b : RowName) → eq_by_cmp key_cmp a b ≡ same_row a b
called_row a b = same_from_decides _ _ (called-Decides a b) (same_row-Decides a b)

pub first_called : (name : RowName) (items : List StoredInterval) → find row_cmp name (map entry_of items) ≡ option_map level_of (first (is_called name) items)
first_called name [] = refl
first_called name (j ∷ items) =
    ap (λ b. cond b (Some (level_of j)) (find row_cmp name (map entry_of items))) (sym (called_row name (named j)))
    ∙ elim (is_called name j)
    as (λ b. cond b (Some (level_of j)) (find row_cmp name (map entry_of items)) ≡ option_map level_of (cond b (Some j) (first (is_called name) items)))
    [ true ↦ refl | false ↦ first_called name items ]
