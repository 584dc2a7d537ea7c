-- The keys of a page rise.
use Rattle.std.proofs.Common.{◌≡◌, ℕ, zero, suc, true, false, cond, IsTrue, List, [], ◌∷◌, map, take, refl, sym, ap, ◌∙◌, subst, arith}
use Rattle.std.proofs.lemmas.Bool.{eqb-true}
use Rattle.std.specs.List.{filter}
use Rattle.std.specs.Ordering.{nat_cmp, is_lt, ordering_then}
use Rattle.std.specs.Cmp.Lexicographic.{slice_cmp}
use Rattle.std.specs.declared.cmp.Ordering.TheVariants.{Equal}
use Rattle.std.specs.Cmp.{nat_cmp_total, tied_itself}
use Rattle.std.specs.FinMap.Entries.{below_all, is_sorted}
use Rattle.std.proofs.lemmas.List.{length-take}
use Rattle.keeper_api.specs.declared.rows.Row.{Row}
use Rattle.keeper_api.specs.Rows.{Spot, spot_cmp, is_below, is_behind, row_of, RiseFrom, IsPage}
use Rattle.sorted_rows.proofs.lemmas.Places.{first_true, second_true}

abbrev Entries : Type 0
Entries = List (Spot × List ℕ)

same_cmp : (n : ℕ) → nat_cmp n n ≡ Equal
same_cmp n = tied_itself nat_cmp_total n

-- in one table the keys alone are compared
key_below : (table : ℕ) (low : List ℕ) (spot : Spot) → spot.0 ≡ table → IsTrue (is_lt (spot_cmp (table, low) spot)) → IsTrue (is_below low spot.1)
key_below table low spot same below =
    sym (ap (λ r. is_lt (ordering_then r (slice_cmp nat_cmp low spot.1))) (ap (nat_cmp table) same ∙ same_cmp table)) ∙ below

table_of : (table : ℕ) (after : List ℕ) (e : Spot × List ℕ) → IsTrue (is_behind table after e) → e.0.0 ≡ table
table_of table after e h = eqb-true _ _ (first_true _ _ h)

-- rows behind one key of the table
abbrev behind : ℕ → List ℕ → Entries → List Row
behind table after es = map row_of (filter (is_behind table after) es)

rises_above : (table : ℕ) (after low : List ℕ) (es : Entries) → IsTrue (below_all spot_cmp (table, low) es) → IsTrue (is_sorted spot_cmp es)
    → RiseFrom low (behind table after es)
rises_above table after low [] below sorted = tt
rises_above table after low (e ∷ es) below sorted =
    elim (is_behind table after e)
    as (λ b. is_behind table after e ≡ b → RiseFrom low (map row_of (cond b (e ∷ filter (is_behind table after) es) (filter (is_behind table after) es)))) [
      | true ↦ λ h.
          let same : e.0.0 ≡ table = table_of table after e h in
          let spot : e.0 ≡ (table, e.0.1) = λ i. (same i, e.0.1) in (
            key_below table low e.0 same (first_true _ _ below),
            rises_above table after e.0.1 es
                (subst (λ s. IsTrue (below_all spot_cmp s es)) spot (first_true _ _ sorted)) (second_true _ _ sorted),
          )
      | false ↦ λ h. rises_above table after low es (second_true _ _ below) (second_true _ _ sorted)
    ] refl

rises : (table : ℕ) (after : List ℕ) (es : Entries) → IsTrue (is_sorted spot_cmp es) → RiseFrom after (behind table after es)
rises table after [] sorted = tt
rises table after (e ∷ es) sorted =
    elim (is_behind table after e)
    as (λ b. is_behind table after e ≡ b → RiseFrom after (map row_of (cond b (e ∷ filter (is_behind table after) es) (filter (is_behind table after) es)))) [
      | true ↦ λ h.
          let same : e.0.0 ≡ table = table_of table after e h in
          let spot : e.0 ≡ (table, e.0.1) = λ i. (same i, e.0.1) in (
            second_true _ _ h,
            rises_above table after e.0.1 es (subst (λ s. IsTrue (below_all spot_cmp s es)) spot (first_true _ _ sorted))
                (second_true _ _ sorted),
          )
      | false ↦ λ h. rises table after es (second_true _ _ sorted)
    ] refl

first_ones : (n : ℕ) (low : List ℕ) (rows : List Row) → RiseFrom low rows → RiseFrom low (take n rows)
first_ones zero low rows h = tt
first_ones (suc n) low [] h = tt
first_ones (suc n) low (row ∷ rows) h = (h.0, first_ones n row.key rows h.1)

pub is_page : (table : ℕ) (after : List ℕ) (n : ℕ) (es : Entries) → IsTrue (is_sorted spot_cmp es)
    → IsPage after n (take n (map row_of (filter (is_behind table after) es)))
is_page table after n es sorted = record {
  few = omega (arith, length-take n (map row_of (filter (is_behind table after) es)));
  rise = first_ones n after _ (rises table after es sorted);
}
