-- Laws of tables.
use Rattle.std.proofs.Common.{◌≡◌, ℕ, Bool, true, false, cond, List, Option, Some, None, Decides, refl, sym, ap, ◌∙◌, subst}
use Rattle.std.specs.Ordering.{nat_cmp, eq_by_cmp}
use Rattle.std.specs.Cmp.Lexicographic.{slice_cmp, nat_list_cmp_total}
use Rattle.std.specs.Cmp.{IsTotalOrder, on_total, then_total, Equal-is, eq_by_cmp_equiv}
use Rattle.std.specs.FinMap.{IsAntisymmetric, nat_cmp-IsAntisymmetric, slice_cmp-IsAntisymmetric, get, get-insert, get-remove, same_map}
use Rattle.std.proofs.lemmas.Map.Lookups.{exact_pairs}
use Rattle.std.proofs.lemmas.Slice.Eq.{bytes_eq-Decides}
use Rattle.std.proofs.lemmas.Bool.Decides.{same_from_decides, Decides-and, Decides-like}
use Rattle.module_effects.specs.Rows.{RowName, Tables, row_cmp, with_row}
use Rattle.module_effects.specs.Spots.{row_at, is_at}
use Rattle.module_effects.specs.declared.spot.Spot.{Spot}

pub rows_total : IsTotalOrder row_cmp
rows_total = then_total (on_total (λ s. s.0) nat_list_cmp_total) (on_total (λ s. s.1) nat_list_cmp_total)

pub exact_rows : IsAntisymmetric row_cmp
exact_rows = exact_pairs (slice_cmp nat_cmp) (slice_cmp nat_cmp) (slice_cmp-IsAntisymmetric nat_cmp-IsAntisymmetric)
    (slice_cmp-IsAntisymmetric nat_cmp-IsAntisymmetric)

abbrev pub same_row : RowName → RowName → Bool
same_row a b = eq_by_cmp row_cmp a b

pub same_row-Decides : (a b : RowName) → Decides (same_row a b) (a ≡ b)
same_row-Decides a b =
    (λ t. exact_rows a b ((Equal-is (row_cmp a b)).0 t), λ e. subst (λ r. same_row a r ≡ true) e ((eq_by_cmp_equiv rows_total).refl a))

pub is_at-Decides : (row : RowName) (spot : Spot) → Decides (is_at row spot) (row ≡ row_at spot)
is_at-Decides row spot =
    Decides-like (is_at row spot) (λ p. ap (λ (b : List ℕ). (row.0, b)) (sym p.1) ∙ ap (λ (a : List ℕ). (a, spot.key)) (sym p.0))
    (λ e. (sym (ap (λ (r : RowName). r.0) e), sym (ap (λ (r : RowName). r.1) e)))
    (Decides-and _ _ (bytes_eq-Decides spot.table row.0) (bytes_eq-Decides spot.key row.1))

pub get-with_row : (tables : Tables) (row : RowName) (text : Option (List ℕ)) (q : RowName)
    → get (with_row tables row text) q ≡ cond (same_row q row) text (get tables q)
get-with_row tables row None q = get-remove rows_total tables row q
get-with_row tables row (Some text) q = get-insert rows_total tables row text q

pub get-with_spot : (tables : Tables) (spot : Spot) (q : RowName) → get (with_row tables (row_at spot) spot.text) q ≡ cond (is_at q spot) spot.text
    (get tables q)
get-with_spot tables spot q =
    get-with_row tables (row_at spot) spot.text q
    ∙ ap (λ b. cond b spot.text (get tables q)) (same_from_decides _ _ (same_row-Decides q (row_at spot)) (is_at-Decides q spot))

cond_twice : {A : Type 0} (b : Bool) (x y z : A) → cond b x (cond b y z) ≡ cond b x z
cond_twice true x y z = refl
cond_twice false x y z = refl

-- the later text of a row counts
pub with_row-with_row : (tables : Tables) (row : RowName) (a b : Option (List ℕ)) → with_row (with_row tables row a) row b ≡ with_row tables row b
with_row-with_row tables row a b =
    same_map rows_total exact_rows _ _ (λ q.
    get-with_row (with_row tables row a) row b q
    ∙ ap (λ t. cond (same_row q row) b t) (get-with_row tables row a q)
    ∙ cond_twice (same_row q row) b a (get tables q)
    ∙ sym (get-with_row tables row b q))

cond_swap : {A : Type 0} (p q : Bool) (x y z : A) → (p ≡ true → q ≡ true → ⊥) → cond p x (cond q y z) ≡ cond q y (cond p x z)
cond_swap true true x y z h = absurd (h refl refl)
cond_swap true false x y z h = refl
cond_swap false q x y z h = refl

-- texts of two rows are set in either order
pub with_row_swap : (tables : Tables) (r s : RowName) (a b : Option (List ℕ)) → (r ≡ s → ⊥)
    → with_row (with_row tables r a) s b ≡ with_row (with_row tables s b) r a
with_row_swap tables r s a b apart =
    same_map rows_total exact_rows _ _ (λ q.
    get-with_row (with_row tables r a) s b q
    ∙ ap (λ t. cond (same_row q s) b t) (get-with_row tables r a q)
    ∙ cond_swap (same_row q s) (same_row q r) b a (get tables q) (λ x y. apart (sym ((same_row-Decides q r).0 y) ∙ (same_row-Decides q s).0 x))
    ∙ ap (λ t. cond (same_row q r) a t) (sym (get-with_row tables s b q))
    ∙ sym (get-with_row (with_row tables s b) r a q))

cond_same : {A : Type 0} (b : Bool) (x y : A) → (b ≡ true → x ≡ y) → cond b x y ≡ y
cond_same true x y h = h refl
cond_same false x y h = refl

-- to set what a row has changes nothing
pub with_row_same : (tables : Tables) (row : RowName) (text : Option (List ℕ)) → get tables row ≡ text → with_row tables row text ≡ tables
with_row_same tables row text has =
    same_map rows_total exact_rows _ _ (λ q.
    get-with_row tables row text q
    ∙ cond_same (same_row q row) text (get tables q) (λ t. sym has ∙ ap (get tables) (sym ((same_row-Decides q row).0 t))))
