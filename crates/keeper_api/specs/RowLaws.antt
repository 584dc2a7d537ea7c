-- Laws of rows and of changes, for the proofs of other crates.
use Rattle.std.specs.Prelude.{ℕ, ◌≡◌, Bool, true, false, cond, List, [], ◌∷◌, ◌++◌, Option, Some, None}
use Rattle.std.proofs.Common.{refl, sym, ap, ◌∙◌}
use Rattle.std.specs.List.{AllByRecursion}
use Rattle.std.specs.Ordering.{nat_cmp, eq_by_cmp, is_eq}
use Rattle.std.specs.declared.cmp.Ordering.{Ordering}
use Rattle.std.specs.declared.cmp.Ordering.TheVariants.{Less, Equal, Greater}
use Rattle.std.specs.Cmp.Lexicographic.{slice_cmp, nat_list_cmp_total}
use Rattle.std.specs.Cmp.{IsTotalOrder, nat_cmp_total, on_total, then_total}
use Rattle.std.specs.FinMap.{IsAntisymmetric, nat_cmp-IsAntisymmetric, slice_cmp-IsAntisymmetric, get, get-insert}
use Rattle.std.specs.FinMap.{get-remove, same_map}
use Rattle.std.proofs.lemmas.Map.Lookups.{exact_pairs}
use Rattle.keeper_api.specs.declared.rows.Change.{Change}
use Rattle.keeper_api.specs.declared.rows.Change.TheVariants.{Put, Del}
use Rattle.keeper_api.specs.Rows.{Spot, spot_cmp, Rows}
use Rattle.keeper_api.specs.Batch.{spot_of, changed_once, changed}

pub spots_total : IsTotalOrder spot_cmp
spots_total = then_total (on_total (λ s. s.0) nat_cmp_total) (on_total (λ s. s.1) nat_list_cmp_total)

pub exact_spots : IsAntisymmetric spot_cmp
exact_spots = exact_pairs nat_cmp (slice_cmp nat_cmp) nat_cmp-IsAntisymmetric
    (slice_cmp-IsAntisymmetric nat_cmp-IsAntisymmetric)

equal_of : (r : Ordering) → is_eq r ≡ true → r ≡ Equal
equal_of Less h = cc
equal_of Equal h = refl
equal_of Greater h = cc

pub same_spot : (a b : Spot) → eq_by_cmp spot_cmp a b ≡ true → a ≡ b
same_spot a b h = exact_spots a b (equal_of _ h)

-- the value that a change leaves in its row
abbrev pub value_in : Change → Option (List ℕ)
value_in (Put table key value) = Some value
value_in (Del table key) = None

-- what stands at a spot after one change
pub get_once : (c : Change) (rows : Rows) (q : Spot) → get (changed_once c rows) q ≡ cond
    (eq_by_cmp spot_cmp q (spot_of c)) (value_in c) (get rows q)
get_once (Put table key value) rows q = get-insert spots_total rows (table, key) value q
get_once (Del table key) rows q = get-remove spots_total rows (table, key) q

swapped : {A : Type 0} (a b : Bool) (x y z : A) → (a ≡ true → b ≡ true → ⊥)
    → cond a x (cond b y z) ≡ cond b y (cond a x z)
swapped true true x y z apart = absurd (apart refl refl)
swapped true false x y z apart = refl
swapped false b x y z apart = refl

shadowed : {A : Type 0} (b : Bool) (x y z : A) → cond b x (cond b y z) ≡ cond b x z
shadowed true x y z = refl
shadowed false x y z = refl

-- changes of two rows may be swapped
pub once_swapped : (c d : Change) (rows : Rows) → (spot_of c ≡ spot_of d → ⊥)
    → changed_once c (changed_once d rows) ≡ changed_once d (changed_once c rows)
once_swapped c d rows apart = same_map spots_total exact_spots _ _ (λ q.
    get_once c (changed_once d rows) q
    ∙ ap (cond (eq_by_cmp spot_cmp q (spot_of c)) (value_in c)) (get_once d rows q)
    ∙ swapped (eq_by_cmp spot_cmp q (spot_of c)) (eq_by_cmp spot_cmp q (spot_of d)) (value_in c) (value_in d)
    (get rows q) (λ a b. apart (sym (same_spot q (spot_of c) a) ∙ same_spot q (spot_of d) b))
    ∙ ap (cond (eq_by_cmp spot_cmp q (spot_of d)) (value_in d)) (sym (get_once c rows q))
    ∙ sym (get_once d (changed_once c rows) q))

-- of two changes of one row the later counts
pub once_over : (c d : Change) (rows : Rows) → spot_of c ≡ spot_of d
    → changed_once c (changed_once d rows) ≡ changed_once c rows
once_over c d rows same = same_map spots_total exact_spots _ _ (λ q.
    get_once c (changed_once d rows) q
    ∙ ap (cond (eq_by_cmp spot_cmp q (spot_of c)) (value_in c))
    (get_once d rows q ∙ ap (λ s. cond (eq_by_cmp spot_cmp q s) (value_in d) (get rows q)) (sym same))
    ∙ shadowed (eq_by_cmp spot_cmp q (spot_of c)) (value_in c) (value_in d) (get rows q)
    ∙ sym (get_once c rows q))

pub changed_append : (xs ys : List Change) (rows : Rows) → changed (xs ++ ys) rows ≡ changed ys (changed xs rows)
changed_append [] ys rows = refl
changed_append (x ∷ xs) ys rows = changed_append xs ys (changed_once x rows)

-- each change is in a table that passes the test
abbrev pub InTables : (ℕ → Bool) → List Change → Type 0
InTables p changes = AllByRecursion (λ c. p (spot_of c).0 ≡ true) changes

-- no table passes both tests
abbrev pub AreApart : (ℕ → Bool) → (ℕ → Bool) → Type 0
AreApart p q = (n : ℕ) → p n ≡ true → q n ≡ true → ⊥

one_swapped : (p q : ℕ → Bool) → AreApart p q → (c : Change) → p (spot_of c).0 ≡ true → (ys : List Change)
    → InTables q ys → (rows : Rows) → changed ys (changed_once c rows) ≡ changed_once c (changed ys rows)
one_swapped p q apart c in_p [] in_q rows = refl
one_swapped p q apart c in_p (y ∷ ys) in_q rows =
    ap (changed ys) (once_swapped y c rows (λ e. apart (spot_of c).0 in_p (ap (λ s. q s.0) (sym e) ∙ in_q.0)))
    ∙ one_swapped p q apart c in_p ys in_q.1 (changed_once y rows)

-- changes in different tables may be swapped
pub changed_swapped : (p q : ℕ → Bool) → AreApart p q → (xs ys : List Change) → InTables p xs → InTables q ys
    → (rows : Rows) → changed ys (changed xs rows) ≡ changed xs (changed ys rows)
changed_swapped p q apart [] ys in_p in_q rows = refl
changed_swapped p q apart (x ∷ xs) ys in_p in_q rows =
    changed_swapped p q apart xs ys in_p.1 in_q (changed_once x rows)
    ∙ ap (changed xs) (one_swapped p q apart x in_p.0 ys in_q rows)

pub tables_append : (p : ℕ → Bool) (xs ys : List Change) → InTables p xs → InTables p ys → InTables p (xs ++ ys)
tables_append p [] ys in_xs in_ys = in_ys
tables_append p (x ∷ xs) ys in_xs in_ys = (in_xs.0, tables_append p xs ys in_xs.1 in_ys)
