-- When rows are those of a ledger: each row of the ledger stands there, and no other does.
use Rattle.std.proofs.Common.{◌≡◌, ℕ, ◌⊎◌, Bool, true, false, cond, ◌&&◌, nat_eq, List, [], ◌∷◌, Option, Some, None, is_some, Contains, ⊎_elim, refl, sym, ap, subst, ◌∙◌}
use Rattle.std.specs.List.{AllByRecursion, list_any}
use Rattle.std.specs.Option.{option_map}
use Rattle.std.specs.Ordering.{eq_by_cmp}
use Rattle.std.specs.FinMap.{FinMap, empty, get, get-empty, same_map}
use Rattle.std.proofs.lemmas.Bool.{and_from, eqb-true, or_from, or_left, or_right}
use Rattle.keeper_api.specs.declared.rows.Change.{Change}
use Rattle.keeper_api.specs.Batch.{spot_of, changed, changed_once}
use Rattle.keeper_api.specs.Rows.{Spot, spot_cmp, Rows}
use Rattle.keeper_api.specs.RowLaws.{spots_total, exact_spots, get_once, same_spot, value_in}
use Rattle.lock_entry.proofs.lemmas.Naming.{bytes_eq-same}
use Rattle.module_effects.specs.Rows.{RowName, row_cmp}
use Rattle.module_effects.proofs.lemmas.Tables.{same_row}
use Rattle.update_records.specs.Business.{tables_of}
use Rattle.update_records.specs.Ledger.{Ledger, book_rows, map_rows, rows_of, with_map}
use Rattle.update_records.specs.RecordRows.{level_value, row_name}
use Rattle.record_laws.proofs.Keyed.{get_map, is_named, named_is, spot-Decides, unname, unname_name}
use Rattle.store_reading.proofs.lemmas.Elements.{contains_cases, contains_none}
use Rattle.store_reading.proofs.lemmas.Legal.{first_true, second_true}

-- ---- a batch of changes that agree with rows

-- the rows have what the change leaves
abbrev pub Agrees : Rows → Change → Type 0
Agrees rows c = get rows (spot_of c) ≡ value_in c

-- whether a change of the batch is made at the spot
abbrev pub is_changed : Spot → List Change → Bool
is_changed q batch = list_any (λ c. eq_by_cmp spot_cmp q (spot_of c)) batch

pub any_contained : {X : Type 0} (p : X → Bool) (xs : List X) (x : X) → p x ≡ true → Contains xs x → list_any p xs ≡ true
any_contained p [] x is h = absurd (contains_none x h)
any_contained p (y ∷ xs) x is h =
    ⊎_elim (λ e. or_left (p y) (list_any p xs) (ap p e ∙ is)) (λ there. or_right (p y) (list_any p xs) (any_contained p xs x is there))
    (contains_cases y xs x h)

one_settled : (rows : Rows) (q : Spot) (c : Change) (base : Rows) (b : Bool) → Agrees rows c
    → (b ≡ false → eq_by_cmp spot_cmp q (spot_of c) ≡ false → get base q ≡ get rows q)
    → b ≡ false → get (changed_once c base) q ≡ get rows q
one_settled rows q c base b agrees rest none =
    get_once c base q
    ∙ elim (eq_by_cmp spot_cmp q (spot_of c)) as (λ is. eq_by_cmp spot_cmp q (spot_of c) ≡ is → cond is (value_in c) (get base q) ≡ get rows q) [
      | true ↦ λ is. sym agrees ∙ ap (get rows) (sym (same_spot q (spot_of c) is))
      | false ↦ λ is. rest none is
    ] refl

-- what a batch makes of other rows is what the rows have, where the others have it wherever the batch changes nothing
pub batch_settled : (rows : Rows) (q : Spot) (batch : List Change) (base : Rows) → AllByRecursion (Agrees rows) batch
    → (is_changed q batch ≡ false → get base q ≡ get rows q)
    → get (changed batch base) q ≡ get rows q
batch_settled rows q [] base agree rest = rest refl
batch_settled rows q (c ∷ batch) base agree rest =
    batch_settled rows q batch (changed_once c base) agree.1
    (one_settled rows q c base (is_changed q batch) agree.0 (λ none is. rest (or_from (eq_by_cmp spot_cmp q (spot_of c)) (is_changed q batch) is none)))

-- ---- a map whose rows agree with rows

-- the rows have what the map has
abbrev pub AgreesMap : {X : Type 0} → Rows → ℕ → (X → List ℕ) → FinMap row_cmp X → Type 0
AgreesMap {X = X} rows table write xs = (name : RowName) (x : X) → get xs name ≡ Some x → get rows (table, row_name name) ≡ Some (write x)

-- whether the map has a row at the spot
abbrev pub is_mapped : {X : Type 0} → ℕ → FinMap row_cmp X → Spot → Bool
is_mapped table xs q = is_named table q && is_some (get xs (unname q.1))

pub named_spot : (table : ℕ) (q : Spot) → is_named table q ≡ true → (table, row_name (unname q.1)) ≡ q
named_spot table q h =
    let at : q.0 ≡ table = eqb-true q.0 table (first_true (nat_eq q.0 table) _ h) in
    let spelt : q.1 ≡ row_name (unname q.1) = bytes_eq-same q.1 (row_name (unname q.1)) (second_true (nat_eq q.0 table) _ h) in
    λ i. (sym at i, sym spelt i)

abbrev pub or_else : {A : Type 0} → Option A → Option A → Option A
or_else None y = y
or_else (Some x) y = Some x

laid : {X : Type 0} (b : Bool) (write : X → List ℕ) (o : Option X) (base goal : Option (List ℕ)) → (b ≡ true → (x : X) → o ≡ Some x → goal ≡ Some (write x))
    → ((b && is_some o) ≡ false → base ≡ goal)
    → cond b (or_else (option_map write o) base) base ≡ goal
laid true write None base goal here there = there refl
laid true write (Some x) base goal here there = sym (here refl x refl)
laid false write o base goal here there = there refl

pub map_settled : {X : Type 0} (rows : Rows) (q : Spot) (table : ℕ) (write : X → List ℕ) (xs : FinMap row_cmp X) (base : Rows) → AgreesMap rows table write xs
    → (is_mapped table xs q ≡ false → get base q ≡ get rows q)
    → get (with_map table write xs base) q ≡ get rows q
map_settled rows q table write xs base agree rest =
    get_map table write xs base q
    ∙ laid (is_named table q) write (get xs (unname q.1)) (get base q) (get rows q)
    (λ named x has. ap (get rows) (sym (named_spot table q named)) ∙ agree (unname q.1) x has)
    rest

-- ---- the rows of a ledger

-- a change of the books is made at the spot
abbrev pub IsBooked : List Change → Spot → Type 0
IsBooked batch q = (c : Change) × Contains batch c × (spot_of c ≡ q)

-- the map has a row at the spot
abbrev pub IsMapped : {X : Type 0} → ℕ → FinMap row_cmp X → Spot → Type 0
IsMapped {X = X} table xs q = (name : RowName) × (x : X) × (get xs name ≡ Some x) × ((table, row_name name) ≡ q)

-- each row of the ledger stands among the rows, and no other
pub record AreShelved (rows : Rows) (ledger : Ledger) : Type 0 where
  pub books : AllByRecursion (Agrees rows) (book_rows ledger)
  pub levels : AgreesMap rows 5 level_value ledger.levels
  pub tables : AgreesMap rows 6 (λ (text : List ℕ). text) (tables_of ledger.units ledger.marks)
  pub only : (q : Spot) (value : List ℕ) → get rows q ≡ Some value
      → IsBooked (book_rows ledger) q ⊎ (IsMapped 5 ledger.levels q ⊎ IsMapped 6 (tables_of ledger.units ledger.marks) q)

booked : (batch : List Change) (q : Spot) → IsBooked batch q → is_changed q batch ≡ false → ⊥
booked batch q at none =
    let here : is_changed q batch ≡ true = any_contained (λ c. eq_by_cmp spot_cmp q (spot_of c)) batch at.0
    ((spot-Decides q (spot_of at.0)).1 (sym at.2)) at.1 in
    let odd : true ≡ false = sym here ∙ none in cc

-- the spot of a name is named
pub named_here : (table : ℕ) (name : RowName) → is_named table (table, row_name name) ≡ true
named_here table name =
    let spot : Spot = (table, row_name name) in
    first_true (is_named table spot) (same_row (unname (row_name name)) name) (sym (named_is table name spot) ∙ (spot-Decides spot spot).1 refl)

mapped : {X : Type 0} (table : ℕ) (xs : FinMap row_cmp X) (q : Spot) → IsMapped table xs q → is_mapped table xs q ≡ false → ⊥
mapped table xs q at none =
    let spot : Spot = (table, row_name at.0) in
    let has : is_some (get xs (unname (row_name at.0))) ≡ true = ap (λ n. is_some (get xs n)) (unname_name at.0) ∙ ap is_some at.2 in
    let here : is_mapped table xs q ≡ true = subst (λ s. is_mapped table xs s ≡ true) at.3
    (and_from (is_named table spot) (is_some (get xs (unname (row_name at.0)))) (named_here table at.0) has) in
    let odd : true ≡ false = sym here ∙ none in cc

nothing : (rows : Rows) (ledger : Ledger) → AreShelved rows ledger → (q : Spot) → is_changed q (book_rows ledger) ≡ false → is_mapped 5 ledger.levels q ≡ false
    → is_mapped 6 (tables_of ledger.units ledger.marks) q ≡ false → (o : Option (List ℕ)) → get rows q ≡ o → None ≡ o
nothing rows ledger shelved q books levels tables None is = refl
nothing rows ledger shelved q books levels tables (Some value) is = absurd (
    ⊎_elim (λ at. booked (book_rows ledger) q at books)
    (λ maps. ⊎_elim (λ at. mapped 5 ledger.levels q at levels) (λ at. mapped 6 (tables_of ledger.units ledger.marks) q at tables) maps)
    (shelved.only q value is))

-- the rows are those of the ledger
pub shelved_rows : (rows : Rows) (ledger : Ledger) → AreShelved rows ledger → rows ≡ rows_of ledger
shelved_rows rows ledger shelved = sym (same_map spots_total exact_spots _ _ (λ q.
    let tables = tables_of ledger.units ledger.marks in
    batch_settled rows q (book_rows ledger) (map_rows ledger.levels tables) shelved.books (λ books.
    map_settled rows q 5 level_value ledger.levels (with_map 6 (λ (text : List ℕ). text) tables empty) shelved.levels (λ levels.
    map_settled rows q 6 (λ (text : List ℕ). text) tables empty shelved.tables (λ none.
    get-empty spot_cmp q ∙ nothing rows ledger shelved q books levels none (get rows q) refl)))))
