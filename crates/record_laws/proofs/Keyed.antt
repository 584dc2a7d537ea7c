-- Rows of a finite map in one table.
use Rattle.std.proofs.Common.{◌≡◌, ℕ, Bool, true, false, cond, ◌&&◌, nat_eq, List, [], ◌∷◌, ◌++◌, length, take, drop, Option, Some, None, Decides, refl, sym, ap, subst, ◌∙◌}
use Rattle.std.specs.Option.{option_map}
use Rattle.std.specs.Ordering.{eq_by_cmp}
use Rattle.std.specs.Cmp.{eq_by_cmp_equiv}
use Rattle.std.specs.Str.{bytes_eq}
use Rattle.std.specs.FinMap.{FinMap, empty, entries, get, find, insert, get-entries, get-insert, get-empty, same_map}
use Rattle.std.proofs.lemmas.Bool.{eqb-true, eq-eqb}
use Rattle.std.proofs.lemmas.Bool.Decides.{same_from_decides}
use Rattle.keeper_api.specs.Rows.{Spot, spot_cmp, Rows}
use Rattle.keeper_api.specs.Batch.{changed_once, spot_of}
use Rattle.keeper_api.specs.RowLaws.{spots_total, exact_spots, same_spot, get_once}
use Rattle.lock_entry.proofs.lemmas.Naming.{bytes_eq-refl, bytes_eq-same}
use Rattle.module_effects.specs.Rows.{RowName, row_cmp, Tables, with_row}
use Rattle.module_effects.proofs.lemmas.Tables.{rows_total, same_row, same_row-Decides, get-with_row}
use Rattle.update_records.specs.Ledger.{Levels, with_entries, with_map, map_rows}
use Rattle.update_records.specs.RecordRows.{Level, row_name, row_left, level_row, level_value}

-- the name that a key spells
abbrev pub unname : List ℕ → RowName
unname [] = ([], [])
unname (n ∷ bytes) = (take n bytes, drop n bytes)

take_first : (a b : List ℕ) → take (length a) (a ++ b) ≡ a
take_first [] b = refl
take_first (x ∷ a) b = ap (λ r. x ∷ r) (take_first a b)

drop_first : (a b : List ℕ) → drop (length a) (a ++ b) ≡ b
drop_first [] b = refl
drop_first (x ∷ a) b = drop_first a b

pub unname_name : (r : RowName) → unname (row_name r) ≡ r
unname_name r = λ i. (take_first r.0 r.1 i, drop_first r.0 r.1 i)

-- whether a spot is that of a name in a table
abbrev pub is_named : ℕ → Spot → Bool
is_named t q = nat_eq q.0 t && bytes_eq q.1 (row_name (unname q.1))

both : (a b : Bool) → a ≡ true → b ≡ true → (a && b) ≡ true
both true b h k = k
both false b h k = cc

first_of : (a b : Bool) → (a && b) ≡ true → a ≡ true
first_of true b h = refl
first_of false b h = cc

second_of : (a b : Bool) → (a && b) ≡ true → b ≡ true
second_of true b h = h
second_of false b h = cc

pub spot-Decides : (a b : Spot) → Decides (eq_by_cmp spot_cmp a b) (a ≡ b)
spot-Decides a b = (same_spot a b, λ e. subst (λ r. eq_by_cmp spot_cmp a r ≡ true) e ((eq_by_cmp_equiv spots_total).refl a))

here_named : (t : ℕ) (r : RowName) → (is_named t (t, row_name r) && same_row (unname (row_name r)) r) ≡ true
here_named t r =
    both (is_named t (t, row_name r)) (same_row (unname (row_name r)) r)
    (both (nat_eq t t) (bytes_eq (row_name r) (row_name (unname (row_name r)))) (eq-eqb t t refl)
    (subst (λ n. bytes_eq (row_name r) (row_name n) ≡ true) (sym (unname_name r)) (bytes_eq-refl (row_name r))))
    ((same_row-Decides (unname (row_name r)) r).1 (unname_name r))

named-Decides : (t : ℕ) (r : RowName) (q : Spot) → Decides (is_named t q && same_row (unname q.1) r) (q ≡ (t, row_name r))
named-Decides t r q = (
  λ h.
      let named = first_of (is_named t q) (same_row (unname q.1) r) h in
      let table : q.0 ≡ t = eqb-true q.0 t (first_of (nat_eq q.0 t) (bytes_eq q.1 (row_name (unname q.1))) named) in
      let spelt : q.1 ≡ row_name (unname q.1) = bytes_eq-same q.1 (row_name (unname q.1))
      (second_of (nat_eq q.0 t) (bytes_eq q.1 (row_name (unname q.1))) named) in
      let same : unname q.1 ≡ r = (same_row-Decides (unname q.1) r).0 (second_of (is_named t q) (same_row (unname q.1) r) h) in
      let key = spelt ∙ ap row_name same in
      λ i. (table i, key i),
  λ e. subst (λ (s : Spot). (is_named t s && same_row (unname s.1) r) ≡ true) (sym e) (here_named t r),
)

pub named_is : (t : ℕ) (r : RowName) (q : Spot) → eq_by_cmp spot_cmp q (t, row_name r) ≡ (is_named t q && same_row (unname q.1) r)
named_is t r q = same_from_decides _ _ (spot-Decides q (t, row_name r)) (named-Decides t r q)

abbrev or_else : {A : Type 0} → Option A → Option A → Option A
or_else None y = y
or_else (Some x) y = Some x

same_both : {A : Type 0} (b : Bool) (x : A) → x ≡ cond b x x
same_both true x = refl
same_both false x = refl

one_found : {X : Type 0} (b a : Bool) (write : X → List ℕ) (x : X) (found : Option X) (rest : Option (List ℕ))
    → cond (b && a) (Some (write x)) (cond b (or_else (option_map write found) rest) rest) ≡ cond b
    (or_else (option_map write (cond a (Some x) found)) rest) rest
one_found true true write x found rest = refl
one_found true false write x found rest = refl
one_found false a write x found rest = refl

get_with : {X : Type 0} (t : ℕ) (write : X → List ℕ) (es : List (RowName × X)) (rows : Rows) (q : Spot)
    → get (with_entries t write es rows) q ≡ cond (is_named t q) (or_else (option_map write (find row_cmp (unname q.1) es)) (get rows q)) (get rows q)
get_with t write [] rows q = same_both (is_named t q) (get rows q)
get_with t write (e ∷ es) rows q =
    get-insert spots_total (with_entries t write es rows) (t, row_name e.0) (write e.1) q
    ∙ ap (λ b. cond b (Some (write e.1)) (get (with_entries t write es rows) q)) (named_is t e.0 q)
    ∙ ap (cond (is_named t q && same_row (unname q.1) e.0) (Some (write e.1))) (get_with t write es rows q)
    ∙ one_found (is_named t q) (same_row (unname q.1) e.0) write e.1 (find row_cmp (unname q.1) es) (get rows q)

-- what stands at a spot
pub get_map : {X : Type 0} (t : ℕ) (write : X → List ℕ) (xs : FinMap row_cmp X) (rows : Rows) (q : Spot)
    → get (with_map t write xs rows) q ≡ cond (is_named t q) (or_else (option_map write (get xs (unname q.1))) (get rows q)) (get rows q)
get_map t write xs rows q = get_with t write (entries xs) rows q ∙ ap (λ x. cond (is_named t q) (or_else (option_map write x) (get rows q)) (get rows q))
    (sym (get-entries xs (unname q.1)))

-- where a change leaves what it leaves
pub left_spot : (r : RowName) (text : Option (List ℕ)) → spot_of (row_left r text) ≡ (6, row_name r)
left_spot r None = refl
left_spot r (Some text) = refl

pub get_left : (r : RowName) (text : Option (List ℕ)) (rows : Rows) (q : Spot)
    → get (changed_once (row_left r text) rows) q ≡ cond (eq_by_cmp spot_cmp q (6, row_name r)) text (get rows q)
get_left r None rows q = get_once (row_left r None) rows q
get_left r (Some text) rows q = get_once (row_left r (Some text)) rows q

inner_left : (b c : Bool) (v x : Option (List ℕ)) → cond b (or_else (option_map (λ (text : List ℕ). text) (cond c v x)) None) None ≡ cond (b && c) v
    (cond b (or_else (option_map (λ (text : List ℕ). text) x) None) None)
inner_left true true None x = refl
inner_left true true (Some v) x = refl
inner_left true false v x = refl
inner_left false c v x = refl

-- a business row that a part leaves is a row of table 6
inside_left : (tables : Tables) (r : RowName) (text : Option (List ℕ)) → with_map 6 (λ (t : List ℕ). t) (with_row tables r text) empty ≡ changed_once
    (row_left r text) (with_map 6 (λ (t : List ℕ). t) tables empty)
inside_left tables r text = same_map spots_total exact_spots _ _ (λ q.
    get_map 6 (λ (t : List ℕ). t) (with_row tables r text) empty q
    ∙ ap (λ x. cond (is_named 6 q) (or_else (option_map (λ (t : List ℕ). t) (get (with_row tables r text) (unname q.1))) x) x) (get-empty spot_cmp q)
    ∙ ap (λ x. cond (is_named 6 q) (or_else (option_map (λ (t : List ℕ). t) x) None) None) (get-with_row tables r text (unname q.1))
    ∙ inner_left (is_named 6 q) (same_row (unname q.1) r) text (get tables (unname q.1))
    ∙ ap (λ x. cond (is_named 6 q && same_row (unname q.1) r) text
    (cond (is_named 6 q) (or_else (option_map (λ (t : List ℕ). t) (get tables (unname q.1))) x) x)) (sym (get-empty spot_cmp q))
    ∙ ap (cond (is_named 6 q && same_row (unname q.1) r) text) (sym (get_map 6 (λ (t : List ℕ). t) tables empty q))
    ∙ ap (λ b. cond b text (get (with_map 6 (λ (t : List ℕ). t) tables empty) q)) (sym (named_is 6 r q))
    ∙ sym (get_left r text (with_map 6 (λ (t : List ℕ). t) tables empty) q))

outer_left : {X : Type 0} (a d : Bool) (write : X → List ℕ) (v : Option (List ℕ)) (l : Option X) (x : Option (List ℕ)) → (a ≡ true → d ≡ true → ⊥)
    → cond a (or_else (option_map write l) (cond d v x)) (cond d v x) ≡ cond d v (cond a (or_else (option_map write l) x) x)
outer_left true true write v l x apart = absurd (apart refl refl)
outer_left true false write v l x apart = refl
outer_left false d write v l x apart = refl

five_or_six : (q : Spot) (r : RowName) → is_named 5 q ≡ true → eq_by_cmp spot_cmp q (6, row_name r) ≡ true → ⊥
five_or_six q r five six =
    let a : q.0 ≡ 5 = eqb-true q.0 5 (first_of (nat_eq q.0 5) (bytes_eq q.1 (row_name (unname q.1))) five) in
    let b : q.0 ≡ 6 = ap (λ (s : Spot). s.0) (same_spot q (6, row_name r) six) in
    let wrong : 5 ≡ 6 = sym a ∙ b in cc

pub business_left : (levels : Levels) (tables : Tables) (r : RowName) (text : Option (List ℕ))
    → map_rows levels (with_row tables r text) ≡ changed_once (row_left r text) (map_rows levels tables)
business_left levels tables r text =
    let inside = with_map 6 (λ (t : List ℕ). t) tables empty in
    ap (with_map 5 level_value levels) (inside_left tables r text)
    ∙ same_map spots_total exact_spots _ _ (λ q.
    get_map 5 level_value levels (changed_once (row_left r text) inside) q
    ∙ ap (λ x. cond (is_named 5 q) (or_else (option_map level_value (get levels (unname q.1))) x) x) (get_left r text inside q)
    ∙ outer_left (is_named 5 q) (eq_by_cmp spot_cmp q (6, row_name r)) level_value text (get levels (unname q.1)) (get inside q) (five_or_six q r)
    ∙ ap (cond (eq_by_cmp spot_cmp q (6, row_name r)) text) (sym (get_map 5 level_value levels inside q))
    ∙ sym (get_left r text (map_rows levels tables) q))

or_id : (o : Option (List ℕ)) → or_else (option_map (λ (t : List ℕ). t) o) None ≡ o
or_id None = refl
or_id (Some t) = refl

-- what stands in the row of a name
pub get_business : (levels : Levels) (tables : Tables) (name : RowName) → get (map_rows levels tables) (6, row_name name) ≡ get tables name
get_business levels tables name =
    let q : Spot = (6, row_name name) in
    let here : is_named 6 q ≡ true = first_of (is_named 6 q) (same_row (unname (row_name name)) name) (here_named 6 name) in
    get_map 5 level_value levels (with_map 6 (λ (t : List ℕ). t) tables empty) q
    ∙ get_map 6 (λ (t : List ℕ). t) tables empty q
    ∙ ap (λ b. cond b (or_else (option_map (λ (t : List ℕ). t) (get tables (unname (row_name name)))) (get {R = spot_cmp} empty q))
    (get {R = spot_cmp} empty q)) here
    ∙ ap (λ n. or_else (option_map (λ (t : List ℕ). t) (get tables n)) (get {R = spot_cmp} empty q)) (unname_name name)
    ∙ ap (or_else (option_map (λ (t : List ℕ). t) (get tables name))) (get-empty spot_cmp q)
    ∙ or_id (get tables name)

-- an interval that is stored is a row of table 5
pub level_left : (levels : Levels) (tables : Tables) (r : RowName) (level : Level)
    → map_rows (insert levels r level) tables ≡ changed_once (level_row r level) (map_rows levels tables)
level_left levels tables r level =
    let inside = with_map 6 (λ (t : List ℕ). t) tables empty in
    same_map spots_total exact_spots _ _ (λ q.
    get_map 5 level_value (insert levels r level) inside q
    ∙ ap (λ x. cond (is_named 5 q) (or_else (option_map level_value x) (get inside q)) (get inside q)) (get-insert rows_total levels r level (unname q.1))
    ∙ sym (one_found (is_named 5 q) (same_row (unname q.1) r) level_value level (get levels (unname q.1)) (get inside q))
    ∙ ap (cond (is_named 5 q && same_row (unname q.1) r) (Some (level_value level))) (sym (get_map 5 level_value levels inside q))
    ∙ ap (λ b. cond b (Some (level_value level)) (get (map_rows levels tables) q)) (sym (named_is 5 r q))
    ∙ sym (get_once (level_row r level) (map_rows levels tables) q))
