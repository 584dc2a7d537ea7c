-- The business rows of a target, made of the rows of table 1.
use Rattle.std.proofs.Common.{◌≡◌, ℕ, suc, ◌+◌, ◌≤◌, Bool, true, false, cond, not, ◌&&◌, ltb, nat_le, List, [], ◌∷◌, length, take, drop, Some, None, refl, sym, ap, ◌∙◌, arith}
use Rattle.std.proofs.lemmas.Bool.{le-ltb, leb-true, ltb-false}
use Rattle.std.proofs.lemmas.List.{length-take, take-append-drop}
use Rattle.std.specs.List.{position, prefix_len}
use Rattle.std.specs.Str.{bytes_eq}
use Rattle.std.specs.FinMap.{empty, get, get-empty}
use Rattle.enq_base.specs.Grammar.{is_key, is_name, is_text}
use Rattle.keeper_api.specs.declared.rows.Row.{Row}
use Rattle.module_effects.specs.Rows.{RowName, Tables, row_cmp, with_row}
use Rattle.module_effects.proofs.lemmas.Tables.{get-with_row, same_row}
use Rattle.remote_target.specs.Reading.{is_row_key, is_text_row}
use Rattle.remote_target.specs.Rows.{row_key}
use Rattle.remote_target.proofs.Found.{found}
use Rattle.table_reading.proofs.lemmas.Pages.{first_true}
use Rattle.remote_target.proofs.Stands.{in_table, row_key-same}

-- ---- no row is passed over

stuck : {A : Type 0} (b : Bool) (x : A) → cond b (Some x) None ≡ None → b ≡ false
stuck true x h = cc
stuck false x h = refl

one_less : (b : Bool) (n m : ℕ) → cond (ltb (cond (not b) (1 + n) 0) (suc m)) (Some (cond (not b) (1 + n) 0)) None ≡ None → (b ≡ false) × (m ≤ n)
one_less true n m h = let low = ltb-false 0 (suc m) (stuck (ltb 0 (suc m)) 0 h) in absurd (omega (arith, low))
one_less false n m h = let low = ltb-false (1 + n) (suc m) (stuck (ltb (1 + n) (suc m)) (1 + n) h) in (refl, omega (arith, low))

pub none_more : {X : Type 0} (p : X → Bool) (x : X) (xs : List X) → position p (x ∷ xs) ≡ None → (p x ≡ false) × (position p xs ≡ None)
none_more p x xs h =
    let both = one_less (p x) (prefix_len (λ y. not (p y)) xs) (length xs) h in
    (both.0, ap (λ b. cond b (Some (prefix_len (λ y. not (p y)) xs)) None) (le-ltb (prefix_len (λ y. not (p y)) xs) (length xs) both.1))

pub passed : (b : Bool) → not b ≡ false → b ≡ true
passed true h = refl
passed false h = cc

-- ---- the name in a row's key

name_in : List ℕ → RowName
name_in [] = ([], [])
name_in (n ∷ rest) = (take n rest, drop n rest)

key_back : (key : List ℕ) → is_row_key key ≡ true → row_key (name_in key) ≡ key
unfolding name_in
key_back [] h = cc
key_back (n ∷ rest) h =
    let low = leb-true n (length rest) (first_true (nat_le n (length rest)) (is_name (take n rest) && is_key (drop n rest)) h) in
    let long : length (take n rest) ≡ n = omega (arith, low, length-take n rest) in
    λ k. long k ∷ take-append-drop n rest k

same_name : (name : RowName) (key : List ℕ) → is_row_key key ≡ true → same_row name (name_in key) ≡ bytes_eq key (row_key name)
same_name name key good =
    sym (row_key-same name (name_in key))
    ∙ in_table 1 (row_key name) (row_key (name_in key))
    ∙ ap (λ k. bytes_eq k (row_key name)) (key_back key good)

-- ---- the tables

pub tables_of : List Row → Tables
tables_of [] = empty
tables_of (row ∷ rows) = with_row (tables_of rows) (name_in row.key) (Some row.value)

pub texts_are : (rows : List Row) → position (λ row. not (is_text_row row)) rows ≡ None → (name : RowName)
    → found (row_key name) rows ≡ get (tables_of rows) name
unfolding tables_of
texts_are [] good name = sym (get-empty row_cmp name)
texts_are (row ∷ rows) good name =
    let more = none_more (λ r. not (is_text_row r)) row rows good in
    let key = first_true (is_row_key row.key) (is_text row.value) (passed (is_text_row row) more.0) in
    ap (cond (bytes_eq row.key (row_key name)) (Some row.value)) (texts_are rows more.1 name)
    ∙ ap (λ b. cond b (Some row.value) (get (tables_of rows) name)) (sym (same_name name row.key key))
    ∙ sym (get-with_row (tables_of rows) (name_in row.key) (Some row.value) name)
