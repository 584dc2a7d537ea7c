-- What a map keeps, as tables.
use Rattle.std.proofs.Common.{◌≡◌, ℕ, cond, List, [], ◌∷◌, ◌++◌, map, Option, Some, Result, Ok, Err, IsOk, OnOk, refl, sym, ap, ◌∙◌}
use Rattle.std.specs.Cmp.{eq_by_cmp_equiv}
use Rattle.std.specs.FinMap.{find, get, get-from_entries, same_map}
use Rattle.std.specs.HashMap as hashed
use Rattle.std.specs.HashMap.{HashMap}
use Rattle.std.specs.Map.{lookup}
use Rattle.std.proofs.lemmas.Bool.Decides.{same_from_decides, Decides-and, Decides-like}
use Rattle.std.proofs.lemmas.Slice.Eq.{bytes_eq-Decides}
use Rattle.module_effects.specs.Rows.{RowName, Tables, row_cmp, with_row}
use Rattle.module_effects.specs.Spots.{row_at, with_spots}
use Rattle.module_effects.specs.declared.spot.Spot.{Spot}
use Rattle.module_effects.proofs.lemmas.Tables.{exact_rows, get-with_row, rows_total, same_row, same_row-Decides}
use Rattle.business_rows.specs.Keys.{key_of, same_key}
use Rattle.business_rows.specs.Kept.{row_entry, tables_in}
use Rattle.business_rows.specs.declared.business_key.BusinessKey.{BusinessKey}

-- ---- a row that is looked up

abbrev Entry : Type 0
Entry = BusinessKey × List ℕ

at_key : (name other : RowName) → same_row name other ≡ same_key (key_of name) (key_of other)
at_key name other =
    same_from_decides _ _ (same_row-Decides name other)
    (Decides-like (same_key (key_of name) (key_of other)) (λ p i. (p.0 i, p.1 i))
    (λ e. (ap (λ (r : RowName). r.0) e, ap (λ (r : RowName). r.1) e))
    (Decides-and _ _ (bytes_eq-Decides name.0 other.0) (bytes_eq-Decides name.1 other.1)))

found : (name : RowName) (es : List Entry) → find row_cmp name (map row_entry es) ≡ lookup (same_key (key_of name)) es
found name [] = refl
found name (e ∷ es) =
    ap (λ b. cond b (Some e.1) (find row_cmp name (map row_entry es))) (at_key name (e.0.table, e.0.key))
    ∙ ap (cond (same_key (key_of name) e.0) (Some e.1)) (found name es)

pub kept_row : {S : Type 0} (texts : HashMap BusinessKey (List ℕ) S) (name : RowName) → get (tables_in texts) name ≡ hashed.get same_key texts (key_of name)
kept_row texts name = get-from_entries rows_total (map row_entry texts.entries) name ∙ found name texts.entries

-- ---- a row that is changed

pub same_kept : {S : Type 0} (old new : HashMap BusinessKey (List ℕ) S)
    → ((key : BusinessKey) → hashed.get same_key new key ≡ hashed.get same_key old key)
    → tables_in new ≡ tables_in old
same_kept old new same = same_map rows_total exact_rows (tables_in new) (tables_in old) (λ q. kept_row new q ∙ same (key_of q) ∙ sym (kept_row old q))

pub row_put : {S : Type 0} (old new : HashMap BusinessKey (List ℕ) S) (row : RowName) (text : Option (List ℕ))
    → ((key : BusinessKey) → hashed.get same_key new key ≡ cond (same_key (key_of row) key) text (hashed.get same_key old key))
    → tables_in new ≡ with_row (tables_in old) row text
row_put old new row text sets =
    same_map rows_total exact_rows (tables_in new) (with_row (tables_in old) row text) (λ q.
    kept_row new q
    ∙ sets (key_of q)
    ∙ ap (λ b. cond b text (hashed.get same_key old (key_of q))) (sym (at_key row q) ∙ (eq_by_cmp_equiv rows_total).symm row q)
    ∙ ap (cond (same_row q row) text) (sym (kept_row old q))
    ∙ sym (get-with_row (tables_in old) row text q))

pub where_done : {X E P : Type 0} (r : Result X E) → IsOk r → OnOk r P → P
where_done (Ok x) ok h = h
where_done (Err e) ok h = absurd (cc)

-- ---- spots that are put from the last one on

pub put_last : (spots : List Spot) (spot : Spot) (tables : Tables)
    → with_spots spots (with_row tables (row_at spot) spot.text) ≡ with_spots (spots ++ spot ∷ []) tables
put_last [] spot tables = refl
put_last (s ∷ spots) spot tables = ap (λ (t : Tables). with_row t (row_at s) s.text) (put_last spots spot tables)
