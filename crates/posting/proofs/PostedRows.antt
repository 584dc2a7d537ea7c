-- The rows that a part leaves, once each, make what the part makes of the tables.
use Rattle.std.proofs.Common.{◌≡◌, ℕ, false, map, List, [], ◌∷◌, Option, refl, sym, ap, ◌∙◌}
use Rattle.std.specs.List.{AllByRecursion}
use Rattle.std.proofs.lemmas.Bool.{false≢true}
use Rattle.std.proofs.lemmas.Map.Keys.{IsDistinct-cons, IsDistinct-head, IsDistinct-tail}
use Rattle.keeper_api.specs.declared.rows.Change.{Change}
use Rattle.keeper_api.specs.Rows.{Spot as Place, Rows}
use Rattle.keeper_api.specs.Batch.{changed, changed_once, spot_of, is_same_spot}
use Rattle.keeper_api.specs.RowLaws.{once_swapped, InTables}
use Rattle.module_effects.specs.Rows.{RowName, Tables}
use Rattle.module_effects.specs.Spots.{row_at, with_spots}
use Rattle.module_effects.specs.declared.spot.Spot.{Spot}
use Rattle.module_effects.proofs.lemmas.Tables.{same_row, same_row-Decides}
use Rattle.update_records.specs.Ledger.{Levels, map_rows, is_own}
use Rattle.update_records.specs.RecordRows.{row_left}
use Rattle.ledger_steps.specs.Posts.{HasDistinctRows, row_change, row_changes}
use Rattle.record_laws.proofs.Books.{is_business_table}
use Rattle.record_laws.proofs.Apart.{AreDistinct, IsApart, spots, none_distinct, not_same}
use Rattle.record_laws.proofs.Keyed.{business_left, left_spot, spot-Decides, unname, unname_name}
use Rattle.record_laws.proofs.Own.{AreOwn}

-- a change may be made before changes of other rows
past : (c : Change) (ds : List Change) (rows : Rows) → IsApart (spot_of c) ds → changed ds (changed_once c rows) ≡ changed_once c (changed ds rows)
past c [] rows apart = refl
past c (d ∷ ds) rows apart =
    ap (changed ds) (once_swapped d c rows (λ e. false≢true (sym apart.0 ∙ (spot-Decides (spot_of c) (spot_of d)).1 (sym e))))
    ∙ past c ds (changed_once d rows) apart.1

one_name : (a b : RowName) (s t : Option (List ℕ)) → spot_of (row_left a s) ≡ spot_of (row_left b t) → a ≡ b
one_name a b s t e = sym (unname_name a) ∙ ap (λ (p : Place). unname p.1) (sym (left_spot a s) ∙ e ∙ left_spot b t) ∙ unname_name b

others_apart : (s : Spot) (ss : List Spot) → AllByRecursion (λ name. same_row (row_at s) name ≡ false) (map row_at ss)
    → IsApart (spot_of (row_change s)) (row_changes ss)
others_apart s [] h = tt
others_apart s (t ∷ ss) h = (
  not_same (spot_of (row_change s)) (spot_of (row_change t))
      (λ e. false≢true (sym h.0 ∙ (same_row-Decides (row_at s) (row_at t)).1 (one_name (row_at s) (row_at t) s.text t.text e))),
  others_apart s ss h.1,
)

apart_first : (s : Spot) (ss : List Spot) → HasDistinctRows (s ∷ ss) → IsApart (spot_of (row_change s)) (row_changes ss)
apart_first s ss h = others_apart s ss (IsDistinct-head same_row (row_at s) (map row_at ss) h)

-- the changes make of the rows what the spots make of the tables
pub rows_are : (levels : Levels) (ss : List Spot) (tables : Tables) → HasDistinctRows ss
    → changed (row_changes ss) (map_rows levels tables) ≡ map_rows levels (with_spots ss tables)
rows_are levels [] tables h = refl
rows_are levels (s ∷ ss) tables h =
    past (row_change s) (row_changes ss) (map_rows levels tables) (apart_first s ss h)
    ∙ ap (changed_once (row_change s)) (rows_are levels ss tables (IsDistinct-tail same_row (row_at s) (map row_at ss) h))
    ∙ sym (business_left levels (with_spots ss tables) (row_at s) s.text)

pub rows_distinct : (ss : List Spot) → HasDistinctRows ss → AreDistinct (row_changes ss)
rows_distinct [] h = none_distinct
rows_distinct (s ∷ ss) h =
    IsDistinct-cons is_same_spot (spot_of (row_change s)) (spots (row_changes ss)) (apart_first s ss h)
    (rows_distinct ss (IsDistinct-tail same_row (row_at s) (map row_at ss) h))

pub rows_in : (ss : List Spot) → InTables is_business_table (row_changes ss)
rows_in [] = tt
rows_in (s ∷ ss) = (ap (λ (p : Place). is_business_table p.0) (left_spot (row_at s) s.text), rows_in ss)

pub rows_own : (ss : List Spot) → AreOwn (row_changes ss)
rows_own [] = tt
rows_own (s ∷ ss) = (ap is_own (left_spot (row_at s) s.text), rows_own ss)
