-- Texts in the order of their names are the rows of the business tables.
use Rattle.std.proofs.Common.{◌≡◌, ℕ, ◌+◌, nat_eq, Bool, true, false, cond, ◌&&◌, T, List, [], ◌∷◌, map, length, Option, Some, None, refl, sym, ap, subst, ◌∙◌, arith}
use Rattle.std.specs.List.{AllByRecursion, filter}
use Rattle.std.specs.List.Sorted.{IsStrictlySortedBy}
use Rattle.std.proofs.lemmas.Map.Keys.{sorted_head, sorted_tail}
use Rattle.std.proofs.lemmas.Bool.{eqb-true}
use Rattle.std.specs.Map.{keys_of, lookup}
use Rattle.std.specs.Ordering.{eq_by_cmp, is_lt}
use Rattle.std.specs.declared.cmp.Ordering.TheVariants.{Less}
use Rattle.std.specs.FinMap.{empty, entries, entries-from_sorted, find, from_sorted, get, get-from_sorted, is_sorted, same_map}
use Rattle.std.specs.FinMap.Entries.{below_all}
use Rattle.std.specs.BTreeMap.{BTreeMap, is_at, IsOrdered}
use Rattle.keeper_api.specs.Rows.{Spot, spot_cmp, is_behind, row_of}
use Rattle.keeper_api.specs.RowLaws.{spots_total, exact_spots, same_spot}
use Rattle.module_effects.specs.Rows.{Tables}
use Rattle.update_records.specs.Ledger.{with_map}
use Rattle.record_laws.proofs.Keyed.{is_named, unname, unname_name}
use Rattle.store_reading.specs.Ids.{text_cmp, text_id, text_name}
use Rattle.store_reading.specs.Posting.{text_row, AreTexts}
use Rattle.store_reading.specs.Posts.{difference_from, is_business, rows_for}
use Rattle.update_records.specs.declared.stored.Record.{Record}
use Rattle.store_reading.specs.declared.rules.Place.{Place}
use Rattle.store_reading.specs.declared.text_id.TextId.{TextId}
use Rattle.store_reading.proofs.lemmas.Shelved.{named_here, named_spot}
use Rattle.store_reading.proofs.TablesStand.{get_alone}

both_T : (a b : Bool) → T a → T b → T (a && b)
both_T true b h k = k
both_T false b h k = absurd h

abbrev Texts : Type 0
Texts = List (TextId × List ℕ)

-- the row of a text, with its place in the store
abbrev placed : TextId × List ℕ → Spot × List ℕ
placed e = ((6, text_name e.0), e.1)

-- ---- in order

below_placed : (id : TextId) (es : Texts) → AllByRecursion (λ other. text_cmp id other ≡ Less) (keys_of es)
    → T (below_all spot_cmp (6, text_name id) (map placed es))
below_placed id [] all = tt
below_placed id (e ∷ es) all = both_T (is_lt (text_cmp id e.0)) _ (subst (λ o. T (is_lt o)) (sym all.0) tt) (below_placed id es all.1)

sorted_placed : (es : Texts) → IsStrictlySortedBy text_cmp (keys_of es) → T (is_sorted spot_cmp (map placed es))
sorted_placed [] h = tt
sorted_placed (e ∷ es) h = both_T (below_all spot_cmp (6, text_name e.0) (map placed es)) _ (below_placed e.0 es (sorted_head text_cmp e.0 (keys_of es) h))
    (sorted_placed es (sorted_tail text_cmp e.0 (keys_of es) h))

-- ---- the same rows

id_name : (id : TextId) → text_id (unname (text_name id)) ≡ id
id_name id = ap text_id (unname_name (id.table, id.key))

-- a spot is that of a text where it is named so
at_text : (q : Spot) (id : TextId) → is_named 6 q ≡ true → eq_by_cmp spot_cmp q (6, text_name id) ≡ eq_by_cmp text_cmp (text_id (unname q.1)) id
at_text q id is = ap (λ s. eq_by_cmp spot_cmp s (6, text_name id)) (sym (named_spot 6 q is))

found : (q : Spot) (es : Texts) → is_named 6 q ≡ true → find spot_cmp q (map placed es) ≡ lookup (is_at (text_cmp (text_id (unname q.1)))) es
found q [] is = refl
found q (e ∷ es) is =
    ap (λ b. cond b (Some e.1) (find spot_cmp q (map placed es))) (at_text q e.0 is)
    ∙ ap (cond (eq_by_cmp text_cmp (text_id (unname q.1)) e.0) (Some e.1)) (found q es is)

unfound : (q : Spot) (es : Texts) → is_named 6 q ≡ false → find spot_cmp q (map placed es) ≡ None
unfound q [] is = refl
unfound q (e ∷ es) is =
    elim (eq_by_cmp spot_cmp q (6, text_name e.0))
    as (λ b. eq_by_cmp spot_cmp q (6, text_name e.0) ≡ b → cond b (Some e.1) (find spot_cmp q (map placed es)) ≡ None) [
      | true ↦ λ h. let wrong : false ≡ true = sym is ∙ ap (is_named 6) (same_spot q (6, text_name e.0) h) ∙ named_here 6 (e.0.table, e.0.key) in cc
      | false ↦ λ h. unfound q es is
    ] refl

same_found : (texts : BTreeMap TextId (List ℕ)) (tables : Tables) → AreTexts texts tables → (q : Spot)
    → find spot_cmp q (map placed texts.entries) ≡ cond (is_named 6 q) (get tables (unname q.1)) None
same_found texts tables are q =
    elim (is_named 6 q) as (λ b. is_named 6 q ≡ b → find spot_cmp q (map placed texts.entries) ≡ cond b (get tables (unname q.1)) None) [
      | true ↦ λ is. found q texts.entries is ∙ are (unname q.1)
      | false ↦ λ is. unfound q texts.entries is
    ] refl

same_rows : (texts : BTreeMap TextId (List ℕ)) (tables : Tables) → AreTexts texts tables → T (is_sorted spot_cmp (map placed texts.entries))
    → map placed texts.entries ≡ entries (with_map 6 (λ (t : List ℕ). t) tables empty)
same_rows texts tables are sorted =
    sym (entries-from_sorted spot_cmp (map placed texts.entries) sorted)
    ∙ ap entries (same_map spots_total exact_spots (from_sorted (map placed texts.entries)) (with_map 6 (λ (t : List ℕ). t) tables empty) (λ q.
    get-from_sorted spot_cmp (map placed texts.entries) q sorted
    ∙ same_found texts tables are q
    ∙ sym (get_alone tables q)))

all_behind : (es : Texts) → map row_of (filter (is_behind 6 []) (map placed es)) ≡ map text_row es
all_behind [] = refl
all_behind (e ∷ es) = ap (text_row e ∷◌) (all_behind es)

-- the rows of the tables are those of the texts, in their order
pub rows_of_texts : (texts : BTreeMap TextId (List ℕ)) (tables : Tables) → AreTexts texts tables → IsOrdered text_cmp texts
    → rows_for tables ≡ map text_row texts.entries
rows_of_texts texts tables are ordered =
    sym (ap (λ es. map row_of (filter (is_behind 6 []) es)) (same_rows texts tables are (sorted_placed texts.entries ordered)))
    ∙ all_behind texts.entries

-- ---- the first difference

abbrev at_row : ℕ → Option Place
at_row n = Some (record { table = 6; row = n })

-- a text without a record
pub short_here : (row : ℕ) (e : TextId × List ℕ) (es left : Texts) (records : List Record) (all : Option Place) → left ≡ e ∷ es → length records ≡ 0
    → difference_from row (map text_row left) records ≡ all → at_row row ≡ all
short_here row e es left [] all is none h = sym (ap (λ ts. difference_from row (map text_row ts) []) is) ∙ h
short_here row e es left (r ∷ records) all is none h = absurd (omega arith)

-- a text with another record
pub other_here : (row : ℕ) (e : TextId × List ℕ) (es left : Texts) (r : Record) (rest records : List Record) (b : Bool) (all : Option Place) → left ≡ e ∷ es
    → records ≡ r ∷ rest
    → b ≡ is_business (text_row e) r → b ≡ false → difference_from row (map text_row left) records ≡ all → at_row row ≡ all
other_here row e es left r rest records b all is first test fails h =
    sym (ap (λ ts. difference_from row (map text_row ts) records) is
    ∙ ap (difference_from row (map text_row (e ∷ es))) first
    ∙ ap (λ t. cond t (difference_from (row + 1) (map text_row es) rest) (at_row row)) (sym test ∙ fails))
    ∙ h

-- as many records as texts
pub none_here : (row : ℕ) (left : Texts) (records : List Record) (b : Bool) (all : Option Place) → left ≡ [] → b ≡ nat_eq (length records) 0 → b ≡ true
    → difference_from row (map text_row left) records ≡ all → None ≡ all
none_here row left [] b all is test passes h = sym (ap (λ ts. difference_from row (map text_row ts) []) is) ∙ h
none_here row left (r ∷ records) b all is test passes h = let odd : length (r ∷ records) ≡ 0 = eqb-true (length (r ∷ records)) 0 (sym test ∙ passes) in
    absurd (omega arith)

-- more records than texts
pub more_here : (row : ℕ) (left : Texts) (records : List Record) (b : Bool) (all : Option Place) → left ≡ [] → b ≡ nat_eq (length records) 0 → b ≡ false
    → difference_from row (map text_row left) records ≡ all → at_row row ≡ all
more_here row left [] b all is test fails h = let odd : true ≡ false = sym test ∙ fails in cc
more_here row left (r ∷ records) b all is test fails h = sym (ap (λ ts. difference_from row (map text_row ts) (r ∷ records)) is) ∙ h

-- the same of the rows for tables
pub for_tables : (texts : BTreeMap TextId (List ℕ)) (business : List Record) (place : Option Place) → IsOrdered text_cmp texts
    → place ≡ difference_from 1 (map text_row texts.entries) business
    → (tables : Tables) → AreTexts texts tables → place ≡ difference_from 1 (rows_for tables) business
for_tables texts business place ordered is tables are = is ∙ sym (ap (λ rows. difference_from 1 rows business) (rows_of_texts texts tables are ordered))
