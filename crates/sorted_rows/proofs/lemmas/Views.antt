-- The map that sorted entries make, after each change of the entries.
use Rattle.std.proofs.Common.{Result, Ok, Err, IfOk, Vec, Global, ◌≡◌, ℕ, Bool, true, false, cond, not, T, IsTrue, List, [], ◌∷◌, map, length, take, Option, None, refl, sym, ap, ◌∙◌, subst}
use Rattle.std.specs.List.{filter}
use Rattle.std.specs.Ordering.{eq_by_cmp, is_eq}
use Rattle.std.specs.Cmp.{alike_right, eq_by_cmp_equiv}
use Rattle.std.specs.FinMap.{empty, get, insert, remove, find, put, is_sorted, from_sorted, same_entries_map, entries-from_sorted, entries-insert}
use Rattle.std.specs.FinMap.{get-from_sorted, get-remove, same_map, len-entries, empty_of_len}
use Rattle.std.specs.FinMap.Entries.{is_sorted-put, is_sorted-where_key, find-where_key}
use Rattle.keeper_api.specs.Batch.{changed, changed_once}
use Rattle.keeper_api.specs.Rows.{Rows, Spot, spot_cmp, page_of, is_behind, row_of, IsPage}
use Rattle.keeper_api.specs.RowLaws.{spots_total, exact_spots}
use Rattle.keeper_api.specs.declared.rows.Change.{Change}
use Rattle.keeper_api.specs.declared.rows.Row.{Row}
use Rattle.sorted_rows.specs.Places.{Entry, entries_in, AreSorted}
use Rattle.sorted_rows.specs.Tables.{entries_from, rows_of, HasRoom}
use Rattle.sorted_rows.specs.Views.{RowsView}
use Rattle.sorted_rows.proofs.lemmas.Rise.{is_page}
use Rattle.sorted_rows.proofs.Numbered.{without, behind}

-- a test that is true, as FinMap says it
test_of : (b : Bool) → IsTrue b → T b
test_of true h = tt
test_of false h = cc

true_of : (b : Bool) → T b → IsTrue b
true_of true h = refl
true_of false h = absurd h

abbrev nothing : List Entry
nothing = []

pub view_empty : from_sorted {R = spot_cmp} nothing ≡ empty
view_empty = empty_of_len _ (len-entries _ ∙ ap length (entries-from_sorted spot_cmp [] tt))

pub view_get : (es : List Entry) (spot : Spot) → IsTrue (is_sorted spot_cmp es) → get (from_sorted {R = spot_cmp} es) spot ≡ find spot_cmp spot es
view_get es spot h = get-from_sorted spot_cmp es spot (test_of _ h)

pub sorted_put : (es new : List Entry) (spot : Spot) (v : List ℕ) → IsTrue (is_sorted spot_cmp es) → new ≡ put spot_cmp spot v es
    → IsTrue (is_sorted spot_cmp new)
sorted_put es new spot v h is = ap (is_sorted spot_cmp) is ∙ true_of _ (is_sorted-put spot_cmp spots_total spot v es (test_of _ h))

pub view_put : (es new : List Entry) (spot : Spot) (v : List ℕ) → IsTrue (is_sorted spot_cmp es) → new ≡ put spot_cmp spot v es
    → from_sorted {R = spot_cmp} new ≡ insert (from_sorted es) spot v
view_put es new spot v h is = same_entries_map _ _ (
    entries-from_sorted spot_cmp new (test_of _ (sorted_put es new spot v h is))
    ∙ is
    ∙ ap (put spot_cmp spot v) (sym (entries-from_sorted spot_cmp es (test_of _ h)))
    ∙ sym (entries-insert spots_total (from_sorted es) spot v))

pub sorted_remove : (es new : List Entry) (spot : Spot) → IsTrue (is_sorted spot_cmp es) → new ≡ without spot es → IsTrue (is_sorted spot_cmp new)
sorted_remove es new spot h is = ap (is_sorted spot_cmp) is ∙ true_of _ (is_sorted-where_key spot_cmp (λ k. not (eq_by_cmp spot_cmp spot k)) es (test_of _ h))

turned : {A : Type 0} (b : Bool) (x y : A) → cond (not b) x y ≡ cond b y x
turned true x y = refl
turned false x y = refl

pub view_remove : (es new : List Entry) (spot : Spot) → IsTrue (is_sorted spot_cmp es) → new ≡ without spot es
    → from_sorted {R = spot_cmp} new ≡ remove (from_sorted es) spot
view_remove es new spot h is = same_map spots_total exact_spots _ _ (λ q.
    view_get new q (sorted_remove es new spot h is)
    ∙ ap (find spot_cmp q) is
    ∙ find-where_key spot_cmp (λ k. not (eq_by_cmp spot_cmp spot k)) q (λ x t. ap (λ r. not (is_eq r)) (sym (alike_right spots_total q x spot t))) es
    ∙ turned (eq_by_cmp spot_cmp spot q) _ _
    ∙ ap (λ b. cond b None (find spot_cmp q es)) ((eq_by_cmp_equiv spots_total).symm spot q)
    ∙ ap (cond (eq_by_cmp spot_cmp q spot) None) (sym (view_get es q h))
    ∙ sym (get-remove spots_total (from_sorted es) spot q))

pub view_page : (es : List Entry) (table : ℕ) (after : List ℕ) (n : ℕ) → IsTrue (is_sorted spot_cmp es)
    → take n (map row_of (filter (is_behind table after) es)) ≡ page_of (from_sorted es) table after n
view_page es table after n h = ap (λ all. take n (map row_of (filter (is_behind table after) all))) (sym (entries-from_sorted spot_cmp es (test_of _ h)))

-- ---- what sorted rows show

abbrev Tables : Type 0
Tables = List (Vec Row Global)

abbrev pub shown : Tables → List Change → RowsView
shown tables waiting = record { rows = rows_of tables; made = changed waiting (rows_of tables) }

abbrev alike : Rows → RowsView
alike rows = record { rows = rows; made = rows }

pub shown_new : (tables : Tables) (waiting : List Change) → tables ≡ [] → waiting ≡ [] → shown tables waiting ≡ alike empty
shown_new tables waiting bare none = ap (shown tables) none ∙ ap (λ (t : Tables). alike (rows_of t)) bare ∙ ap alike view_empty

pub room_none : (waiting : List Change) (tables : Tables) → waiting ≡ [] → HasRoom (length waiting) waiting tables
room_none waiting tables none = subst (λ w. HasRoom (length w) w tables) (sym none) tt

pub got : (tables slice : Tables) (view : RowsView) (waiting : List Change) (rows : List Row) (table : ℕ) (key : List ℕ) (value : Option (List ℕ))
    → AreSorted (entries_from 0 tables) → slice ≡ tables → shown tables waiting ≡ view
    → find spot_cmp (table, key) (entries_from 0 slice) ≡ find spot_cmp (table, key) (entries_in table rows)
    → find spot_cmp (table, key) (entries_in table rows) ≡ value → value ≡ get view.rows (table, key)
got tables slice view waiting rows table key value h is view_is among found =
    sym found ∙ sym among ∙ ap (λ (s : Tables). find spot_cmp (table, key) (entries_from 0 s)) is ∙ sym (view_get (entries_from 0 tables) (table, key) h)
    ∙ ap (λ (v : RowsView). get v.rows (table, key)) view_is

pub paged : {E : Type 0} (r : Result (Vec Row Global) E) (tables slice : Tables) (view : RowsView) (waiting : List Change) (rows : List Row) (table : ℕ)
    (after : List ℕ) (n : ℕ) → AreSorted (entries_from 0 tables) → slice ≡ tables → shown tables waiting ≡ view
    → behind table after (entries_from 0 slice) ≡ behind table after (entries_in table rows)
    → IfOk r (λ page. page.items ≡ take n (map row_of (behind table after (entries_in table rows))))
    → IfOk r (λ page. page.items ≡ page_of view.rows table after n)
paged (Ok page) tables slice view waiting rows table after n h is view_is among ok =
    ok ∙ ap (λ es. take n (map row_of es)) (sym among) ∙ ap (λ (s : Tables). take n (map row_of (behind table after (entries_from 0 s)))) is
    ∙ view_page (entries_from 0 tables) table after n h ∙ ap (λ (v : RowsView). page_of v.rows table after n) view_is
paged (Err e) tables slice view waiting rows table after n h is view_is among ok = tt

pub page_shape : {E : Type 0} (r : Result (Vec Row Global) E) (rows : List Row) (table : ℕ) (after : List ℕ) (n : ℕ) → AreSorted (entries_in table rows)
    → IfOk r (λ page. page.items ≡ take n (map row_of (behind table after (entries_in table rows)))) → IfOk r (λ page. IsPage after n page.items)
page_shape (Ok page) rows table after n h ok = subst (IsPage after n) (sym ok) (is_page table after n (entries_in table rows) h)
page_shape (Err e) rows table after n h ok = tt

-- the same rows, in tables with more room
pub sorted_same : (old new : Tables) → entries_from 0 new ≡ entries_from 0 old → AreSorted (entries_from 0 old) → AreSorted (entries_from 0 new)
sorted_same old new same h = ap (is_sorted spot_cmp) same ∙ h

abbrev making : RowsView → RowsView
making view = record view { rows = view.made }

pub shown_made : (old new : Tables) (before waiting : List Change) (view : RowsView) → rows_of new ≡ changed before (rows_of old) → waiting ≡ []
    → shown old before ≡ view → shown new waiting ≡ record view { rows = view.made }
shown_made old new before waiting view made none was = ap (shown new) none ∙ ap alike made ∙ ap making was

pub made_more : (waiting : List Change) (change : Change) (rest : List Change) (old new : Tables) (all : Rows) → waiting ≡ change ∷ rest
    → rows_of new ≡ changed_once change (rows_of old) → changed waiting (rows_of old) ≡ all → changed rest (rows_of new) ≡ all
made_more waiting change rest old new all is made before = ap (changed rest) made ∙ ap (λ cs. changed cs (rows_of old)) (sym is) ∙ before
