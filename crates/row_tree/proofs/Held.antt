-- The rows that stand in the places of a tree.
use Rattle.std.proofs.Common.{Bor, ◌≡◌, true, false, cond, ◌&&◌, IsTrue, ℕ, List, [], ◌∷◌, Option, Some, None, refl, sym, ap, ◌∙◌, subst}
use Rattle.std.specs.Prelude.{is_some, MatchOption}
use Rattle.std.specs.Option.{option_copied}
use Rattle.std.specs.List.{AllByRecursion}
use Rattle.std.specs.List.Sorted.{IsStrictlySortedBy}
use Rattle.std.specs.Map.{keys_of}
use Rattle.std.specs.Ordering.{eq_by_cmp, is_eq, is_lt}
use Rattle.std.specs.Cmp.{eq_by_cmp_equiv}
use Rattle.std.specs.declared.cmp.Ordering.TheVariants.{Less}
use Rattle.std.specs.FinMap.{get, insert, remove, find, is_sorted, get-insert, get-remove, same_map}
use Rattle.std.specs.FinMap.Entries.{below_all}
use Rattle.keeper_api.specs.Rows.{Spot, spot_cmp}
use Rattle.keeper_api.specs.RowLaws.{spots_total, exact_spots, same_spot}
use Rattle.sorted_rows.proofs.lemmas.Views.{view_get}
use Rattle.row_tree.specs.Keys.{spot, key_cmp}
use Rattle.row_tree.specs.Places.{Entry, Place, with_value, held, rows_of, AreInOrder, place_at}
use Rattle.row_tree.specs.declared.row_key.RowKey.{RowKey}

-- the row that stands in what was found
abbrev pub value_in : Option (Option (List ℕ)) → Option (List ℕ)
value_in None = None
value_in (Some place) = place

find_with : (q s : Spot) (v : Option (List ℕ)) (es : List Entry) → eq_by_cmp spot_cmp q s ≡ false → find spot_cmp q (with_value s v es) ≡ find spot_cmp q es
find_with q s None es h = refl
find_with q s (Some v) es h = ap (λ b. cond b (Some v) (find spot_cmp q es)) h

find_there : (q s : Spot) (v : Option (List ℕ)) (es : List Entry) → eq_by_cmp spot_cmp q s ≡ true → find spot_cmp q es ≡ None
    → find spot_cmp q (with_value s v es) ≡ v
find_there q s None es h none = none
find_there q s (Some v) es h none = ap (λ b. cond b (Some v) (find spot_cmp q es)) h

none_behind : (k : RowKey) (ps : List Place) → AllByRecursion (λ y. key_cmp k y ≡ Less) (keys_of ps) → find spot_cmp (spot k) (held ps) ≡ None
none_behind k [] h = refl
none_behind k (p ∷ ps) h = find_with (spot k) (spot p.0) p.1 (held ps) (ap is_eq h.0) ∙ none_behind k ps h.1

find_held : (ps : List Place) → AreInOrder ps → (q : Spot) → find spot_cmp q (held ps) ≡ value_in (place_at ps q)
unfolding IsStrictlySortedBy
find_held [] h q = refl
find_held (p ∷ ps) h q =
    elim (eq_by_cmp spot_cmp q (spot p.0))
    as (λ b. eq_by_cmp spot_cmp q (spot p.0) ≡ b → find spot_cmp q (with_value (spot p.0) p.1 (held ps)) ≡ value_in (cond b (Some p.1) (place_at ps q))) [
      | true ↦ λ e. find_there q (spot p.0) p.1 (held ps) e
          (subst (λ s. find spot_cmp s (held ps) ≡ None) (sym (same_spot q (spot p.0) e)) (none_behind p.0 ps h.0))
      | false ↦ λ e. find_with q (spot p.0) p.1 (held ps) e ∙ find_held ps h.1 q
    ] refl

below_with : (q s : Spot) (v : Option (List ℕ)) (es : List Entry) → spot_cmp q s ≡ Less → IsTrue (below_all spot_cmp q es)
    → IsTrue (below_all spot_cmp q (with_value s v es))
below_with q s None es less rest = rest
below_with q s (Some v) es less rest = ap (λ r. is_lt r && below_all spot_cmp q es) less ∙ rest

below_held : (k : RowKey) (ps : List Place) → AllByRecursion (λ y. key_cmp k y ≡ Less) (keys_of ps) → IsTrue (below_all spot_cmp (spot k) (held ps))
below_held k [] h = refl
below_held k (p ∷ ps) h = below_with (spot k) (spot p.0) p.1 (held ps) h.0 (below_held k ps h.1)

sorted_with : (s : Spot) (v : Option (List ℕ)) (es : List Entry) → IsTrue (below_all spot_cmp s es) → IsTrue (is_sorted spot_cmp es)
    → IsTrue (is_sorted spot_cmp (with_value s v es))
sorted_with s None es below sorted = sorted
sorted_with s (Some v) es below sorted = ap (λ b. b && is_sorted spot_cmp es) below ∙ sorted

pub sorted_held : (ps : List Place) → AreInOrder ps → IsTrue (is_sorted spot_cmp (held ps))
unfolding IsStrictlySortedBy
sorted_held [] h = refl
sorted_held (p ∷ ps) h = sorted_with (spot p.0) p.1 (held ps) (below_held p.0 ps h.0) (sorted_held ps h.1)

pub get_rows : (ps : List Place) → AreInOrder ps → (q : Spot) → get (rows_of ps) q ≡ value_in (place_at ps q)
get_rows ps h q = view_get (held ps) q (sorted_held ps h) ∙ find_held ps h q

-- at one key there is w now, and at every other what there was
abbrev pub SetsPlace : List Place → List Place → RowKey → Option (Option (List ℕ)) → Type 0
SetsPlace old new key w = (q : Spot) → place_at new q ≡ cond (eq_by_cmp spot_cmp (spot key) q) w (place_at old q)

module _ (old new : List Place) (ordered_old : AreInOrder old) (ordered : AreInOrder new) (key : RowKey) where
  same_values : (w : Option (Option (List ℕ))) → SetsPlace old new key w → value_in w ≡ None → value_in (place_at old (spot key)) ≡ None → (q : Spot)
      → value_in (place_at new q) ≡ value_in (place_at old q)
  same_values w sets now before q =
      ap value_in (sets q)
      ∙ elim (eq_by_cmp spot_cmp (spot key) q) as (λ b. eq_by_cmp spot_cmp (spot key) q ≡ b → value_in (cond b w (place_at old q)) ≡ value_in (place_at old q)) [
        | true ↦ λ e. now ∙ sym (subst (λ s. value_in (place_at old s) ≡ None) (same_spot (spot key) q e) before)
        | false ↦ λ e. refl
      ] refl

  -- a place without a row comes or goes
  pub same_rows : (w : Option (Option (List ℕ))) → SetsPlace old new key w → value_in w ≡ None → value_in (place_at old (spot key)) ≡ None
      → rows_of new ≡ rows_of old
  same_rows w sets now before =
      same_map spots_total exact_spots _ _ (λ q. get_rows new ordered q ∙ same_values w sets now before q ∙ sym (get_rows old ordered_old q))

  get_set : (w : Option (Option (List ℕ))) → SetsPlace old new key w → (q : Spot)
      → get (rows_of new) q ≡ cond (eq_by_cmp spot_cmp q (spot key)) (value_in w) (get (rows_of old) q)
  get_set w sets q =
      get_rows new ordered q
      ∙ ap value_in (sets q)
      ∙ elim (eq_by_cmp spot_cmp (spot key) q) as (λ b. value_in (cond b w (place_at old q)) ≡ cond b (value_in w) (value_in (place_at old q)))
      [ true ↦ refl | false ↦ refl ]
      ∙ ap (λ b. cond b (value_in w) (value_in (place_at old q))) ((eq_by_cmp_equiv spots_total).symm (spot key) q)
      ∙ ap (cond (eq_by_cmp spot_cmp q (spot key)) (value_in w)) (sym (get_rows old ordered_old q))

  pub put_rows : (v : List ℕ) → SetsPlace old new key (Some (Some v)) → rows_of new ≡ insert (rows_of old) (spot key) v
  put_rows v sets = same_map spots_total exact_spots _ _ (λ q. get_set (Some (Some v)) sets q ∙ sym (get-insert spots_total (rows_of old) (spot key) v q))

  pub removed_rows : SetsPlace old new key None → rows_of new ≡ remove (rows_of old) (spot key)
  removed_rows sets = same_map spots_total exact_spots _ _ (λ q. get_set None sets q ∙ sym (get-remove spots_total (rows_of old) (spot key) q))

pub other_stays : (old new : List Place) (key : RowKey) → SetsPlace old new key None → (at : Spot) → (at ≡ spot key → ⊥) → IsTrue (is_some (place_at old at))
    → IsTrue (is_some (place_at new at))
other_stays old new key sets at apart there =
    ap is_some (sets at)
    ∙ elim (eq_by_cmp spot_cmp (spot key) at) as (λ b. eq_by_cmp spot_cmp (spot key) at ≡ b → IsTrue (is_some (cond b None (place_at old at)))) [
      | true ↦ λ e. absurd (apart (sym (same_spot (spot key) at e)))
      | false ↦ λ e. there
    ] refl

pub none_there : (o : Option (Option (List ℕ))) → is_some o ≡ false → value_in o ≡ None
none_there None h = refl
none_there (Some v) h = cc

-- what a search for the row tells
pub told : (r : Option (Bor (List ℕ))) (o : Option (List ℕ)) → o ≡ option_copied r → MatchOption r (o ≡ None) (λ v. o ≡ Some v.now)
told None o e = e
told (Some v) o e = e
