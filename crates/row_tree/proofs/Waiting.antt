-- A batch that waits, with a place for each row that it changes.
use Rattle.std.proofs.Common.{◌≡◌, true, false, IsTrue, ℕ, List, [], ◌∷◌, ◌++◌, map, Option, Some, None, refl, sym, ap, ◌∙◌, subst}
use Rattle.std.specs.Prelude.{is_some}
use Rattle.std.specs.List.{AllByRecursion, IsDistinct}
use Rattle.std.specs.Ordering.{is_eq}
use Rattle.std.specs.Cmp.{tied_itself}
use Rattle.std.specs.FinMap.{empty}
use Rattle.sorted_rows.specs.Views.{RowsView}
use Rattle.sorted_rows.proofs.lemmas.Views.{view_empty}
use Rattle.keeper_api.specs.Batch.{changed, changed_once, spot_of, is_same_spot}
use Rattle.keeper_api.specs.Rows.{Rows, Spot}
use Rattle.keeper_api.specs.RowLaws.{spots_total}
use Rattle.keeper_api.specs.declared.rows.Change.{Change}
use Rattle.row_tree.specs.Keys.{spot}
use Rattle.row_tree.specs.Places.{Place, place_at, rows_of}
use Rattle.row_tree.specs.Steps.{change_to, change_of, HasPlace, ArePlaced, AreApart}
use Rattle.row_tree.specs.declared.row_key.RowKey.{RowKey}
use Rattle.row_tree.specs.declared.steps.Step.{Step}

-- each place that was there is there
abbrev pub Stay : List Place → List Place → Type 0
Stay old new = (at : Spot) → IsTrue (is_some (place_at old at)) → IsTrue (is_some (place_at new at))

placed_still : (old new : List Place) → Stay old new → (steps : List Step) → ArePlaced old steps → ArePlaced new steps
placed_still old new stay [] h = tt
placed_still old new stay (step ∷ steps) h = (stay (spot step.key) h.0, placed_still old new stay steps h.1)

placed_push : (ps : List Place) (steps : List Step) (step : Step) → ArePlaced ps steps → HasPlace ps step → ArePlaced ps (steps ++ step ∷ [])
placed_push ps [] step h there = (there, tt)
placed_push ps (s ∷ steps) step h there = (h.0, placed_push ps steps step h.1 there)

-- one step more waits
pub placed_more : (old new : List Place) (steps more : List Step) (step : Step) → more ≡ steps ++ step ∷ [] → Stay old new → HasPlace new step
    → ArePlaced old steps → ArePlaced new more
placed_more old new steps more step is stay there h = subst (ArePlaced new) (sym is) (placed_push new steps step (placed_still old new stay steps h) there)

pub none_placed : (ps : List Place) (steps : List Step) → steps ≡ [] → ArePlaced ps steps
none_placed ps steps none = subst (ArePlaced ps) (sym none) tt

pub none_apart : (steps : List Step) → steps ≡ [] → AreApart steps
unfolding IsDistinct
none_apart steps none = subst AreApart (sym none) tt

spot_to : (key : RowKey) (value : Option (List ℕ)) → spot_of (change_to key value) ≡ spot key
spot_to key None = refl
spot_to key (Some v) = refl

spots_of : (steps : List Step) → map spot_of (map change_of steps) ≡ map (λ (step : Step). spot step.key) steps
spots_of [] = refl
spots_of (step ∷ steps) = λ i. spot_to step.key step.value i ∷ spots_of steps i

-- the rows of a batch are told apart, and so are those of its steps
pub apart_of : (batch : List Change) (steps : List Step) → map change_of steps ≡ batch → IsDistinct is_same_spot (map spot_of batch) → AreApart steps
apart_of batch steps is distinct = subst (IsDistinct is_same_spot) (ap (map spot_of) (sym is) ∙ spots_of steps) distinct

not_same : (a b : Spot) → is_same_spot a b ≡ false → b ≡ a → ⊥
not_same a b apart same = let tied = ap (λ s. is_same_spot a s) same ∙ ap is_eq (tied_itself spots_total a) in let h : true ≡ false = sym tied ∙ apart in cc

module _ (old new : List Place) (key : RowKey)
    (others : (at : Spot) → (at ≡ spot key → ⊥) → IsTrue (is_some (place_at old at)) → IsTrue (is_some (place_at new at))) where
  rest_placed : (steps : List Step) → AllByRecursion (λ s. is_same_spot (spot key) s ≡ false) (map (λ (step : Step). spot step.key) steps) → ArePlaced old steps
      → ArePlaced new steps
  rest_placed [] apart h = tt
  rest_placed (step ∷ steps) apart h = (others (spot step.key) (not_same (spot key) (spot step.key) apart.0) h.0, rest_placed steps apart.1 h.1)

-- what waits behind a step that was made
pub after_step : (old new : List Place) (steps rest : List Step) (step : Step) → steps ≡ step ∷ rest
    → ((at : Spot) → (at ≡ spot step.key → ⊥) → IsTrue (is_some (place_at old at)) → IsTrue (is_some (place_at new at)))
    → ArePlaced old steps → AreApart steps → ArePlaced new rest × AreApart rest
unfolding IsDistinct
after_step old new steps rest step is others placed apart =
    let told = subst AreApart is apart in
    (rest_placed old new step.key others rest told.0 (subst (ArePlaced old) is placed).1, told.1)

pub made_more : (steps rest : List Step) (step : Step) (rows now last : Rows) → steps ≡ step ∷ rest → now ≡ changed_once (change_of step) rows
    → changed (map change_of steps) rows ≡ last → changed (map change_of rest) now ≡ last
made_more steps rest step rows now last is made h = ap (changed (map change_of rest)) made ∙ ap (λ s. changed (map change_of s) rows) (sym is) ∙ h

abbrev shown : List Place → List Step → RowsView
shown ps steps = record { rows = rows_of ps; made = changed (map change_of steps) (rows_of ps) }

-- what is shown without rows
pub nothing_shown : (ps : List Place) (steps : List Step) → ps ≡ [] → steps ≡ [] → shown ps steps ≡ record { rows = empty; made = empty }
nothing_shown ps steps none waits = (λ i. shown (none i) (waits i)) ∙ ap (λ rows. record { rows = rows; made = rows }) view_empty
