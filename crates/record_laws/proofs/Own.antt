-- Changes of the store's own tables.
use Rattle.std.proofs.Common.{◌≡◌, Bool, true, false, cond, List, [], ◌∷◌, None, refl, sym, ap, ◌∙◌}
use Rattle.std.specs.List.{AllByRecursion}
use Rattle.std.specs.Ordering.{eq_by_cmp}
use Rattle.std.specs.declared.cmp.Ordering.TheVariants.{Equal}
use Rattle.std.specs.FinMap.{get, get-retain_keys, same_map}
use Rattle.keeper_api.specs.declared.rows.Change.{Change}
use Rattle.keeper_api.specs.Rows.{Spot, spot_cmp, Rows}
use Rattle.keeper_api.specs.Batch.{spot_of, changed, changed_once}
use Rattle.keeper_api.specs.RowLaws.{spots_total, exact_spots, same_spot, get_once, value_in}
use Rattle.update_records.specs.Ledger.{own, is_own}

within : {A : Type 0} (a b : Bool) (v x y : A) → (a ≡ true → b ≡ true) → cond b (cond a v x) y ≡ cond a v (cond b x y)
within true true v x y h = refl
within true false v x y h = let wrong : false ≡ true = h refl in cc
within false b v x y h = refl

alike : (q x : Spot) → spot_cmp q x ≡ Equal → is_own x ≡ is_own q
alike q x e = ap is_own (sym (exact_spots q x e))

pub get_own : (rows : Rows) (q : Spot) → get (own rows) q ≡ cond (is_own q) (get rows q) None
get_own rows q = get-retain_keys rows is_own q (alike q)

own_once : (c : Change) (rows : Rows) → is_own (spot_of c) ≡ true → own (changed_once c rows) ≡ changed_once c (own rows)
own_once c rows h = same_map spots_total exact_spots _ _ (λ q.
    get_own (changed_once c rows) q
    ∙ ap (λ v. cond (is_own q) v None) (get_once c rows q)
    ∙ within (eq_by_cmp spot_cmp q (spot_of c)) (is_own q) (value_in c) (get rows q) None (λ e. ap is_own (same_spot q (spot_of c) e) ∙ h)
    ∙ ap (cond (eq_by_cmp spot_cmp q (spot_of c)) (value_in c)) (sym (get_own rows q))
    ∙ sym (get_once c (own rows) q))

-- each change is in one of the store's tables
abbrev pub AreOwn : List Change → Type 0
AreOwn batch = AllByRecursion (λ change. is_own (spot_of change) ≡ true) batch

pub own_changed : (batch : List Change) (rows : Rows) → AreOwn batch → own (changed batch rows) ≡ changed batch (own rows)
own_changed [] rows h = refl
own_changed (c ∷ batch) rows h = own_changed batch (changed_once c rows) h.1 ∙ ap (changed batch) (own_once c rows h.0)
