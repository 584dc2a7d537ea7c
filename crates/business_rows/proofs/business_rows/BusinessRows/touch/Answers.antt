use Rattle.std.proofs.Common.{◌≡◌, ◌++◌, ◌∷◌, [], true, false, sym, ap, subst, ◌∙◌}
use Rattle.std.specs.FinMap.{get}
use Rattle.std.specs.List.{list_any}
use Rattle.module_effects.specs.Rows.{row_of}
use Rattle.module_effects.specs.Spots.{is_at}
use Rattle.module_effects.specs.declared.spot.Spot.{Spot}
use Rattle.business_rows.specs.Touched.{HasRowsOnce}
use Rattle.business_rows.proofs.TouchedRows.{any_last, once_more, spot_of}
use Rattle.business_rows.proofs.business_rows.BusinessRows.touch.Goals as goal

pub returns-clause-covered : goal.returns-clause-covered
returns-clause-covered c =
    let effect = c.args.effect.now in
    let spots = c.args.spots.now.items in
    let text = get c.args.self.now.tables (row_of effect) in
    let now = c.in_ok-push.ensures.items ∙ ap (λ (s : Spot). spots ++ s ∷ []) c.in_ok-spot.ensures in
    subst (λ ss. list_any (is_at (row_of effect)) ss ≡ true) (sym now) (any_last spots effect text)

pub returns-clause-once : goal.returns-clause-once
returns-clause-once c h =
    let effect = c.args.effect.now in
    let spots = c.args.spots.now.items in
    let text = get c.args.self.now.tables (row_of effect) in
    let now = c.in_ok-push.ensures.items ∙ ap (λ (s : Spot). spots ++ s ∷ []) c.in_ok-spot.ensures in
    let none : list_any (is_at (row_of effect)) spots ≡ false = ap (list_any (is_at (row_of effect))) (sym c.as_slice.ensures.value)
    ∙ sym c.is_touched.ensures ∙ c.if-is_touched.false in
    subst HasRowsOnce (sym now) (once_more spots (spot_of effect text) none h)
