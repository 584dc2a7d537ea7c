use Rattle.std.proofs.Common.{◌≡◌, sym, ap, subst}
use Rattle.std.specs.Prelude.{IfOk, map}
use Rattle.ledger_steps.specs.Drawn.{AreDrawnRight}
use Rattle.update_records.specs.Business.{numbers_of}
use Rattle.hall_model.specs.Kept.{IsDrawn, draws_in}
use Rattle.hall_model.specs.Numbers.{range_shown}
use Rattle.hall_calls.specs.View.{View}
use Rattle.hall_model.specs.Views.{ranges_shown}
use Rattle.hall_calls.proofs.present.Present.ranges.Goals as goal

pub shown_ranges-requires : goal.shown_ranges-requires
shown_ranges-requires g c =
    let old = c.self.inside in
    let books = old.books.ledger in
    let drawn = subst (λ (v : View _ _ _). IsDrawn v.state) (sym c.self.view_is) c.requires.drawn in
    subst (λ rs. AreDrawnRight rs books.levels (draws_in old.sessions) (numbers_of books.units books.marks)) (sym c.as_slice.ensures) drawn

pub returns : goal.returns
returns g c =
    let old = c.self.inside in
    subst (λ (v : View _ _ _). IfOk c.shown_ranges.result (λ shown. shown.items ≡ ranges_shown v.state)) c.self.view_is
    (subst (λ xs. IfOk c.shown_ranges.result (λ shown. shown.items ≡ xs))
    (ap (map (range_shown old.sessions old.books.ledger.levels)) c.as_slice.ensures) c.shown_ranges.ensures)
