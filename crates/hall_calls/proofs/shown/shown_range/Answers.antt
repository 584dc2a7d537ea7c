use Rattle.std.proofs.Common.{sym, subst, ◌∙◌}
use Rattle.number_ranges.specs.Draws.{IsRange}
use Rattle.hall_calls.proofs.RangesShown.{shown_by}
use Rattle.hall_calls.proofs.shown.shown_range.Goals as goal

pub range_of-requires : goal.range_of-requires
range_of-requires g c =
    let levels = c.args.books.now.ledger.levels in
    let same = shown_by c.args.sessions.now levels c.args.range.now _ _ _ c.present-interval.ensures c.next_of-next.ensures c.holder.ensures in
    subst IsRange (sym same) c.requires.range

pub returns : goal.returns
returns g c =
    c.range_of.ensures
    ∙ shown_by c.args.sessions.now c.args.books.now.ledger.levels c.args.range.now _ _ _ c.present-interval.ensures c.next_of-next.ensures c.holder.ensures
