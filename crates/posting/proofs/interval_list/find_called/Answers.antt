use Rattle.std.proofs.Common.{sym, ap, ◌∙◌}
use Rattle.module_effects.specs.Rows.{RowName}
use Rattle.posting.proofs.StoredIntervals.{called_of, found_called}
use Rattle.posting.proofs.interval_list.find_called.Goals as goal

pub returns-in_err-item : goal.returns-in_err-item
returns-in_err-item c =
    let name : RowName = (c.args.object.now, c.args.nr) in
    found_called _ c.args.items.now name c.place_of.result c.interval_at.result c.place_of.ensures.place c.interval_at.ensures
    (c.from_residual.ensures ∙ ap (called_of name) (sym c.in_err-item.was))

pub returns : goal.returns
returns c =
    let name : RowName = (c.args.object.now, c.args.nr) in
    found_called _ c.args.items.now name c.place_of.result c.interval_at.result c.place_of.ensures.place c.interval_at.ensures
    (c.if_called.ensures ∙ ap (called_of name) (sym c.in_ok-item.was))
