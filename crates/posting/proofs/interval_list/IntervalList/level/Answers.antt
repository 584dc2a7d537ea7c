use Rattle.std.proofs.Common.{sym, ap, ◌∙◌}
use Rattle.std.specs.Option.{option_map}
use Rattle.ledger_steps.specs.Intervals.{IntervalsView}
use Rattle.update_records.specs.declared.stored.StoredInterval.{StoredInterval}
use Rattle.posting.proofs.StoredIntervals.{level_read}
use Rattle.posting.proofs.interval_list.IntervalList.level.Goals as goal

pub returns-in_err-found : goal.returns-in_err-found
returns-in_err-found c =
    c.from_residual.ensures ∙ ap (option_map (λ (i : StoredInterval). i.level)) (sym c.in_err-found.was)
    ∙ level_read c.find_called.result c.as_slice.result.now c.self.inside.items.items c.args.self.now.levels
    (c.args.object.now, c.args.nr) c.find_called.ensures c.as_slice.ensures.value c.self.invariant (ap (λ (v : IntervalsView). v.levels) c.self.view_is)

pub returns : goal.returns
returns c =
    ap (option_map (λ (i : StoredInterval). i.level)) (sym c.in_ok-found.was)
    ∙ level_read c.find_called.result c.as_slice.result.now c.self.inside.items.items c.args.self.now.levels
    (c.args.object.now, c.args.nr) c.find_called.ensures c.as_slice.ensures.value c.self.invariant (ap (λ (v : IntervalsView). v.levels) c.self.view_is)
