use Rattle.std.proofs.Common.{ap, sym, ◌∙◌}
use Rattle.posting.proofs.RowOrder.{in_order}
use Rattle.ledger_steps.specs.Intervals.{IntervalsView, in_row_order}
use Rattle.posting.proofs.interval_list.IntervalList.intervals.Goals as goal

pub returns : goal.returns
returns c =
    c.as_slice.ensures.value ∙ sym (in_order c.self.inside.items.items c.self.invariant)
    ∙ ap (λ (v : IntervalsView). in_row_order v.levels) c.self.view_is
