use Rattle.std.proofs.Common.{sym, ap, ◌∙◌}
use Rattle.update_records.specs.Intervals.{levels_of}
use Rattle.ledger_steps.specs.Intervals.{IntervalsView, in_row_order}
use Rattle.posting.proofs.RowOrder.{in_order}
use Rattle.posting.proofs.interval_list.IntervalList.has_same.Goals as goal

pub returns : goal.returns
returns c =
    let own = ap (λ (v : IntervalsView). v.levels) c.self.view_is in
    let others = ap (λ (v : IntervalsView). v.levels) c.other.view_is in (
      λ t. sym own ∙ ap levels_of (sym c.as_slice.ensures.value ∙ c.are_same.ensures.0 t ∙ c.as_slice-2.ensures.value) ∙ others,
      λ e. c.are_same.ensures.1 (c.as_slice.ensures.value ∙ sym (in_order c.self.inside.items.items c.self.invariant)
          ∙ ap in_row_order (own ∙ e ∙ sym others) ∙ in_order c.other.inside.items.items c.other.invariant ∙ sym c.as_slice-2.ensures.value),
    )
