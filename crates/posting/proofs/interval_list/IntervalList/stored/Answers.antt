use Rattle.std.proofs.Common.{◌≤◌, ap, arith, ◌∙◌}
use Rattle.ledger_steps.specs.Intervals.{IntervalsView}
use Rattle.posting.proofs.StoredIntervals.{stored_read}
use Rattle.posting.proofs.interval_list.IntervalList.stored.Goals as goal

pub returns : goal.returns
returns c =
    let some : 1 ≤ c.args.row = omega (arith, c.if-row-eq0.false) in
    c.interval_at.ensures ∙ stored_read c.args.row c.as_slice.result.now c.self.inside.items.items c.args.self.now.levels some c.as_slice.ensures.value
    c.self.invariant (ap (λ (v : IntervalsView). v.levels) c.self.view_is)
