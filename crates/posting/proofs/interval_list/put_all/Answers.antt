use Rattle.std.proofs.Common.{sym, ap, arith, ◌∙◌}
use Rattle.std.specs.FinMap.{insert}
use Rattle.update_records.specs.Ledger.{Levels}
use Rattle.update_records.specs.Intervals.{level_of, named}
use Rattle.posting.proofs.StoredIntervals.{levels_more}
use Rattle.posting.proofs.interval_list.put_all.Goals as goal

pub loop-interval-preserved : goal.loop-interval-preserved
loop-interval-preserved c =
    let new = c.interval-item.result in
    record {
      levels = c.put.ensures.levels ∙ ap (λ (m : Levels). insert m (named new) (level_of new)) c.loop-interval.invariant.levels
          ∙ sym (levels_more c.args.intervals.now c.args.list.now.levels c.loop-interval.interval-index new c.loop-interval-test.true c.interval-item.is);
      spare = omega (arith, c.loop-interval.invariant.spare, c.put.ensures.spare);
    }
