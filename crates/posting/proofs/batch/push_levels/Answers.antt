use Rattle.posting.proofs.lemmas.LevelRows.{rows_more}
use Rattle.posting.proofs.batch.push_levels.Goals as goal

pub loop-level-preserved : goal.loop-level-preserved
loop-level-preserved c =
    rows_more c.args.levels.now c.loop-level.level-index c.level-item.result c.in_ok-encode_interval.field-0 c.args.batch.now.items c.loop-level.batch.items
    c.push.new.self.items
    c.loop-level-test.true c.level-item.is c.in_ok-encode_interval.ensures c.loop-level.invariant c.in_ok-push.ensures.items
