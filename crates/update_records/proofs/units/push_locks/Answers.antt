use Rattle.update_records.specs.Grammar.{HasNames}
use Rattle.update_records.proofs.Steps.{locks_go_on, all_more}
use Rattle.update_records.proofs.units.push_locks.Goals as goal

pub loop-i-preserved : goal.loop-i-preserved
loop-i-preserved c = record {
  whole = locks_go_on c.args.key.now _ c.loop-i.i c.args.entries.now c.index-entries-i.result _ c.loop-i.batch.items _ _
      c.loop-i-test.true c.index-entries-i.is c.in_ok-encode_lock.ensures.row c.in_ok-push.ensures.items c.loop-i.invariant.whole;
  spelt = all_more HasNames c.args.entries.now c.loop-i.i c.index-entries-i.result c.loop-i-test.true c.index-entries-i.is c.loop-i.invariant.spelt
      c.in_ok-encode_lock.ensures.grammar;
}
