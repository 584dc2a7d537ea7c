use Rattle.std.proofs.Common.{◌≤◌, ◌+◌, ◌∙◌, arith}
use Rattle.std.specs.Prelude.{is_some}
use Rattle.lock_entry.specs.Barring.{bars}
use Rattle.lock_table.proofs.GivenLists.{newcomers-more, one_at_most, first_bar-more}
use Rattle.lock_table.proofs.readmits.count_new.Goals as goal

pub loop-e-preserved : goal.loop-e-preserved
loop-e-preserved c =
    let es = c.args.entries.now in
    let gs = c.args.given.now in
    let i = c.loop-e.e-index in
    let e = c.e-item.result in
    let one : c.loop-e.added + c.one_unless-added.result ≤ c.loop-e.added + 1 =
    one_at_most (is_some c.in-Ok.places.update) c.one_unless-added.result c.loop-e.added c.one_unless-added.ensures in
    let few = c.loop-e.invariant.few in
    record {
      bars = c.loop-e.invariant.bars ∙ first_bar-more es c.args.asker.now gs i e c.loop-e-test.true c.e-item.is (rw c.asked.ensures at c.in-Ok.ensures.free);
      counted =
          newcomers-more c.args.asker.now.update es gs i e c.in-Ok.places.update c.loop-e.added c.one_unless-added.result
          c.requires c.loop-e-test.true c.e-item.is (rw c.asked.ensures at c.in-Ok.ensures.update) c.one_unless-added.ensures c.loop-e.invariant.counted;
      few = omega arith;
    }
