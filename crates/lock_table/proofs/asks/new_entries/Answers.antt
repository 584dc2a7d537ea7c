use Rattle.lock_table.specs.Halves.{names_of}
use Rattle.lock_table.proofs.HalfLists.{new_entries-more}
use Rattle.lock_table.proofs.asks.new_entries.Goals as goal

pub loop-half-preserved : goal.loop-half-preserved
loop-half-preserved c =
    new_entries-more c.args.user.now (names_of c.args.all.now) c.args.all.now c.loop-half.half-index c.half-item.result c.loop-half.added.items
    c.push_new.new.added.items
    c.loop-half-test.true c.half-item.is c.loop-half.invariant c.in_ok-push_new.ensures
