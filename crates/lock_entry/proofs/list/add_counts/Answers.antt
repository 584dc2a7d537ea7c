use Rattle.std.proofs.Common.{arith}
use Rattle.lock_entry.specs.Turning.{joined}
use Rattle.lock_entry.proofs.lemmas.Places.{map_written}
use Rattle.lock_entry.proofs.list.add_counts.Goals as goal

pub loop-e-preserved : goal.loop-e-preserved
loop-e-preserved c =
    map_written (joined c.args.name.now c.args.other.now) c.args.entries.now c.loop-e.entries c.loop-e.e-index c.e-item.result c.add_count.new.entry
    (omega arith) c.loop-e.invariant c.e-item.is c.add_count.ensures
