use Rattle.std.proofs.Common.{arith}
use Rattle.lock_entry.specs.Turning.{made_exclusive}
use Rattle.lock_entry.proofs.lemmas.Places.{map_written}
use Rattle.lock_entry.proofs.list.set_exclusive.Goals as goal

pub loop-e-preserved : goal.loop-e-preserved
loop-e-preserved c =
    map_written (made_exclusive c.args.name.now) c.args.entries.now c.loop-e.entries c.loop-e.e-index c.e-item.result c.make_exclusive.new.entry
    (omega arith) c.loop-e.invariant c.e-item.is c.make_exclusive.ensures
