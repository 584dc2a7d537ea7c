use Rattle.std.proofs.Common.{arith}
use Rattle.lock_entry.specs.Freeing.{flagged}
use Rattle.lock_entry.proofs.lemmas.Places.{map_written}
use Rattle.lock_entry.proofs.list.flag_all.Goals as goal

pub loop-e-preserved : goal.loop-e-preserved
loop-e-preserved c =
    map_written (flagged c.args.owner.now) c.args.entries.now c.loop-e.entries c.loop-e.e-index c.e-item.result c.flag.new.entry
    (omega arith) c.loop-e.invariant c.e-item.is c.flag.ensures
