use Rattle.std.proofs.Common.{arith}
use Rattle.lock_entry.proofs.lemmas.Places.{map_written}
use Rattle.replica_link.specs.Operations.{instead_of}
use Rattle.replica_link.proofs.operation.replace.Goals as goal

pub loop-other-preserved : goal.loop-other-preserved
loop-other-preserved c =
    map_written (instead_of c.args.entry.now) c.args.entries.now c.loop-other.entries c.loop-other.other-index c.other-item.result c.replace_one.new.other
    (omega arith) c.loop-other.invariant c.other-item.is c.replace_one.ensures
