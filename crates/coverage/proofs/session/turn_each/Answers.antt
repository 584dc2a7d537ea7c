use Rattle.std.proofs.Common.{arith}
use Rattle.coverage.specs.Tallies.{turned}
use Rattle.lock_entry.proofs.lemmas.Places.{map_written}
use Rattle.coverage.proofs.session.turn_each.Goals as goal

pub loop-tally-preserved : goal.loop-tally-preserved
loop-tally-preserved c =
    map_written (turned c.args.line.now c.args.moved.now) c.args.tallies.now c.loop-tally.tallies c.loop-tally.tally-index c.tally-item.result c.turn.new.self
    (omega arith) c.loop-tally.invariant c.tally-item.is c.turn.ensures
