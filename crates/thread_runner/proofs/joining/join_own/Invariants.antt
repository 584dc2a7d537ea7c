use Rattle.std.proofs.Common.{◌≡◌, length, map, take}
use Rattle.turn_desks.specs.Stocks.{AreRightsAt, fact_of}
use Rattle.thread_runner.proofs.Joined.{AreTaken}
use Rattle.thread_runner.proofs.joining.join_own.Given as goal

abbrev pub invariant-loop-seat : goal.invariant-loop-seat
invariant-loop-seat l = record {
  rights : AreRightsAt (map fact_of l.stocks) l.rights.items;
  own : l.own.items ≡ take (length l.own.items) l.fn.own.items;
  taken : AreTaken (length l.own.items) l.fn.rights.items l.fn.own.items l.rights.items;
}

abbrev pub decreases-loop-seat : goal.decreases-loop-seat
decreases-loop-seat l = length l.own.items
