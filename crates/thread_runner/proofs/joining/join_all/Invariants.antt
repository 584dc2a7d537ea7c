use Rattle.std.proofs.Common.{length, map}
use Rattle.std.specs.List.{AllByRecursion}
use Rattle.turn_desks.specs.Stocks.{AreRightsAt, AreSeatsAt, fact_of}
use Rattle.thread_runner.proofs.Joined.{AreJoined}
use Rattle.thread_runner.proofs.joining.join_all.Given as goal

abbrev pub invariant-loop-own : goal.invariant-loop-own
invariant-loop-own l = record {
  rights : AreRightsAt (map fact_of l.stocks) l.rights.items;
  seats : AllByRecursion (λ own. AreSeatsAt (map fact_of l.stocks) own.items) l.seats.items;
  joined : AreJoined l.fn.rights.items l.rights.items (map (λ own. own.items) l.seats.items) (map (λ own. own.items) l.fn.seats.items);
}

abbrev pub decreases-loop-own : goal.decreases-loop-own
decreases-loop-own l = length l.seats.items
