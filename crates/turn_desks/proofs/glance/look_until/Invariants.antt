use Rattle.gauges.specs.Boards.{seen, IsReaderOf}
use Rattle.turn_desks.proofs.Glances.{LooksSoFar}
use Rattle.turn_desks.proofs.glance.look_until.Given as goal

abbrev pub invariant-loop : goal.invariant-loop
invariant-loop g l = record {
  own : IsReaderOf l.gauges l.pass;
  looked : LooksSoFar l.fn.past (seen l.fn.pass) (seen l.pass) l.counter;
}
