use Rattle.remote_sending.specs.Sends.{GoesOn, RoseBy}
use Rattle.remote_sending.proofs.asking.ask.Given as goal

abbrev pub invariant-loop-turn : goal.invariant-loop-turn
invariant-loop-turn g l = record {
  goes : GoesOn (g.C.Carrier.executed l.fn.carrier) (g.C.Carrier.executed l.carrier);
  rose : RoseBy l.turn (g.C.Carrier.misses l.fn.carrier) (g.C.Carrier.misses l.carrier);
}
