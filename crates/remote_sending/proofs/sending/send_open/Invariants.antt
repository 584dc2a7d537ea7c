use Rattle.std.proofs.Common.{◌≡◌, ◌*◌, is_some}
use Rattle.remote_sending.specs.Sends.{GoesOn, RoseBy}
use Rattle.remote_sending.proofs.Steps.{SoFar}
use Rattle.remote_sending.proofs.sending.send_open.Given as goal

abbrev pub invariant-loop-call : goal.invariant-loop-call
invariant-loop-call g l = record {
  opened : g.O.Keeper.is_open l.outbox;
  told : is_some (g.O.Keeper.held l.outbox) ≡ is_some (g.O.Keeper.held l.fn.outbox);
  count : g.O.Keeper.faults l.outbox ≡ g.O.Keeper.faults l.fn.outbox;
  sink : g.T.Sink.faults l.sink ≡ g.T.Sink.faults l.fn.sink;
  goes : GoesOn (g.C.Carrier.executed l.fn.carrier) (g.C.Carrier.executed l.carrier);
  rose : RoseBy (8 * l.counts.open_calls) (g.C.Carrier.misses l.fn.carrier) (g.C.Carrier.misses l.carrier);
  so_far :
      SoFar l.calls l.call-index l.counts (g.O.Keeper.held l.fn.outbox) (g.O.Keeper.held l.outbox) (g.C.Carrier.executed l.fn.carrier)
      (g.C.Carrier.executed l.carrier)
      (g.T.Sink.written l.fn.sink) (g.T.Sink.written l.sink);
}
