use Rattle.std.proofs.Common.{◌≡◌, drop, fold}
use Rattle.enq_server.specs.Replica.{KeepsOn}
use Rattle.lock_entry.specs.Freeing.{freed}
use Rattle.lock_entry.specs.Names.{halves}
use Rattle.hall_calls.proofs.replica.LostFrees.{IsFreed}
use Rattle.hall_calls.proofs.locks.free_requests.Given as goal

abbrev pub invariant-loop-request : goal.invariant-loop-request
invariant-loop-request g l = record {
  rest : fold freed l.locks.table.entries (halves l.pair (drop l.request-index l.requests)) ≡ fold freed l.initial.locks.table.entries
      (halves l.pair l.requests);
  limit : l.locks.table.limit ≡ l.initial.locks.table.limit;
  standing : l.locks.stands ≡ l.initial.locks.stands;
  file : l.locks.file ≡ l.initial.locks.file;
  freed : IsFreed l.initial.locks.replica l.locks.replica l.initial.locks.table l.locks.table;
  replica : KeepsOn g.L.Link.applied g.L.Link.faults g.L.Link.refusals l.initial.locks.replica l.locks.replica;
}
