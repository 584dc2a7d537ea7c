use Rattle.std.proofs.Common.{sym, subst, arith, rules}
use Rattle.std.proofs.lemmas.Grind.{common_steps}
use Rattle.enq_server.proofs.lemmas.Replicas.{keeps_both}
use Rattle.lock_entry.specs.Names.{halves_of}
use Rattle.hall_calls.proofs.replica.LostFrees.{IsLess, all_less, freed_both}
use Rattle.hall_calls.proofs.locks.free_requests.Goals as goal

pub loop-request-preserved : goal.loop-request-preserved
loop-request-preserved g c =
    let old = c.args.locks.now in
    let between = c.loop-request.locks in
    let new = c.free_request.new.locks in
    record {
      rest = grind (arith, common_steps);
      limit = search rules;
      standing = search rules;
      file = search rules;
      freed = freed_both old.replica between.replica new.replica old.table between.table new.table c.loop-request.invariant.freed (record {
        less = subst (IsLess between.table) (sym c.free_request.ensures.table)
            (all_less (halves_of c.args.pair.now c.request-item.result) between.table);
        lost = c.free_request.ensures.lost;
      });
      replica = keeps_both g.L.Link.applied g.L.Link.faults g.L.Link.refusals old.replica between.replica new.replica c.loop-request.invariant.replica
          c.free_request.ensures.replica;
    }
