use Rattle.std.proofs.Common.{sym, subst}
use Rattle.lock_entry.specs.Names.{named}
use Rattle.hall_calls.proofs.replica.LostFrees.{IsFreed, IsLess, freed_both, freed_none, one_less}
use Rattle.hall_calls.proofs.locks.free_request.Goals as goal
use Rattle.hall_calls.proofs.locks.free_request.Goals.{then-request, else-request}

pub returns-then-request-2-clause-lost : goal.returns-then-request-2-clause-lost
returns-then-request-2-clause-lost g c =
    let old = c.args.locks.now in
    let between = c.if-request.locks in
    let new = c.free_one-then-request-2.new.self in
    let asked = c.args.request.now.asked in
    let first : IsFreed old.replica between.replica old.table between.table = elim c.if-request.branch [
      | then-request w ↦ subst (λ l. IsFreed old.replica l.replica old.table l.table) (sym w.locks-is) (record {
        less = subst (IsLess old.table) (sym w.free_one.ensures.after) (one_less old.table (named c.args.pair.now.dialogue asked));
        lost = w.free_one.ensures.lost;
      })
      | else-request w ↦ subst (λ l. IsFreed old.replica l.replica old.table l.table) (sym w.locks-is) (freed_none old.replica old.table)
    ] in
    (freed_both old.replica between.replica new.replica old.table between.table new.table first (record {
      less = subst (IsLess between.table) (sym c.free_one-then-request-2.ensures.after) (one_less between.table (named c.args.pair.now.update asked));
      lost = c.free_one-then-request-2.ensures.lost;
    })).lost
