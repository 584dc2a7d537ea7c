use Rattle.std.proofs.Common.{sym, subst}
use Rattle.hall_calls.proofs.replica.LostFrees.{IsLess, freed_both, own_less}
use Rattle.hall_calls.proofs.locks.free_pair.Goals as goal

pub returns-clause-lost : goal.returns-clause-lost
returns-clause-lost g c =
    let old = c.args.locks.now in
    let between = c.free_owner.new.self in
    let new = c.free_owner-2.new.self in
    (freed_both old.replica between.replica new.replica old.table between.table new.table
    (record {
      less = subst (IsLess old.table) (sym c.free_owner.ensures.after) (own_less old.table c.args.asker.now.dialogue);
      lost = c.free_owner.ensures.lost;
    })
    (record {
      less = subst (IsLess between.table) (sym c.free_owner-2.ensures.after) (own_less between.table c.args.asker.now.update);
      lost = c.free_owner-2.ensures.lost;
    })).lost
