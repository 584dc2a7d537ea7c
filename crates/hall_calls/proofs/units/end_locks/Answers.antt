use Rattle.std.proofs.Common.{◌≡◌, refl, sym, subst}
use Rattle.std.specs.Prelude.{OnOk}
use Rattle.lock_entry.specs.Freeing.{freed_owner}
use Rattle.lock_entry.specs.Table.{with_entries}
use Rattle.enq_base.specs.declared.owner.Owner.TheVariants.{Upd}
use Rattle.hall_calls.specs.Filing.{locks_ended}
use Rattle.hall_calls.proofs.MarkedUnits.{frees_list, keeps_list, limit_stays, never_both, serves_still}
use Rattle.hall_calls.proofs.units.end_locks.Goals as goal

pub returns-then-ends : goal.returns-then-ends
returns-then-ends g c =
    let h = c.end_unit.ensures in
    let was = c.args.locks.now in
    let left = c.end_unit.new.self in
    record {
      table =
          subst (λ b. OnOk c.end_unit.result (left.table ≡ with_entries was.table (locks_ended b was.table.entries c.args.unit.now)))
          (sym c.if-ends.true) h.table;
      kept = h.kept;
      apart = λ off. never_both _ c.args.ends c.if-ends.true off;
      serves = record {
        limit = limit_stays c.end_unit.result was.table left.table (freed_owner was.table.entries (Upd c.args.unit.now)) h.table h.kept;
        standing = h.standing;
        replica = h.replica;
        lost = h.lost;
      };
      file = frees_list g.D.Disk.tells g.D.Disk.reads g.D.Disk.may_leave g.D.Disk.faults c.args.ends c.args.unit.now was.file left.file c.end_unit.result
          c.if-ends.true h.usable h.known h.freed h.images h.needed h.cause;
    }

pub returns-else-ends : goal.returns-else-ends
returns-else-ends g c =
    let was = c.args.locks.now in
    record {
      table = subst (λ b. was.table ≡ with_entries was.table (locks_ended b was.table.entries c.args.unit.now)) (sym c.if-ends.false) refl;
      kept = tt;
      apart = λ off. refl;
      serves = serves_still g.L.Link.applied g.L.Link.faults g.L.Link.refusals was;
      file = keeps_list g.D.Disk.tells g.D.Disk.reads g.D.Disk.may_leave g.D.Disk.faults c.args.ends c.args.unit.now was.file c.if-ends.false c.requires.usable;
    }
