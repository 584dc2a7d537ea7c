use Rattle.std.proofs.Common.{Some, refl, ap, ◌∙◌}
use Rattle.ledger_steps.specs.Intervals.{with_intervals}
use Rattle.ledger_steps.specs.Steps.{after_step}
use Rattle.lock_entry.specs.Table.{Table}
use Rattle.update_records.specs.Growing.{with_unit}
use Rattle.hall_model.specs.declared.command.Reply.TheVariants as reply
use Rattle.ledger_steps.specs.declared.step.Step.TheVariants.{Record}
use Rattle.hall_calls.proofs.MarkedUnits.{serves_still}
use Rattle.hall_calls.proofs.ending.OverFile.{answered_files, failed_files}
use Rattle.hall_calls.proofs.lists.AsCallsEnd.{saved_agrees, saved_lists}
use Rattle.hall_calls.proofs.ending.OverStore.{done_ends, failed_ends}
use Rattle.hall_calls.proofs.units.record_saved.Goals as goal

pub write-requires : goal.write-requires
write-requires g c = record { usable = c.requires.usable; ready = c.requires.ready }

pub returns-in-Ok : goal.returns-in-Ok
returns-in-Ok g c =
    let made = c.args.saved.made in
    let next = with_intervals made.levels (with_unit c.args.books.now.ledger made.unit) in
    let done = c.in-Ok.ensures.tried.done ∙ ap (after_step c.args.books.now.ledger) c.requires.step in
    record {
      outcome = (refl, c.begin_unit.ensures, ap (λ (t : Table). t.entries) c.flag.ensures.after, done);
      serves = record {
        limit = ap (λ (t : Table). t.limit) c.flag.ensures.after;
        standing = c.flag.ensures.standing;
        replica = c.flag.ensures.replica;
        lost = c.flag.ensures.lost;
      };
      file = answered_files g.D.Disk.tells g.D.Disk.reads g.D.Disk.may_leave g.D.Disk.faults c.write.new.books.ledger c.args.locks.now.file
          c.flag.new.self.file (reply.Unit made.unit.key)
          (saved_lists g.D.Disk.tells g.D.Disk.reads g.D.Disk.may_leave c.args.books.now.ledger next c.write.new.books.ledger c.args.locks.now.file
          c.flag.new.self.file c.requires.saved c.flag.ensures.file done)
          (record { cause = ap (λ f. g.D.Disk.faults f.disk) c.flag.ensures.file; kept = tt });
      answered = tt;
      table = tt;
      sessions = tt;
      store = done_ends g.K.Keeper.held g.K.Keeper.is_open g.K.Keeper.may_leave g.K.Keeper.faults g.met.K.Keeper.settled c.args.books.now c.write.new.books
          c.args.saved.prepared.step c.in-Ok.ensures.tried (reply.Unit made.unit.key) (λ n m same. same) tt;
    }

pub returns-in-Err : goal.returns-in-Err
returns-in-Err g c =
    let ledger = c.args.books.now.ledger in
    let made = c.args.saved.made in
    record {
      outcome = (refl, refl);
      serves = serves_still g.L.Link.applied g.L.Link.faults g.L.Link.refusals c.args.locks.now;
      file = failed_files g.D.Disk.tells g.D.Disk.reads g.D.Disk.may_leave g.D.Disk.faults c.write.new.books.ledger c.args.locks.now.file
          c.args.locks.now.file (Some (Record made.unit made.levels))
          (saved_agrees g.D.Disk.tells g.D.Disk.reads g.D.Disk.may_leave ledger c.write.new.books.ledger made.unit made.levels made.levels
          c.args.locks.now.file c.requires.saved c.in-Err.ensures.tried.kept refl)
          refl;
      answered = tt;
      table = refl;
      sessions = refl;
      store = failed_ends g.K.Keeper.held g.K.Keeper.is_open g.K.Keeper.may_leave g.K.Keeper.faults c.args.books.now c.write.new.books
          c.args.saved.prepared.step
          (Record made.unit made.levels) (rw c.in-Err.ensures.failed at c.in-Err.ensures.tried) (ap (after_step ledger) c.requires.step);
    }
