use Rattle.std.proofs.Common.{◌&&◌, Some, refl, sym, ap, ◌∙◌}
use Rattle.ledger_steps.specs.Steps.{after_step}
use Rattle.ledger_steps.specs.declared.step.Step.TheVariants.{Note}
use Rattle.lock_entry.specs.Table.{Table}
use Rattle.hall_calls.proofs.MarkedUnits.{done_unfiled_ends, half_noted_files, noted_files, serves_still, unrefused_quiet, unrefused_store}
use Rattle.hall_calls.proofs.ending.OverFile.{failed_before}
use Rattle.hall_calls.proofs.ending.OverStore.{done_ends, failed_ends}
use Rattle.hall_calls.proofs.units.note.Goals as goal

pub write-requires : goal.write-requires
write-requires g c = record { usable = c.requires.usable; ready = c.requires.ready }

pub end_locks-requires : goal.end_locks-requires
end_locks-requires g c = record { usable = c.requires.filed.usable }

pub returns-in-Ok-end_locks : goal.returns-in-Ok-end_locks
returns-in-Ok-end_locks g c =
    let noted = c.args.noted in
    let done = c.in-Ok.ensures.tried.done ∙ ap (after_step c.args.books.now.ledger) c.requires.step in
    record {
      outcome = (refl, done, ap (λ (t : Table). t.entries) c.in-Ok-end_locks.ensures.table);
      serves = c.end_locks.ensures.serves;
      table = tt;
      apart = c.end_locks.ensures.apart;
      file = noted_files g.D.Disk.tells g.D.Disk.reads g.D.Disk.may_leave g.D.Disk.faults c.args.books.now.ledger c.write.new.books.ledger noted.ends noted.unit
          noted.kind noted.reply c.args.locks.now.file c.end_locks.new.locks.file c.requires.filed done c.requires.ends c.requires.answer
          c.in-Ok-end_locks.ensures.file;
      store = done_ends g.K.Keeper.held g.K.Keeper.is_open g.K.Keeper.may_leave g.K.Keeper.faults g.met.K.Keeper.settled c.args.books.now c.write.new.books
          c.args.prepared.step c.in-Ok.ensures.tried noted.reply (unrefused_quiet noted.reply c.requires.answer)
          (unrefused_store g.K.Keeper.held g.K.Keeper.may_leave _ _ noted.reply c.requires.answer);
    }

pub returns-in-Err-end_locks : goal.returns-in-Err-end_locks
returns-in-Err-end_locks g c =
    let noted = c.args.noted in
    let done = c.in-Ok.ensures.tried.done ∙ ap (after_step c.args.books.now.ledger) c.requires.step in
    record {
      outcome = (done, ap (λ b. noted.ends && b) (sym (c.requires.filed.standing noted.unit)) ∙ c.in-Err-end_locks.ensures.file.needed);
      serves = c.end_locks.ensures.serves;
      table = c.in-Err-end_locks.ensures.kept;
      apart = c.end_locks.ensures.apart;
      file = half_noted_files g.D.Disk.tells g.D.Disk.reads g.D.Disk.may_leave g.D.Disk.faults _ c.args.books.now.ledger c.write.new.books.ledger noted.ends
          noted.unit noted.kind c.args.locks.now.file c.end_locks.new.locks.file c.requires.filed done c.requires.ends c.in-Err-end_locks.ensures.file;
      store = done_unfiled_ends g.K.Keeper.held g.K.Keeper.is_open g.K.Keeper.may_leave g.K.Keeper.faults g.met.K.Keeper.settled c.args.books.now
          c.write.new.books c.args.prepared.step c.in-Ok.ensures.tried;
    }

pub returns-in-Err : goal.returns-in-Err
returns-in-Err g c =
    let noted = c.args.noted in
    record {
      outcome = (refl, refl);
      serves = serves_still g.L.Link.applied g.L.Link.faults g.L.Link.refusals c.args.locks.now;
      table = refl;
      apart = λ off. refl;
      file = failed_before g.D.Disk.tells g.D.Disk.reads g.D.Disk.may_leave g.D.Disk.faults c.args.books.now.ledger c.write.new.books.ledger
          c.args.locks.now.file (Some (Note noted.unit noted.kind)) c.requires.filed c.in-Err.ensures.tried.kept
          (λ lists just. c.requires.ends.agree lists just.agree);
      store = failed_ends g.K.Keeper.held g.K.Keeper.is_open g.K.Keeper.may_leave g.K.Keeper.faults c.args.books.now c.write.new.books c.args.prepared.step
          (Note noted.unit noted.kind) (rw c.in-Err.ensures.failed at c.in-Err.ensures.tried) (ap (after_step c.args.books.now.ledger) c.requires.step);
    }
