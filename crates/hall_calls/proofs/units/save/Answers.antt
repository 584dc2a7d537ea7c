use Rattle.std.proofs.Common.{Err, inr, refl, sym, ap, subst}
use Rattle.enq_base.specs.declared.refusal.Refusal.TheVariants as refusal
use Rattle.ledger_steps.specs.Intervals.{MayStore}
use Rattle.hall_calls.proofs.CommittedChanges.{unsaved_files, wanted_not_failed}
use Rattle.hall_calls.proofs.ending.OverFile.{refused_files, same_file}
use Rattle.hall_calls.proofs.lists.AsCallsEnd.{written_saved}
use Rattle.hall_calls.proofs.units.save.Goals as goal

pub prepare_unit-requires : goal.prepare_unit-requires
prepare_unit-requires g c =
    let ledger = c.args.books.now.ledger in
    record {
      usable = c.requires.usable;
      marks = c.requires.marks;
      unit = c.requires.fresh;
      store = subst (λ ls. MayStore ledger ls c.args.made.now.unit.numbers) (sym c.as_slice.ensures) c.requires.store;
    }

pub returns-in_default-clause-list : goal.returns-in_default-clause-list
returns-in_default-clause-list g c =
    let file = c.args.locks.now.file in
    let ledger = c.args.books.now.ledger in
    record {
      saved = tt;
      quiet = tt;
      ends = refused_files g.D.Disk.tells g.D.Disk.reads g.D.Disk.may_leave g.D.Disk.faults ledger ledger file file refusal.NoMemory c.requires.filed
          (same_file file) refl (inr refl);
      needed = λ failed. wanted_not_failed _ failed;
      stands = refl;
      table = refl;
      replica = refl;
    }

pub returns-in-Ok-save-clause-list : goal.returns-in-Ok-save-clause-list
returns-in-Ok-save-clause-list g c =
    let made = c.args.made.now in
    let was = c.args.locks.now in
    let h = c.in-Ok-save.ensures in
    record {
      saved = written_saved g.D.Disk.tells g.D.Disk.reads g.D.Disk.may_leave c.args.books.now.ledger made.unit made.levels was.table.entries was.file
          c.save.new.self.file c.requires.filed h.usable c.requires.commits h.saved h.known;
      quiet = h.cause.quiet;
      ends = tt;
      needed = tt;
      stands = c.save.ensures.standing;
      table = c.save.ensures.table;
      replica = c.save.ensures.replica;
    }

pub returns-in-Err-clause-list : goal.returns-in-Err-clause-list
returns-in-Err-clause-list g c =
    let made = c.args.made.now in
    let was = c.args.locks.now in
    let h = c.in-Err.ensures in
    record {
      saved = tt;
      quiet = tt;
      ends = unsaved_files g.D.Disk.tells g.D.Disk.reads g.D.Disk.may_leave g.D.Disk.faults c.args.books.now.ledger made.unit was.table.entries was.file
          c.save.new.self.file c.in-Err.fault c.requires.filed c.requires.commits (λ e. h.no_memory (ap Err e)) c.save.ensures.images
          c.save.ensures.cause.later (λ e. h.cause.failed (ap Err e));
      needed = λ e. h.some (ap Err e);
      stands = c.save.ensures.standing;
      table = c.save.ensures.table;
      replica = c.save.ensures.replica;
    }
