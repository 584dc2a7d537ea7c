use Rattle.std.proofs.Common.{◌≡◌, ◌⊎◌, Ok, Err, inr, refl, sym, ap, subst}
use Rattle.std.specs.List.{AllByRecursion}
use Rattle.enq_base.specs.declared.refusal.Refusal.TheVariants as refusal
use Rattle.enq_base.specs.declared.unit.Status.TheVariants.{Bad}
use Rattle.ledger_steps.specs.Posts.{entries_of}
use Rattle.lock_entry.specs.Granting.{readmitted}
use Rattle.update_records.specs.Ledger.{Ledger}
use Rattle.update_records.specs.declared.records.MarkKind.TheVariants.{Again1}
use Rattle.hall_model.specs.Kept.{HasGoodLocks}
use Rattle.hall_model.specs.Sessions.{owners_of}
use Rattle.hall_model.specs.declared.command.Command.TheVariants as command
use Rattle.hall_calls.specs.Filing.{FilesAs}
use Rattle.hall_calls.specs.Marking.{IsMarked, Readmits}
use Rattle.hall_calls.specs.Storing.{EndsAs}
use Rattle.hall_calls.specs.Written.{IsRegained, IsWritten, OnFailure}
use Rattle.hall_calls.proofs.MarkedUnits.{regained_where, reopened_files, reopens_as, serves_still, ungranted_ends}
use Rattle.hall_calls.proofs.ending.AfterStop.{also_failed}
use Rattle.hall_calls.proofs.ending.OverFile.{refused_files, same_file}
use Rattle.hall_calls.proofs.ending.OverStore.{ready_ends, unready_ends}
use Rattle.hall_calls.proofs.lists.AsCallsEnd.{was_bad}
use Rattle.hall_calls.proofs.verdicts.Ungranted.{ungranted_acts, ungranted_files}
use Rattle.hall_calls.proofs.verdicts.UnitCalls.{resubmits_wanting}
use Rattle.hall_calls.proofs.units.reopen.Goals as goal

pub prepare_mark-requires : goal.prepare_mark-requires
prepare_mark-requires g c = record { usable = c.requires.usable; marks = c.requires.marks; kind = tt; follows = c.requires.follows }

pub regain-requires : goal.regain-requires
regain-requires g c = record {
  stands = c.requires.stands;
  usable = c.requires.filed.usable;
  stored = subst (λ (l : Ledger). AllByRecursion HasGoodLocks l.units) (sym c.prepare_mark.ensures.unmoved.ledger) c.requires.stored;
}

pub note_again-requires : goal.note_again-requires
note_again-requires g c = record { usable = c.prepare_mark.ensures.usable; ready = c.in-Ok.ensures.ready; step = c.in-Ok.ensures.step }

pub returns-in_default : goal.returns-in_default
returns-in_default g c =
    let ledger = c.args.books.now.ledger in
    let now = c.prepare_mark.new.self.ledger in
    let file = c.args.locks.now.file in
    let same = c.prepare_mark.ensures.unmoved in
    record {
      act = λ s locks limit stored found room.
          resubmits_wanting s c.args.locks.now.table.entries ledger now s.mark_limit c.args.unit Bad locks stored refl room found same.ledger;
      serves = serves_still g.L.Link.applied g.L.Link.faults g.L.Link.refusals c.args.locks.now;
      table = tt;
      file = refused_files g.D.Disk.tells g.D.Disk.reads g.D.Disk.may_leave g.D.Disk.faults ledger now file file refusal.NoMemory c.requires.filed
          (same_file file) same.ledger (inr refl);
      store = unready_ends g.K.Keeper.held g.K.Keeper.is_open g.K.Keeper.may_leave g.K.Keeper.faults g.met.K.Keeper.settled c.args.books.now
          c.prepare_mark.new.self c.prepare_mark.ensures.usable same;
    }

pub returns-in-Ok-regain : goal.returns-in-Ok-regain
returns-in-Ok-regain g c =
    let ledger = c.args.books.now.ledger in
    let unit = c.args.unit in
    let was = c.args.locks.now in
    let left = c.regain.new.locks in
    let after = c.note_again.new.books.ledger in
    let w = c.note_again.result in
    let same = c.prepare_mark.ensures.unmoved in
    let again = subst (λ (l : Ledger). Readmits g.D.Disk.tells g.D.Disk.reads g.D.Disk.may_leave g.D.Disk.faults (owners_of unit) unit
    (entries_of l.units unit) was left (Ok tt)) same.ledger c.in-Ok-regain.ensures.again in
    let marked = subst (λ (l : Ledger). IsMarked l after unit Again1 w) same.ledger c.note_again.ensures.outcome in
    let store = ready_ends g.K.Keeper.held g.K.Keeper.is_open g.K.Keeper.may_leave g.K.Keeper.faults c.args.books.now c.prepare_mark.new.self
    c.note_again.new.books w same c.note_again.ensures.store in
    record {
      act = λ s locks limit stored found room.
          reopens_as s was.table ledger after s.mark_limit unit left.table.entries locks limit stored refl room found again.granted w marked;
      serves = c.regain.ensures.serves;
      table = also_failed _ w (inr (record { refused = was_bad _ c.requires.follows.follows; regained = again.granted }));
      file = reopened_files g.D.Disk.tells g.D.Disk.reads g.D.Disk.may_leave g.D.Disk.faults ledger after unit was left w c.requires.filed
          c.requires.follows.follows c.requires.stored again store.ledger marked;
      store = store;
    }

pub returns-in-Err : goal.returns-in-Err
returns-in-Err g c =
    let ledger = c.args.books.now.ledger in
    let now = c.prepare_mark.new.self.ledger in
    let unit = c.args.unit in
    let given = entries_of ledger.units unit in
    let was = c.args.locks.now in
    let left = c.regain.new.locks in
    let f = c.in-Err.fault in
    let same = c.prepare_mark.ensures.unmoved in
    let again = subst (λ (l : Ledger). Readmits g.D.Disk.tells g.D.Disk.reads g.D.Disk.may_leave g.D.Disk.faults (owners_of unit) unit
    (entries_of l.units unit) was left (Err f)) same.ledger c.in-Err.ensures.again in
    record {
      act = λ s locks limit stored found room.
          subst (IsWritten s (command.Resubmit unit) (record s { locks = left.table.entries; stored = now })) (sym c.ungranted.ensures)
          (ungranted_acts s was.table ledger now s.mark_limit unit left.table.entries f locks limit stored refl room found again.refused same.ledger
          (λ failed. again.some (ap Err failed)));
      serves = c.regain.ensures.serves;
      table = subst (λ w. OnFailure w ((left.table ≡ was.table) ⊎ IsRegained ledger unit was.table left.table.entries)) (sym c.ungranted.ensures)
          (regained_where _ f (readmitted was.table (owners_of unit) given) was.table.entries left.table.entries again.refused
          (λ stand. inr (record { refused = was_bad _ c.requires.follows.follows; regained = stand })));
      file = subst (FilesAs g.D.Disk.tells g.D.Disk.reads g.D.Disk.may_leave g.D.Disk.faults now was.file left.file) (sym c.ungranted.ensures)
          (ungranted_files g.D.Disk.tells g.D.Disk.reads g.D.Disk.may_leave g.D.Disk.faults ledger now unit given was.file left.file f c.requires.filed
          same.ledger c.requires.follows.follows again.untouched again.images again.cause);
      store = subst (EndsAs g.K.Keeper.held g.K.Keeper.is_open g.K.Keeper.may_leave g.K.Keeper.faults c.args.books.now c.prepare_mark.new.self)
          (sym c.ungranted.ensures)
          (ungranted_ends g.K.Keeper.held g.K.Keeper.is_open g.K.Keeper.may_leave g.K.Keeper.faults g.met.K.Keeper.settled c.args.books.now
          c.prepare_mark.new.self f c.prepare_mark.ensures.usable same);
    }
