use Rattle.std.proofs.Common.{◌≡◌, refl, sym, ap, subst}
use Rattle.ledger_steps.specs.Intervals.{with_intervals}
use Rattle.lock_entry.specs.Table.{Table}
use Rattle.update_records.specs.Growing.{with_unit}
use Rattle.update_records.specs.Ledger.{Ledger}
use Rattle.hall_calls.specs.Commits.{RecordsUnit, unsaved}
use Rattle.hall_calls.specs.Filing.{FilesAs, IsSaved}
use Rattle.hall_calls.specs.Storing.{EndsAs}
use Rattle.hall_calls.specs.Written.{OnFailure}
use Rattle.hall_calls.proofs.CommittedChanges.{unsaved_ends, unsaved_records}
use Rattle.hall_calls.proofs.MarkedUnits.{serves_behind, serves_still}
use Rattle.hall_calls.proofs.ending.AfterStop.{also_failed}
use Rattle.hall_calls.proofs.ending.OverFile.{before_files}
use Rattle.hall_calls.proofs.ending.OverStore.{ready_ends}
use Rattle.hall_calls.proofs.units.record_unit.Goals as goal

pub save-requires : goal.save-requires
save-requires g c = record {
  usable = c.requires.usable;
  marks = c.requires.marks;
  fresh = c.requires.fresh;
  store = c.requires.store;
  commits = c.requires.commits;
  filed = c.requires.filed;
}

pub record_saved-requires : goal.record_saved-requires
record_saved-requires g c =
    let made = c.args.made in
    record {
      usable = c.save.ensures.usable;
      ready = c.in-Ok.ensures.ready;
      step = c.in-Ok.ensures.step;
      young = c.requires.young;
      saved = subst (λ (l : Ledger). IsSaved g.D.Disk.tells g.D.Disk.reads g.D.Disk.may_leave l (with_intervals made.levels (with_unit l made.unit))
          c.save.new.locks.file) (sym c.save.ensures.unmoved.ledger) c.in-Ok.ensures.list.saved;
    }

pub returns-in-Ok : goal.returns-in-Ok
returns-in-Ok g c =
    let list = c.in-Ok.ensures.list in
    let h = c.record_saved.ensures in
    let w = c.record_saved.result in
    let was = c.args.locks.now in
    let mid = c.save.new.locks in
    let new = c.record_saved.new in
    let same = c.save.ensures.unmoved in
    record {
      outcome = subst (λ (t : Table). RecordsUnit c.args.sessions.now new.sessions t.entries new.locks.table.entries c.args.books.now.ledger new.books.ledger
          c.args.name.now c.args.made.unit c.args.made.levels w) list.table
          (subst (λ l. RecordsUnit c.args.sessions.now new.sessions mid.table.entries new.locks.table.entries l new.books.ledger c.args.name.now
          c.args.made.unit c.args.made.levels w) same.ledger h.outcome);
      serves = serves_behind g.L.Link.applied g.L.Link.faults g.L.Link.refusals was mid new.locks list.stands list.table list.replica h.serves;
      file = before_files g.D.Disk.tells g.D.Disk.reads g.D.Disk.may_leave g.D.Disk.faults new.books.ledger was.file mid.file new.locks.file w h.answered
          list.quiet h.file;
      table = subst (λ t. OnFailure w (new.locks.table ≡ t)) list.table h.table;
      sessions = h.sessions;
      store = ready_ends g.K.Keeper.held g.K.Keeper.is_open g.K.Keeper.may_leave g.K.Keeper.faults c.args.books.now c.save.new.books new.books w same h.store;
    }

pub returns-in-Err : goal.returns-in-Err
returns-in-Err g c =
    let list = c.in-Err.ensures.list in
    let f = c.in-Err.fault in
    let was = c.args.locks.now in
    let mid = c.save.new.locks in
    let same = c.save.ensures.unmoved in
    let ledger = c.args.books.now.ledger in
    let now = c.save.new.books.ledger in
    record {
      outcome = subst (RecordsUnit c.args.sessions.now c.args.sessions.now was.table.entries mid.table.entries ledger now c.args.name.now c.args.made.unit
          c.args.made.levels) (sym c.unsaved.ensures)
          (unsaved_records c.args.sessions.now was.table.entries mid.table.entries ledger now c.args.name.now c.args.made.unit c.args.made.levels f
          (ap (λ (t : Table). t.entries) list.table) same.ledger list.needed);
      serves = serves_behind g.L.Link.applied g.L.Link.faults g.L.Link.refusals was mid mid list.stands list.table list.replica
          (serves_still g.L.Link.applied g.L.Link.faults g.L.Link.refusals mid);
      file = subst (FilesAs g.D.Disk.tells g.D.Disk.reads g.D.Disk.may_leave g.D.Disk.faults now was.file mid.file) (sym c.unsaved.ensures)
          (subst (λ l. FilesAs g.D.Disk.tells g.D.Disk.reads g.D.Disk.may_leave g.D.Disk.faults l was.file mid.file (unsaved f)) (sym same.ledger) list.ends);
      table = also_failed _ c.unsaved.result list.table;
      sessions = also_failed _ c.unsaved.result refl;
      store = subst (EndsAs g.K.Keeper.held g.K.Keeper.is_open g.K.Keeper.may_leave g.K.Keeper.faults c.args.books.now c.save.new.books)
          (sym c.unsaved.ensures)
          (unsaved_ends g.K.Keeper.held g.K.Keeper.is_open g.K.Keeper.may_leave g.K.Keeper.faults g.met.K.Keeper.settled c.args.books.now c.save.new.books f
          c.save.ensures.usable same);
    }
