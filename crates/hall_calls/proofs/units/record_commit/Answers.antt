use Rattle.std.proofs.Common.{◌++◌, inr, length, refl, sym, ap, subst, arith}
use Rattle.enq_base.specs.declared.refusal.Refusal.TheVariants as refusal
use Rattle.update_records.specs.declared.records.Unit.{Unit as UnitOfWork}
use Rattle.hall_model.specs.Kept.{IsAhead}
use Rattle.hall_model.specs.Sessions.{is_called}
use Rattle.hall_model.specs.declared.command.Reply.TheVariants as reply
use Rattle.model_laws.proofs.FoundSessions.{found_in}
use Rattle.hall_calls.specs.Commits.{IsChange, IsOfCommit}
use Rattle.hall_calls.proofs.CommittedChanges.{answered_before, answered_ends, commits_alone, commits_unit, some_alone}
use Rattle.hall_calls.proofs.MarkedUnits.{serves_still}
use Rattle.hall_calls.proofs.ending.AfterStop.{also_failed}
use Rattle.hall_calls.proofs.ending.OverFile.{refused_files, same_file}
use Rattle.hall_calls.proofs.ending.OverStore.{quiet_ends}
use Rattle.hall_calls.proofs.lists.AsCallsEnd.{numbers_files}
use Rattle.hall_calls.proofs.lists.BehindMarks.{of_session}
use Rattle.hall_calls.proofs.verdicts.Recording.{draws_digits, draws_stored, may_draw, rows_fit}
use Rattle.hall_calls.proofs.verdicts.UnitCalls.{below_limit, commits_wanting, may_record}
use Rattle.hall_calls.proofs.units.record_commit.Goals as goal

pub change_of-requires : goal.change_of-requires
change_of-requires g c =
    let x = c.in-Ok.session.now in
    record {
      fit = rows_fit c.args.sessions.now c.args.call.now.session.now x c.in-Ok.ensures.session.found c.args.books.now.ledger c.args.ranges.now
          c.args.call.now.stock.now
          c.requires.drawn c.requires.stock (x.draws ++ c.args.call.now.stock.now) refl;
    }

pub record_numbers-requires : goal.record_numbers-requires
record_numbers-requires g c =
    let ledger = c.args.books.now.ledger in
    let x = c.in-Ok.session.now in
    let at = c.in-Ok.ensures.session in
    let drawn = c.in-Numbers.drawn in
    let h = subst (IsChange ledger c.args.ranges.now c.args.locks.now.table x c.args.call.now.parts.now c.args.call.now.stock.now) c.in-Numbers.is
    c.in-Ok-change_of.ensures in
    let many = ap length h.2 in
    record {
      usable = c.requires.usable;
      marks = below_limit _ _ at.room c.requires.limited;
      drawing = may_draw c.args.sessions.now c.args.call.now.session.now x at.found ledger c.args.ranges.now c.args.call.now.stock.now c.requires.drawn
          c.requires.stock
          ledger.start drawn.unit drawn.numbers refl h.1 h.2 c.requires.started c.requires.fresh
          (omega (arith, many, some_alone _ _ _ _ _ _ _ at h.0)) (omega (arith, many, at.few_numbers));
      store = draws_stored c.args.sessions.now c.args.call.now.session.now x at.found ledger c.args.ranges.now c.args.call.now.stock.now c.requires.drawn
          c.requires.stock
          drawn.levels drawn.numbers h.3 h.2;
    }

pub record_unit-requires : goal.record_unit-requires
record_unit-requires g c =
    let ledger = c.args.books.now.ledger in
    let table = c.args.locks.now.table in
    let x = c.in-Ok.session.now in
    let at = c.in-Ok.ensures.session in
    let made = c.in-Unit.made in
    let nums = x.draws ++ c.args.call.now.stock.now in
    let h = subst (IsChange ledger c.args.ranges.now table x c.args.call.now.parts.now c.args.call.now.stock.now) c.in-Unit.is c.in-Ok-change_of.ensures in
    record {
      usable = c.requires.usable;
      marks = below_limit _ _ at.room c.requires.limited;
      fresh = may_record ledger c.args.sessions.now c.args.call.now.session.now x c.args.call.now.parts.now nums ledger.start table made.unit refl h.1
          (draws_digits c.args.sessions.now c.args.call.now.session.now x at.found ledger c.args.ranges.now c.args.call.now.stock.now c.requires.drawn
          c.requires.stock nums refl)
          at.few_numbers at.found c.requires.fresh h.3 c.requires.started h.0 at.few_effects;
      store = draws_stored c.args.sessions.now c.args.call.now.session.now x at.found ledger c.args.ranges.now c.args.call.now.stock.now c.requires.drawn
          c.requires.stock
          made.levels made.unit.numbers h.2 (ap (λ (u : UnitOfWork). u.numbers) h.1);
      young = c.requires.young;
      commits = subst (λ (u : UnitOfWork). IsOfCommit ledger u table.entries) (sym h.1)
          (of_session ledger x table.entries c.args.call.now.parts.now nums
          (found_in (IsAhead ledger) (is_called c.args.call.now.session.now) c.args.sessions.now x at.found c.requires.fresh x.luw (omega arith))
          c.requires.marked);
      filed = c.requires.filed;
    }

pub returns-in-Err : goal.returns-in-Err
returns-in-Err g c =
    let r = c.in-Err.reply in
    let h = c.in-Err.ensures in
    record {
      act = λ s sessions ranges locks stored limit room. h.answer s c.args.ranges.now c.args.locks.now.table.entries sessions ranges locks stored limit room;
      serves = serves_still g.L.Link.applied g.L.Link.faults g.L.Link.refusals c.args.locks.now;
      file = answered_before g.D.Disk.tells g.D.Disk.reads g.D.Disk.may_leave g.D.Disk.faults c.args.books.now.ledger c.args.locks.now.file r c.requires.filed
          h.quiet;
      table = tt;
      sessions = tt;
      store = answered_ends g.K.Keeper.held g.K.Keeper.is_open g.K.Keeper.may_leave g.K.Keeper.faults g.met.K.Keeper.settled c.args.books.now
          c.requires.usable r h.quiet;
    }

pub returns-in_default : goal.returns-in_default
returns-in_default g c =
    let ledger = c.args.books.now.ledger in
    let file = c.args.locks.now.file in
    record {
      act = λ s sessions ranges locks stored limit room.
          commits_wanting s c.args.sessions.now c.args.ranges.now c.args.locks.now.table.entries ledger c.args.call.now.max_marks c.args.call.now.session.now
          c.in-Ok.session.now
          c.args.call.now.parts.now c.args.call.now.stock.now
          (record {
            own_sessions = sessions;
            own_ranges = ranges;
            own_locks = locks;
            own_ledger = stored;
            own_limit = limit;
            admits = room;
            found = c.in-Ok.ensures.session.found;
          })
          ledger refl;
      serves = serves_still g.L.Link.applied g.L.Link.faults g.L.Link.refusals c.args.locks.now;
      file = refused_files g.D.Disk.tells g.D.Disk.reads g.D.Disk.may_leave g.D.Disk.faults ledger ledger file file refusal.NoMemory c.requires.filed
          (same_file file) refl (inr refl);
      table = tt;
      sessions = tt;
      store = quiet_ends g.K.Keeper.held g.K.Keeper.is_open g.K.Keeper.may_leave g.K.Keeper.faults g.met.K.Keeper.settled c.args.books.now c.requires.usable
          (reply.Refused refusal.NoMemory) (λ n. refl) (λ k. (refl, λ rows may. may));
    }

pub returns-in-Numbers : goal.returns-in-Numbers
returns-in-Numbers g c =
    let ledger = c.args.books.now.ledger in
    let x = c.in-Ok.session.now in
    let at = c.in-Ok.ensures.session in
    let drawn = c.in-Numbers.drawn in
    let h = subst (IsChange ledger c.args.ranges.now c.args.locks.now.table x c.args.call.now.parts.now c.args.call.now.stock.now) c.in-Numbers.is
    c.in-Ok-change_of.ensures in
    let w = c.record_numbers.result in
    let done = c.record_numbers.ensures in
    record {
      act = λ s sessions ranges locks stored limit room.
          commits_alone s c.args.sessions.now c.args.ranges.now c.args.locks.now.table.entries ledger c.args.call.now.max_marks c.args.call.now.session.now x
          c.args.call.now.parts.now
          c.args.call.now.stock.now
          (record {
            own_sessions = sessions;
            own_ranges = ranges;
            own_locks = locks;
            own_ledger = stored;
            own_limit = limit;
            admits = room;
            found = at.found;
          })
          at drawn.unit drawn.numbers drawn.levels h.0 h.1 h.2 h.3 c.record_numbers.new.sessions c.record_numbers.new.books.ledger w done.outcome;
      serves = serves_still g.L.Link.applied g.L.Link.faults g.L.Link.refusals c.args.locks.now;
      file = numbers_files g.D.Disk.tells g.D.Disk.reads g.D.Disk.may_leave g.D.Disk.faults c.args.sessions.now c.record_numbers.new.sessions ledger
          c.record_numbers.new.books.ledger c.args.call.now.session.now drawn.unit drawn.numbers drawn.levels c.args.locks.now.file w c.requires.filed
          done.store.ledger
          done.outcome;
      table = also_failed _ w refl;
      sessions = done.sessions;
      store = done.store;
    }

pub returns-in-Unit : goal.returns-in-Unit
returns-in-Unit g c =
    let ledger = c.args.books.now.ledger in
    let x = c.in-Ok.session.now in
    let at = c.in-Ok.ensures.session in
    let made = c.in-Unit.made in
    let h = subst (IsChange ledger c.args.ranges.now c.args.locks.now.table x c.args.call.now.parts.now c.args.call.now.stock.now) c.in-Unit.is
    c.in-Ok-change_of.ensures in
    let w = c.record_unit.result in
    let done = c.record_unit.ensures in
    record {
      act = λ s sessions ranges locks stored limit room.
          commits_unit s c.args.sessions.now c.args.ranges.now c.args.locks.now.table.entries ledger c.args.call.now.max_marks c.args.call.now.session.now x
          c.args.call.now.parts.now
          c.args.call.now.stock.now
          (record {
            own_sessions = sessions;
            own_ranges = ranges;
            own_locks = locks;
            own_ledger = stored;
            own_limit = limit;
            admits = room;
            found = at.found;
          })
          at made.unit made.levels h.0 h.1 h.2 c.record_unit.new.sessions c.record_unit.new.locks.table.entries c.record_unit.new.books.ledger w done.outcome;
      serves = done.serves;
      file = done.file;
      table = done.table;
      sessions = done.sessions;
      store = done.store;
    }
