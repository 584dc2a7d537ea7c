use Rattle.std.proofs.Common.{inr, refl, sym, ap, ◌∙◌, subst}
use Rattle.enq_base.specs.declared.refusal.Refusal.TheVariants as refusal
use Rattle.ledger_steps.specs.declared.step.Step.TheVariants.{Note}
use Rattle.update_records.specs.Growing.{with_mark}
use Rattle.update_records.specs.Ledger.{Ledger}
use Rattle.hall_calls.specs.Filing.{HasOpenLists, IsUnrefused}
use Rattle.hall_calls.specs.Marking.{EndsList, IsNoted}
use Rattle.hall_calls.specs.declared.units.Written.TheVariants.{Answered}
use Rattle.hall_calls.proofs.MarkedUnits.{posted_ends, posted_unrefused, posts_as, serves_still}
use Rattle.hall_calls.proofs.ending.OverFile.{refused_files, same_file}
use Rattle.hall_calls.proofs.ending.OverStore.{ready_ends, unready_ends}
use Rattle.hall_calls.proofs.verdicts.UnitCalls.{outcome_is, posts_wanting}
use Rattle.hall_calls.proofs.units.post_unit.Goals as goal
use Rattle.ledger_steps.specs.Parts.{is_first}

pub prepare-requires : goal.prepare-requires
prepare-requires g c = record { usable = c.requires.usable; marks = c.requires.marks; waits = c.requires.waits }

pub note-requires : goal.note-requires
note-requires g c =
    let part = c.args.part in
    let unit = c.args.unit in
    let outcome = c.in-Ok.ready.1 in
    let kind = c.kind_for.result in
    record {
      usable = c.prepare.ensures.usable;
      ready = c.in-Ok.ensures.ready;
      step = c.in-Ok.ensures.step ∙ ap (λ k. Note unit k) (sym c.kind_for.ensures);
      ends = subst (λ first. EndsList first c.prepare.new.books.ledger (with_mark c.prepare.new.books.ledger unit kind) unit) (sym c.is_first.ensures)
          (subst (λ (l : Ledger). EndsList (is_first part) l (with_mark l unit kind) unit) (sym c.prepare.ensures.unmoved.ledger)
          (posted_ends part c.args.books.now.ledger unit outcome kind c.requires.waits c.kind_for.ensures));
      answer = subst (λ r. IsUnrefused (Answered r)) (sym c.posted.ensures) (posted_unrefused part unit outcome);
      filed = subst (λ l. HasOpenLists g.D.Disk.tells g.D.Disk.reads g.D.Disk.may_leave l c.args.locks.now.file) (sym c.prepare.ensures.unmoved.ledger)
          c.requires.filed;
    }

pub returns-in-Err : goal.returns-in-Err
returns-in-Err g c =
    let file = c.args.locks.now.file in
    let ledger = c.args.books.now.ledger in
    let unmoved = c.prepare.ensures.unmoved in
    record {
      act = λ s worker locks stored room found space.
          posts_wanting c.args.part s s.orders c.args.locks.now.table.entries ledger c.prepare.new.books.ledger worker c.args.unit refl locks
          stored unmoved.ledger room found;
      serves = serves_still g.L.Link.applied g.L.Link.faults g.L.Link.refusals c.args.locks.now;
      table = tt;
      second = λ off. refl;
      file = refused_files g.D.Disk.tells g.D.Disk.reads g.D.Disk.may_leave g.D.Disk.faults ledger c.prepare.new.books.ledger file file refusal.NoMemory
          c.requires.filed (same_file file) unmoved.ledger (inr refl);
      store = unready_ends g.K.Keeper.held g.K.Keeper.is_open g.K.Keeper.may_leave g.K.Keeper.faults g.met.K.Keeper.settled c.args.books.now
          c.prepare.new.books c.prepare.ensures.usable unmoved;
    }

pub returns : goal.returns
returns g c =
    let part = c.args.part in
    let unit = c.args.unit in
    let ledger = c.args.books.now.ledger in
    let entries = c.args.locks.now.table.entries in
    let outcome = c.in-Ok.ready.1 in
    let after = c.note.new.books.ledger in
    let left = c.note.new.locks.table.entries in
    record {
      act = λ s worker locks stored room found space.
          posts_as part s entries left ledger after worker unit outcome c.kind_for.result c.posted.result locks stored room
          found space (outcome_is _ outcome c.in-Ok.ensures.outcome) c.kind_for.ensures c.posted.ensures
          c.note.result
          (subst (λ first. IsNoted ledger after entries left first unit c.kind_for.result c.posted.result c.note.result) c.is_first.ensures
          (subst (λ (l : Ledger). IsNoted l after entries left c.is_first.result unit c.kind_for.result c.posted.result c.note.result)
          c.prepare.ensures.unmoved.ledger c.note.ensures.outcome));
      serves = c.note.ensures.serves;
      table = c.note.ensures.table;
      second = λ off. c.note.ensures.apart (c.is_first.ensures ∙ off);
      file = c.note.ensures.file;
      store = ready_ends g.K.Keeper.held g.K.Keeper.is_open g.K.Keeper.may_leave g.K.Keeper.faults c.args.books.now c.prepare.new.books c.note.new.books
          c.note.result c.prepare.ensures.unmoved c.note.ensures.store;
    }
