use Rattle.std.proofs.Common.{◌≡◌, inr, true, refl, sym, ap, subst}
use Rattle.std.specs.Prelude.{is_some}
use Rattle.enq_base.specs.declared.refusal.Refusal.TheVariants as refusal
use Rattle.update_records.specs.Growing.{with_mark}
use Rattle.update_records.specs.Ledger.{Ledger}
use Rattle.update_records.specs.Marks.{may_follow}
use Rattle.update_records.specs.declared.records.MarkKind.TheVariants.{Gone}
use Rattle.hall_model.specs.declared.command.Reply.TheVariants as reply
use Rattle.model_laws.proofs.Cancels.{may_follow_gone}
use Rattle.hall_calls.specs.Filing.{HasOpenLists}
use Rattle.hall_calls.specs.Marking.{EndsList, IsNoted}
use Rattle.hall_calls.proofs.MarkedUnits.{cancels_as, gone_ends, serves_still}
use Rattle.hall_calls.proofs.ending.OverFile.{refused_files, same_file}
use Rattle.hall_calls.proofs.ending.OverStore.{ready_ends, unready_ends}
use Rattle.hall_calls.proofs.verdicts.UnitCalls.{cancels_wanting}
use Rattle.hall_calls.proofs.units.cancel_unit.Goals as goal

pub prepare_mark-requires : goal.prepare_mark-requires
prepare_mark-requires g c = record {
  usable = c.requires.usable;
  marks = c.requires.marks;
  kind = tt;
  follows = record {
    recorded = ap is_some c.requires.status;
    follows = subst (λ o. may_follow o Gone ≡ true) (sym c.requires.status) (may_follow_gone c.args.status c.requires.allowed);
  };
}

pub note-requires : goal.note-requires
note-requires g c =
    let unit = c.args.unit in
    let same = c.prepare_mark.ensures.unmoved.ledger in
    record {
      usable = c.prepare_mark.ensures.usable;
      ready = c.in-Ok.ensures.ready;
      step = c.in-Ok.ensures.step;
      ends = subst (λ (l : Ledger). EndsList c.is_open.result l (with_mark l unit Gone) unit) (sym same)
          (gone_ends c.args.books.now.ledger unit c.args.status c.is_open.result c.requires.status c.requires.allowed c.is_open.ensures);
      answer = tt;
      filed = subst (λ l. HasOpenLists g.D.Disk.tells g.D.Disk.reads g.D.Disk.may_leave l c.args.locks.now.file) (sym same) c.requires.filed;
    }

pub returns-in_default : goal.returns-in_default
returns-in_default g c =
    let ledger = c.args.books.now.ledger in
    let file = c.args.locks.now.file in
    let same = c.prepare_mark.ensures.unmoved in
    record {
      act = λ s locks stored found room.
          cancels_wanting s s.orders c.args.locks.now.table.entries ledger c.prepare_mark.new.self.ledger s.mark_limit c.args.unit c.args.status refl locks
          stored refl room found same.ledger;
      serves = serves_still g.L.Link.applied g.L.Link.faults g.L.Link.refusals c.args.locks.now;
      table = tt;
      file = refused_files g.D.Disk.tells g.D.Disk.reads g.D.Disk.may_leave g.D.Disk.faults ledger c.prepare_mark.new.self.ledger file file refusal.NoMemory
          c.requires.filed (same_file file) same.ledger (inr refl);
      store = unready_ends g.K.Keeper.held g.K.Keeper.is_open g.K.Keeper.may_leave g.K.Keeper.faults g.met.K.Keeper.settled c.args.books.now
          c.prepare_mark.new.self c.prepare_mark.ensures.usable same;
    }

pub returns : goal.returns
returns g c =
    let ledger = c.args.books.now.ledger in
    let entries = c.args.locks.now.table.entries in
    let left = c.note.new.locks.table.entries in
    let after = c.note.new.books.ledger in
    let same = c.prepare_mark.ensures.unmoved in
    record {
      act = λ s locks stored found room.
          cancels_as s s.orders entries left ledger after s.mark_limit c.args.unit c.args.status c.is_open.result refl locks stored refl room found
          c.is_open.ensures c.note.result
          (subst (λ (l : Ledger). IsNoted l after entries left c.is_open.result c.args.unit Gone (reply.Unit c.args.unit) c.note.result) same.ledger
          c.note.ensures.outcome);
      serves = c.note.ensures.serves;
      table = c.note.ensures.table;
      file = c.note.ensures.file;
      store = ready_ends g.K.Keeper.held g.K.Keeper.is_open g.K.Keeper.may_leave g.K.Keeper.faults c.args.books.now c.prepare_mark.new.self c.note.new.books
          c.note.result same c.note.ensures.store;
    }
