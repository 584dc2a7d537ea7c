use Rattle.std.proofs.Common.{inr, refl, subst}
use Rattle.enq_base.specs.declared.refusal.Refusal.TheVariants as refusal
use Rattle.enq_base.specs.declared.unit.Status.TheVariants.{Bad2}
use Rattle.update_records.specs.Ledger.{Ledger}
use Rattle.update_records.specs.declared.records.MarkKind.TheVariants.{Again2}
use Rattle.hall_calls.specs.Marking.{IsMarked}
use Rattle.hall_calls.proofs.MarkedUnits.{reposted_files, reposts_as}
use Rattle.hall_calls.proofs.ending.OverFile.{refused_files, same_file}
use Rattle.hall_calls.proofs.ending.OverStore.{ready_ends, unready_ends}
use Rattle.hall_calls.proofs.verdicts.UnitCalls.{resubmits_wanting}
use Rattle.hall_calls.proofs.units.repost.Goals as goal

pub prepare_mark-requires : goal.prepare_mark-requires
prepare_mark-requires g c = record { usable = c.requires.usable; marks = c.requires.marks; kind = tt; follows = c.requires.follows }

pub note_again-requires : goal.note_again-requires
note_again-requires g c = record { usable = c.prepare_mark.ensures.usable; ready = c.in-Ok.ensures.ready; step = c.in-Ok.ensures.step }

pub returns-in_default : goal.returns-in_default
returns-in_default g c =
    let ledger = c.args.books.now.ledger in
    let now = c.prepare_mark.new.self.ledger in
    let file = c.args.locks.now.file in
    let same = c.prepare_mark.ensures.unmoved in
    record {
      act = λ s locks stored found room.
          resubmits_wanting s c.args.locks.now.table.entries ledger now s.mark_limit c.args.unit Bad2 locks stored refl room found same.ledger;
      file = refused_files g.D.Disk.tells g.D.Disk.reads g.D.Disk.may_leave g.D.Disk.faults ledger now file file refusal.NoMemory c.requires.filed
          (same_file file) same.ledger (inr refl);
      store = unready_ends g.K.Keeper.held g.K.Keeper.is_open g.K.Keeper.may_leave g.K.Keeper.faults g.met.K.Keeper.settled c.args.books.now
          c.prepare_mark.new.self c.prepare_mark.ensures.usable same;
    }

pub returns : goal.returns
returns g c =
    let ledger = c.args.books.now.ledger in
    let unit = c.args.unit in
    let after = c.note_again.new.books.ledger in
    let w = c.note_again.result in
    let same = c.prepare_mark.ensures.unmoved in
    let marked = subst (λ (l : Ledger). IsMarked l after unit Again2 w) same.ledger c.note_again.ensures.outcome in
    let store = ready_ends g.K.Keeper.held g.K.Keeper.is_open g.K.Keeper.may_leave g.K.Keeper.faults c.args.books.now c.prepare_mark.new.self
    c.note_again.new.books w same c.note_again.ensures.store in
    record {
      act = λ s locks stored found room.
          reposts_as s c.args.locks.now.table.entries ledger after s.mark_limit unit locks stored refl room found w marked;
      file = reposted_files g.D.Disk.tells g.D.Disk.reads g.D.Disk.may_leave g.D.Disk.faults ledger after unit c.args.locks.now.file w c.requires.filed
          c.requires.follows.follows store.ledger marked;
      store = store;
    }
