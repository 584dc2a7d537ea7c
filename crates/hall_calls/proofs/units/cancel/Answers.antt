use Rattle.std.proofs.Common.{inl, refl, sym, ◌∙◌}
use Rattle.model_laws.proofs.Cancels.{can_be, refused_plainly}
use Rattle.hall_model.specs.Step.{to_cancel}
use Rattle.hall_calls.proofs.MarkedUnits.{serves_still}
use Rattle.hall_calls.proofs.ending.AfterStop.{answered_leaves, plain_quiet, untouched_keeps}
use Rattle.hall_calls.proofs.ending.OverFile.{refused_files, same_file}
use Rattle.hall_calls.proofs.verdicts.UnitCalls.{below_limit, cancels_not}
use Rattle.hall_calls.proofs.units.cancel.Goals as goal

pub cancel_unit-requires : goal.cancel_unit-requires
cancel_unit-requires g c =
    let can = can_be c.args.books.now.ledger c.args.orders.now c.args.max_marks c.args.unit c.in-Ok.status (sym c.to_cancel.ensures ∙ c.in-Ok.is) in
    record {
      usable = c.requires.usable;
      marks = below_limit _ _ can.room c.requires.limited;
      status = can.recorded;
      allowed = can.allowed;
      filed = c.requires.filed;
    }

pub returns-in-Ok : goal.returns-in-Ok
returns-in-Ok g c =
    let h = c.cancel_unit.ensures in
    record {
      act = λ s orders locks stored limit room.
          h.act s locks stored
          ((λ i. to_cancel c.args.books.now.ledger (orders i) (limit i) c.args.unit) ∙ (sym c.to_cancel.ensures ∙ c.in-Ok.is)) room;
      limit = h.serves.limit;
      standing = h.serves.standing;
      file = h.file;
      replica = h.serves.replica;
      lost = h.serves.lost;
      table = h.table;
      ledger = h.store.ledger;
      usable = h.store.usable;
      told = h.store.told;
      left = h.store.left;
      cause = h.store.cause;
      kept = h.store.kept;
    }

pub returns-in-Err : goal.returns-in-Err
returns-in-Err g c =
    let ledger = c.args.books.now.ledger in
    let file = c.args.locks.now.file in
    let r = c.in-Err.refusal in
    let why = sym c.to_cancel.ensures ∙ c.in-Err.is in
    let plain = refused_plainly ledger c.args.orders.now c.args.max_marks c.args.unit r why in
    let still = serves_still g.L.Link.applied g.L.Link.faults g.L.Link.refusals c.args.locks.now in
    record {
      act = λ s orders locks stored limit room.
          cancels_not s c.args.orders.now c.args.locks.now.table.entries ledger c.args.max_marks c.args.unit r orders locks stored limit room why;
      limit = refl;
      standing = refl;
      file = refused_files g.D.Disk.tells g.D.Disk.reads g.D.Disk.may_leave g.D.Disk.faults ledger ledger file file r c.requires.filed (same_file file) refl
          (inl plain);
      replica = still.replica;
      lost = still.lost;
      table = tt;
      ledger = tt;
      usable = c.requires.usable;
      told = refl;
      left = answered_leaves g.K.Keeper.held g.K.Keeper.is_open g.K.Keeper.may_leave c.args.books.now g.met.K.Keeper.settled c.requires.usable;
      cause = plain_quiet r _ _ refl plain;
      kept = untouched_keeps g.K.Keeper.held g.K.Keeper.may_leave c.args.books.now.keeper r;
    }
