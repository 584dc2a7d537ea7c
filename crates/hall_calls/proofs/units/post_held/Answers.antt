use Rattle.std.proofs.Common.{inl, length, refl, sym, ap, ◌∙◌, subst}
use Rattle.std.specs.Prelude.{nat_le}
use Rattle.hall_model.specs.Orders.{order_for, order_of}
use Rattle.hall_model.specs.declared.command.Reply.TheVariants as reply
use Rattle.model_laws.proofs.PartOrders.{held_for}
use Rattle.hall_calls.proofs.MarkedUnits.{IsNotPosted, can_be_posted, not_posted, not_posted_plainly, posts_not, serves_still}
use Rattle.hall_calls.proofs.ending.AfterStop.{plain_quiet, untouched_keeps}
use Rattle.hall_calls.proofs.ending.OverFile.{refused_files, same_file}
use Rattle.hall_calls.proofs.ending.OverStore.{quiet_ends}
use Rattle.hall_calls.proofs.verdicts.UnitCalls.{below_limit}
use Rattle.hall_calls.proofs.units.post_held.Goals as goal

pub post_unit-requires : goal.post_unit-requires
post_unit-requires g c =
    let ledger = c.args.books.now.ledger in
    let can = can_be_posted (order_for c.args.call.part ledger c.args.orders.now c.args.call.worker)
    (nat_le c.args.call.max_marks (length ledger.marks)) c.args.call.max_marks
    c.in-Ok.unit (sym c.to_post.ensures ∙ c.in-Ok.is) in
    record {
      usable = c.requires.usable;
      marks = below_limit _ _ can.1 c.requires.limited;
      waits = (held_for c.args.call.part ledger (order_of c.args.orders.now c.args.call.worker) c.in-Ok.unit can.0).1;
      filed = c.requires.filed;
    }

pub returns-in-Ok : goal.returns-in-Ok
returns-in-Ok g c =
    let ledger = c.args.books.now.ledger in
    let can = can_be_posted (order_for c.args.call.part ledger c.args.orders.now c.args.call.worker)
    (nat_le c.args.call.max_marks (length ledger.marks)) c.args.call.max_marks
    c.in-Ok.unit (sym c.to_post.ensures ∙ c.in-Ok.is) in
    record {
      act = λ s orders locks stored limit room.
          c.post_unit.ensures.act s c.args.call.worker locks stored room
          (ap (λ os. order_for c.args.call.part ledger os c.args.call.worker) orders ∙ can.0)
          (ap (λ n. nat_le n (length ledger.marks)) limit ∙ can.1);
      serves = c.post_unit.ensures.serves;
      table = c.post_unit.ensures.table;
      second = c.post_unit.ensures.second;
      file = c.post_unit.ensures.file;
      store = c.post_unit.ensures.store;
    }

pub returns-in-Err : goal.returns-in-Err
returns-in-Err g c =
    let ledger = c.args.books.now.ledger in
    let file = c.args.locks.now.file in
    let r = c.in-Err.refusal in
    let full = nat_le c.args.call.max_marks (length ledger.marks) in
    let order = order_for c.args.call.part ledger c.args.orders.now c.args.call.worker in
    let why = not_posted order full c.args.call.max_marks r (sym c.to_post.ensures ∙ c.in-Err.is) in
    let plain = not_posted_plainly order full c.args.call.max_marks r why in
    record {
      act = λ s orders locks stored limit room.
          posts_not c.args.call.part s s.orders c.args.locks.now.table.entries ledger c.args.call.max_marks c.args.call.worker r refl locks stored limit room
          (subst (λ os. IsNotPosted (order_for c.args.call.part ledger os c.args.call.worker) full c.args.call.max_marks r) (sym orders) why);
      serves = serves_still g.L.Link.applied g.L.Link.faults g.L.Link.refusals c.args.locks.now;
      table = tt;
      second = λ off. refl;
      file = refused_files g.D.Disk.tells g.D.Disk.reads g.D.Disk.may_leave g.D.Disk.faults ledger ledger file file r c.requires.filed (same_file file) refl
          (inl plain);
      store = quiet_ends g.K.Keeper.held g.K.Keeper.is_open g.K.Keeper.may_leave g.K.Keeper.faults g.met.K.Keeper.settled c.args.books.now c.requires.usable
          (reply.Refused r) (λ n. plain_quiet r n n refl plain) (λ k. untouched_keeps g.K.Keeper.held g.K.Keeper.may_leave k r);
    }
