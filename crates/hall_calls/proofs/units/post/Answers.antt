use Rattle.std.proofs.Common.{sym, ap, ◌∙◌, subst}
use Rattle.enq_server.specs.Server.{Server}
use Rattle.hall_model.specs.Calls.{post_of}
use Rattle.hall_calls.specs.Marking.{orders_behind}
use Rattle.hall_calls.specs.Written.{IsWritten, locks_posted}
use Rattle.hall_calls.proofs.MarkedUnits.{orders_stay}
use Rattle.hall_calls.proofs.units.post.Goals as goal

pub post_held-written-requires : goal.post_held-written-requires
post_held-written-requires g c = record { usable = c.requires.usable; limited = c.requires.limited; filed = c.requires.filed }

pub end_order-requires : goal.end_order-requires
end_order-requires g c = c.requires.places

pub returns : goal.returns
returns g c =
    let h = c.post_held-written.ensures in
    let written = c.post_held-written.result in
    let left = c.post_held-written.new.locks in
    let after = c.post_held-written.new.books in
    record {
      act = λ s orders locks stored limit room.
          subst (λ os. IsWritten s (post_of c.args.call.part c.args.call.worker)
          (record s { orders = os; locks = locks_posted c.args.call.part s.locks left.table.entries; stored = after.ledger }) written)
          (ap (λ os. orders_behind os c.args.call.worker written) orders ∙ sym c.end_order.ensures)
          (h.act s (orders ∙ sym c.as_slice.ensures.value) locks stored limit room);
      limit = h.serves.limit;
      standing = h.serves.standing;
      file = h.file;
      unfiled = λ off. ap (λ (v : Server _ _). v.file) (h.second off);
      unshipped = λ off. ap (λ (v : Server _ _). v.replica) (h.second off);
      second = λ off. ap (λ (v : Server _ _). v.table.entries) (h.second off);
      table = h.table;
      replica = h.serves.replica;
      lost = h.serves.lost;
      orders = orders_stay written c.args.orders.now.items _ c.args.call.worker c.end_order.ensures;
      ledger = h.store.ledger;
      usable = h.store.usable;
      told = h.store.told;
      left = h.store.left;
      cause = h.store.cause;
      kept = h.store.kept;
    }
