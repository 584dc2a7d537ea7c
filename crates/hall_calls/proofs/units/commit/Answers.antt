use Rattle.std.proofs.Common.{sym, subst}
use Rattle.draw_laws.proofs.Stocks.{stock_room}
use Rattle.update_records.specs.Business.{numbers_of}
use Rattle.hall_model.specs.Kept.{draws_in}
use Rattle.hall_model.specs.declared.command.Command.TheVariants as command
use Rattle.hall_calls.specs.Written.{IsWritten}
use Rattle.hall_calls.proofs.ending.AfterStop.{also_failed}
use Rattle.hall_calls.proofs.units.commit.Goals as goal

pub record_commit-written-requires : goal.record_commit-written-requires
record_commit-written-requires g c = record {
  usable = c.requires.usable;
  limited = c.requires.limited;
  started = c.requires.started;
  young = c.requires.young;
  fresh = c.requires.fresh;
  marked = c.requires.marked;
  drawn = c.requires.drawn;
  filed = c.requires.filed;
  stock = c.requires.stock;
}

pub pass_recorded-requires : goal.pass_recorded-requires
pass_recorded-requires g c =
    let ledger = c.args.books.now.ledger in
    stock_room c.args.ranges.now ledger.levels (draws_in c.args.sessions.now)
    (numbers_of ledger.units ledger.marks) c.args.call.now.stock.now c.requires.drawn c.requires.stock.reserved

pub returns : goal.returns
returns g c =
    let h = c.record_commit-written.ensures in
    let written = c.record_commit-written.result in
    let new = c.record_commit-written.new in
    record {
      act = λ s sessions ranges locks stored limit room.
          subst (λ rs. IsWritten s (command.Commit c.args.call.now.session.now c.args.call.now.parts.now c.args.call.now.stock.now)
          (record s { sessions = new.sessions; ranges = rs; locks = new.locks.table.entries; stored = new.books.ledger }) written)
          (sym c.pass_recorded.ensures) (h.act s sessions ranges locks stored limit room);
      limit = h.serves.limit;
      standing = h.serves.standing;
      file = h.file;
      replica = h.serves.replica;
      lost = h.serves.lost;
      table = h.table;
      sessions = h.sessions;
      ranges = also_failed _ written c.pass_recorded.ensures;
      store = h.store;
    }
