use Rattle.std.proofs.Common.{refl, sym, ap, subst}
use Rattle.update_records.specs.Ledger.{Ledger}
use Rattle.model_laws.proofs.PlainRefusals.{IsPlain}
use Rattle.hall_calls.proofs.MarkedUnits.{unread_ends}
use Rattle.hall_calls.proofs.ending.AfterStop.{answered_leaves, plain_quiet, untouched_keeps}
use Rattle.hall_calls.proofs.ending.OverStore.{unready_ends}
use Rattle.hall_calls.proofs.verdicts.UnitCalls.{reads, reads_in_doubt, reads_unknown, reads_wanting}
use Rattle.hall_calls.proofs.units.read.Goals as goal

pub returns-in-Err : goal.returns-in-Err
returns-in-Err g c =
    let r = c.in-Err.refusal in
    let unknown = c.in-Err.ensures.unknown in
    record {
      act = λ s sessions told stored none room.
          reads_unknown s c.args.sessions.now c.args.books.now.ledger c.args.name.now c.args.table.now c.args.key.now r sessions stored room
          unknown.0 unknown.1;
      levels = record { units = refl; marks = refl };
      ledger = refl;
      usable = c.requires.usable;
      told = refl;
      left = answered_leaves g.K.Keeper.held g.K.Keeper.is_open g.K.Keeper.may_leave c.args.books.now g.met.K.Keeper.settled c.requires.usable;
      cause = plain_quiet r _ _ refl (subst IsPlain (sym unknown.1) refl);
      kept = untouched_keeps g.K.Keeper.held g.K.Keeper.may_leave c.args.books.now.keeper r;
    }

pub returns-in-Ok : goal.returns-in-Ok
returns-in-Ok g c =
    let same = c.read.ensures.ledger in
    let unmoved = c.in-Ok.ensures.unmoved in
    record {
      act = λ s sessions told stored none room.
          reads s (g.K.Keeper.held c.args.books.now.keeper) c.args.sessions.now c.args.books.now.ledger c.read.new.self.ledger c.args.name.now
          c.args.table.now c.args.key.now c.in_default.field-0.now c.in-Ok.text
          sessions told stored room c.in_default.ensures.found c.in-Ok.ensures.text same;
      levels = record { units = ap (λ (l : Ledger). l.units) same; marks = ap (λ (l : Ledger). l.marks) same };
      ledger = same;
      usable = c.in-Ok.ensures.usable;
      told = c.read.ensures.told;
      left = answered_leaves g.K.Keeper.held g.K.Keeper.is_open g.K.Keeper.may_leave c.read.new.self g.met.K.Keeper.settled c.in-Ok.ensures.usable;
      cause = c.in-Ok.ensures.cause.quiet;
      kept = (unmoved.rows, unmoved.crash);
    }

pub returns-in-Err-NoMemory : goal.returns-in-Err-NoMemory
returns-in-Err-NoMemory g c =
    let same = c.read.ensures.ledger in
    let store = unready_ends g.K.Keeper.held g.K.Keeper.is_open g.K.Keeper.may_leave g.K.Keeper.faults g.met.K.Keeper.settled c.args.books.now
    c.read.new.self (rw c.in-Err-NoMemory.field-0-is at c.in-Err-NoMemory.ensures.usable)
    (rw c.in-Err-NoMemory.field-0-is at c.in-Err-NoMemory.ensures.unmoved) in
    record {
      act = λ s sessions told stored none room.
          reads_wanting s c.args.sessions.now c.args.books.now.ledger c.read.new.self.ledger c.args.name.now c.args.table.now c.args.key.now
          c.in_default.field-0.now sessions stored room c.in_default.ensures.found same;
      levels = record { units = ap (λ (l : Ledger). l.units) same; marks = ap (λ (l : Ledger). l.marks) same };
      ledger = same;
      usable = store.usable;
      told = store.told;
      left = store.left;
      cause = store.cause;
      kept = store.kept;
    }

pub returns-in-Err-Failed : goal.returns-in-Err-Failed
returns-in-Err-Failed g c =
    let same = c.read.ensures.ledger in
    let store = unread_ends g.K.Keeper.held g.K.Keeper.is_open g.K.Keeper.may_leave g.K.Keeper.faults g.met.K.Keeper.settled c.args.books.now
    c.read.new.self c.requires.usable same c.read.ensures.told c.read.ensures.crash
    (c.read.ensures.cause.later, rw c.in-Err-Failed.field-0-is at c.in-Err-Failed.ensures.cause.failed) in
    record {
      act = λ s sessions told stored none room.
          reads_in_doubt s c.args.sessions.now c.args.name.now c.args.table.now c.args.key.now c.in_default.field-0.now sessions none room
          c.in_default.ensures.found;
      levels = (record { units = ap (λ (l : Ledger). l.units) same; marks = ap (λ (l : Ledger). l.marks) same }, tt);
      ledger = same;
      usable = tt;
      told = store.told;
      left = store.left;
      cause = store.cause;
      kept = store.kept;
    }
