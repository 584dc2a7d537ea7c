use Rattle.std.proofs.Common.{◌∙◌, length, refl, sym, subst}
use Rattle.std.specs.Prelude.{Some}
use Rattle.hall_calls.proofs.ending.AfterStop.{also_failed}
use Rattle.hall_calls.proofs.ending.OverFields.{state_in, up}
use Rattle.hall_calls.proofs.ending.PresentCalls.{finds, locks_up, present_written, serves_up, wrote, young}
use Rattle.hall_calls.proofs.lemmas.WithHistory.{lost_none}
use Rattle.hall_calls.proofs.ending.StateBehind.{commit_ranges}
use Rattle.hall_calls.specs.View.{View}
use Rattle.hall_model.specs.Stocks.{IsStockIn}
use Rattle.hall_calls.proofs.present.Present.commit.Goals as goal

pub commit-written-requires : goal.commit-written-requires
commit-written-requires g c =
    let found = finds g.L.Link.applied c.self.inside c.self.invariant c.self.view_is c.requires.due refl in
    record {
      usable = found.usable;
      limited = found.kept.steady.limited;
      started = found.kept.steady.started;
      young = young found.kept;
      fresh = found.kept.steady.fresh.ahead;
      marked = found.kept.steady.marked;
      drawn = found.kept.steady.drawn;
      filed = found.filed;
      stock = subst (λ (v : View _ _ _). IsStockIn v.state c.args.stock.now) (sym c.self.view_is) c.requires.stock;
    }

pub ended-requires : goal.ended-requires
ended-requires g c = c.commit-written.ensures.standing ∙ c.self.invariant.stands

pub invariant_of-self : goal.invariant_of-self
invariant_of-self g c =
    let called = c.commit-written in
    present_written (record c.self.inside { sessions = called.new.sessions; locks = called.new.locks; ranges = called.new.ranges; books = called.new.books })
    (finds g.L.Link.applied c.self.inside c.self.invariant c.self.view_is c.requires.due refl)
    (c.ended.ensures (length c.args.past.now.items) c.self.inside.books.ledger.start (Some c.args.session.now) c.begun-call.ensures)
    called.ensures.store.usable called.ensures.store.left called.ensures.file.lists called.ensures.file.images

pub returns : goal.returns
returns g c =
    let old = c.self.inside in
    let called = c.commit-written in
    let now = record old { sessions = called.new.sessions; locks = called.new.locks; ranges = called.new.ranges; books = called.new.books } in
    let s = state_in g.K.Keeper.held g.L.Link.applied (up old) c.args.past.now.items in
    serves_up old now c.self.view_is c.requires.due refl refl
    (c.ended.ensures (length c.args.past.now.items) c.self.inside.books.ledger.start (Some c.args.session.now) c.begun-call.ensures)
    (record {
      told = called.ensures.store.told;
      ledger = called.ensures.store.ledger;
      sessions = called.ensures.sessions;
      orders = also_failed _ called.result refl;
      ranges = commit_ranges c.args.session.now c.args.parts.now c.args.stock.now called.result old.ranges called.new.ranges called.ensures.ranges;
      lost = lost_none old.books.ledger.start old.locks.table called.new.locks.table old.sessions called.result called.ensures.table;
      locks = locks_up old now refl called.ensures.replica called.ensures.limit called.ensures.lost;
      written = λ none room. called.ensures.act s refl refl refl refl refl room;
    })
    (wrote called.ensures.store) called.ensures.file.does called.ensures.replica
