use Rattle.std.proofs.Common.{[], length, refl}
use Rattle.std.specs.Prelude.{Some}
use Rattle.hall_calls.proofs.ending.AfterStop.{also_failed}
use Rattle.hall_calls.proofs.ending.OverFields.{state_in}
use Rattle.hall_calls.proofs.ending.PresentCalls.{finds, locks_same, present_books, serves_books, wrote}
use Rattle.hall_calls.proofs.lemmas.WithHistory.{lost_none}
use Rattle.hall_calls.proofs.ending.StateBehind.{kept_ranges}
use Rattle.hall_model.specs.Calls.{call_of}
use Rattle.hall_model.specs.declared.command.Command.TheVariants as command
use Rattle.hall_calls.proofs.present.Present.draw.Goals as goal

pub draw-written-requires : goal.draw-written-requires
draw-written-requires g c =
    let found = finds g.L.Link.applied c.self.inside c.self.invariant c.self.view_is c.requires refl in
    record { usable = found.usable; started = found.kept.steady.started; drawn = found.kept.steady.drawn }

pub ended-requires : goal.ended-requires
ended-requires g c = c.self.invariant.stands

pub invariant_of-self : goal.invariant_of-self
invariant_of-self g c =
    let called = c.draw-written in
    present_books (record c.self.inside { sessions = called.new.sessions; ranges = called.new.ranges; books = called.new.books })
    (finds g.L.Link.applied c.self.inside c.self.invariant c.self.view_is c.requires refl)
    (c.ended.ensures (length c.args.past.now.items) c.self.inside.books.ledger.start (Some c.args.session.now) c.begun-call.ensures)
    called.ensures.store.usable called.ensures.store.left refl called.ensures.levels

pub returns : goal.returns
returns g c =
    let old = c.self.inside in
    let called = c.draw-written in
    let s = state_in g.K.Keeper.held g.L.Link.applied old c.args.past.now.items in
    serves_books old (record old { sessions = called.new.sessions; ranges = called.new.ranges; books = called.new.books })
    c.self.view_is c.requires refl refl refl
    (c.ended.ensures (length c.args.past.now.items) c.self.inside.books.ledger.start (Some c.args.session.now) c.begun-call.ensures)
    (record {
      told = called.ensures.store.told;
      ledger = called.ensures.store.ledger;
      sessions = called.ensures.sessions;
      orders = also_failed _ called.result refl;
      ranges = kept_ranges (call_of (command.Number c.args.session.now c.args.object.now c.args.nr)) called.result old.ranges called.new.ranges refl
          called.ensures.ranges;
      lost = lost_none old.books.ledger.start old.locks.table old.locks.table old.sessions called.result (also_failed _ called.result refl);
      locks = locks_same refl;
      written = λ none room. called.ensures.act s refl refl refl room;
    })
    (wrote called.ensures.store) (called.ensures.keeper (state_in g.K.Keeper.held g.L.Link.applied old []) refl refl)
