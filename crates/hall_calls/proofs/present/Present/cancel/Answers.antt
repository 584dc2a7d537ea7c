use Rattle.std.proofs.Common.{◌∙◌, length, refl, sym, ap}
use Rattle.std.specs.Prelude.{None}
use Rattle.hall_calls.proofs.ending.OverFields.{state_in, up}
use Rattle.hall_calls.proofs.ending.PresentCalls.{finds, leaves_else, locks_up, present_written, serves_up}
use Rattle.hall_calls.proofs.lemmas.WithHistory.{lost_none}
use Rattle.hall_calls.proofs.present.Present.cancel.Goals as goal

pub cancel-written-requires : goal.cancel-written-requires
cancel-written-requires g c =
    let found = finds g.L.Link.applied c.self.inside c.self.invariant c.self.view_is c.requires refl in
    record {
      usable = found.usable;
      limited = found.kept.steady.limited;
      places = ap length c.as_slice.ensures.value ∙ found.kept.steady.places;
      filed = found.filed;
    }

pub ended-requires : goal.ended-requires
ended-requires g c = c.cancel-written.ensures.standing ∙ c.self.invariant.stands

pub invariant_of-self : goal.invariant_of-self
invariant_of-self g c =
    let called = c.cancel-written in
    present_written (record c.self.inside { locks = called.new.locks; books = called.new.books })
    (finds g.L.Link.applied c.self.inside c.self.invariant c.self.view_is c.requires refl)
    (c.ended.ensures (length c.args.past.now.items) c.self.inside.books.ledger.start None c.begun-call.ensures)
    called.ensures.usable called.ensures.left called.ensures.file.lists called.ensures.file.images

pub returns : goal.returns
returns g c =
    let old = c.self.inside in
    let called = c.cancel-written in
    let now = record old { locks = called.new.locks; books = called.new.books } in
    let s = state_in g.K.Keeper.held g.L.Link.applied (up old) c.args.past.now.items in
    serves_up old now c.self.view_is c.requires refl refl
    (c.ended.ensures (length c.args.past.now.items) c.self.inside.books.ledger.start None c.begun-call.ensures)
    (leaves_else refl refl refl refl called.ensures.told called.ensures.ledger
    (lost_none old.books.ledger.start old.locks.table called.new.locks.table old.sessions called.result called.ensures.table)
    (locks_up old now refl called.ensures.replica called.ensures.limit called.ensures.lost)
    (λ none room. called.ensures.act s (sym c.as_slice.ensures.value) refl refl refl room))
    (record { told = called.ensures.told; cause = called.ensures.cause; kept = called.ensures.kept }) called.ensures.file.does called.ensures.replica
