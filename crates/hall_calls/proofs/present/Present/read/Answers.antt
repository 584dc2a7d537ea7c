use Rattle.std.proofs.Common.{length, refl}
use Rattle.std.specs.Prelude.{Some}
use Rattle.hall_calls.proofs.ending.AfterStop.{also_failed, also_store_failed}
use Rattle.hall_calls.proofs.ending.OverFields.{state_in}
use Rattle.hall_calls.proofs.ending.PresentCalls.{finds, leaves_else, locks_same, never, present_books, serves_books}
use Rattle.hall_calls.proofs.lemmas.WithHistory.{lost_none}
use Rattle.hall_calls.proofs.present.Present.read.Goals as goal

pub read-written-requires : goal.read-written-requires
read-written-requires g c =
    let found = finds g.L.Link.applied c.self.inside c.self.invariant c.self.view_is c.requires refl in
    record { usable = found.usable }

pub ended-requires : goal.ended-requires
ended-requires g c = c.self.invariant.stands

pub invariant_of-self : goal.invariant_of-self
invariant_of-self g c =
    let called = c.read-written in
    present_books (record c.self.inside { books = called.new.books })
    (finds g.L.Link.applied c.self.inside c.self.invariant c.self.view_is c.requires refl)
    (c.ended.ensures (length c.args.past.now.items) c.self.inside.books.ledger.start (Some c.args.session.now) c.begun-call.ensures)
    called.ensures.usable called.ensures.left refl called.ensures.levels

pub returns : goal.returns
returns g c =
    let old = c.self.inside in
    let called = c.read-written in
    let s = state_in g.K.Keeper.held g.L.Link.applied old c.args.past.now.items in
    serves_books old (record old { books = called.new.books }) c.self.view_is c.requires refl refl refl
    (c.ended.ensures (length c.args.past.now.items) c.self.inside.books.ledger.start (Some c.args.session.now) c.begun-call.ensures)
    (leaves_else refl refl refl refl called.ensures.told (also_store_failed _ called.result called.ensures.ledger)
    (lost_none old.books.ledger.start old.locks.table old.locks.table old.sessions called.result (also_failed _ called.result refl)) (locks_same refl)
    (λ none room. called.ensures.act s refl refl refl none room))
    (record { told = called.ensures.told; cause = called.ensures.cause; kept = called.ensures.kept }) never
