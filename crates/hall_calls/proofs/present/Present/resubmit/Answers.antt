use Rattle.std.proofs.Common.{◌∙◌, length, refl, ap}
use Rattle.std.specs.Prelude.{None}
use Rattle.hall_calls.proofs.ending.OverFields.{state_in, up}
use Rattle.hall_calls.proofs.ending.PresentCalls.{finds, finds_up, leaves_else, locks_up, present_written, serves_up}
use Rattle.hall_calls.proofs.verdicts.RegainedLocks.{lost_regained}
use Rattle.hall_model.specs.State.{is_up}
use Rattle.hall_calls.proofs.present.Present.resubmit.Goals as goal

pub resubmit-written-requires : goal.resubmit-written-requires
resubmit-written-requires g c =
    let found = finds g.L.Link.applied c.self.inside c.self.invariant c.self.view_is c.requires refl in
    record {
      stands = c.self.invariant.stands
          ∙ ap is_up (finds_up g.K.Keeper.held g.L.Link.applied c.self.inside c.self.view_is c.requires refl);
      usable = found.usable;
      limited = found.kept.steady.limited;
      stored = found.kept.sound.stored;
      filed = found.filed;
    }

pub ended-requires : goal.ended-requires
ended-requires g c = c.resubmit-written.ensures.standing ∙ c.self.invariant.stands

pub invariant_of-self : goal.invariant_of-self
invariant_of-self g c =
    let called = c.resubmit-written in
    present_written (record c.self.inside { locks = called.new.locks; books = called.new.books })
    (finds g.L.Link.applied c.self.inside c.self.invariant c.self.view_is c.requires refl)
    (c.ended.ensures (length c.args.past.now.items) c.self.inside.books.ledger.start None c.begun-call.ensures)
    called.ensures.usable called.ensures.left called.ensures.file.lists called.ensures.file.images

pub returns : goal.returns
returns g c =
    let old = c.self.inside in
    let called = c.resubmit-written in
    let now = record old { locks = called.new.locks; books = called.new.books } in
    let found = finds g.L.Link.applied c.self.inside c.self.invariant c.self.view_is c.requires refl in
    let s = state_in g.K.Keeper.held g.L.Link.applied (up old) c.args.past.now.items in
    serves_up old now c.self.view_is c.requires refl refl
    (c.ended.ensures (length c.args.past.now.items) c.self.inside.books.ledger.start None c.begun-call.ensures)
    (leaves_else refl refl refl refl called.ensures.told called.ensures.ledger
    (lost_regained old.books.ledger old.sessions c.args.unit old.locks.table called.new.locks.table found.kept.steady.fresh.ahead found.kept.sound.stored
    called.result called.ensures.table)
    (locks_up old now refl called.ensures.replica called.ensures.limit called.ensures.lost)
    (λ none room. called.ensures.act s refl refl refl refl room))
    (record { told = called.ensures.told; cause = called.ensures.cause; kept = called.ensures.kept }) called.ensures.file.does called.ensures.replica
