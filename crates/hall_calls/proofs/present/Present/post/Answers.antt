use Rattle.std.proofs.Common.{◌≡◌, ◌∙◌, ◌+◌, [], true, length, refl, sym, ap, subst}
use Rattle.std.specs.Prelude.{None}
use Rattle.enq_base.specs.declared.condition.Condition.TheVariants.{Up}
use Rattle.hall_calls.proofs.ending.AfterStop.{also_failed}
use Rattle.hall_calls.proofs.ending.OverFields.{state_in}
use Rattle.hall_calls.proofs.ending.PresentCalls.{finds, finds_up, locks_posted, present_written, serves_written}
use Rattle.hall_calls.proofs.ending.StateBehind.{caller_of, locks_of, ranges_without, same_ranges}
use Rattle.hall_calls.proofs.lemmas.WithHistory.{lost_none, posted_in, posts_file}
use Rattle.hall_calls.specs.Serving.{DoesStore}
use Rattle.hall_calls.specs.Written.{IsWritten, written_reply}
use Rattle.hall_model.specs.Calls.{call_of, post_of, renews_replica, restarts, ships, wants_server}
use Rattle.hall_model.specs.Devices.{reaches_store}
use Rattle.hall_calls.proofs.present.Present.post.Goals as goal
use Rattle.ledger_steps.specs.Parts.{is_first}
use Rattle.model_laws.proofs.PartOrders.{post_is}

pub post-written-requires : goal.post-written-requires
post-written-requires g c =
    let by = post_is c.args.part c.args.worker in
    let found = finds g.L.Link.applied c.self.inside c.self.invariant c.self.view_is c.requires (ap restarts by) in
    record {
      usable = found.usable;
      limited = found.kept.steady.limited;
      places = found.kept.steady.places;
      filed = found.filed;
    }

pub ended-requires : goal.ended-requires
ended-requires g c = c.post-written.ensures.standing ∙ c.self.invariant.stands

pub invariant_of-self : goal.invariant_of-self
invariant_of-self g c =
    let called = c.post-written in
    let by = post_is c.args.part c.args.worker in
    present_written (record c.self.inside { orders = called.new.orders; locks = called.new.locks; books = called.new.books })
    (finds g.L.Link.applied c.self.inside c.self.invariant c.self.view_is c.requires (ap restarts by))
    (c.ended.ensures (length c.args.past.now.items) c.self.inside.books.ledger.start None c.begun-call.ensures)
    called.ensures.usable called.ensures.left called.ensures.file.lists called.ensures.file.images

pub returns : goal.returns
returns g c =
    let old = c.self.inside in
    let past = c.args.past.now.items in
    let called = c.post-written in
    let call = call_of (post_of c.args.part c.args.worker) in
    let by = post_is c.args.part c.args.worker in
    let now = record old { orders = called.new.orders; locks = called.new.locks; books = called.new.books } in
    let s = state_in g.K.Keeper.held g.L.Link.applied old past in
    let start = state_in g.K.Keeper.held g.L.Link.applied old [] in
    let on : is_first c.args.part ≡ true → old.condition ≡ Up =
    λ first. finds_up g.K.Keeper.held g.L.Link.applied old c.self.view_is c.requires (ap wants_server by ∙ first) in
    serves_written old now c.self.view_is c.requires (ap renews_replica by)
    (c.ended.ensures (length past) old.books.ledger.start (caller_of call)
    (subst (λ x. c.begun-call.result ≡ record { number = length past + 1; start = old.books.ledger.start; caller = caller_of x }) (sym by)
    c.begun-call.ensures))
    (record {
      told = called.ensures.told;
      ledger = called.ensures.ledger;
      sessions = also_failed _ called.result refl;
      orders = called.ensures.orders;
      ranges = same_ranges call called.result old.ranges (ap (λ x. ranges_without x old.ranges) by);
      lost = lost_none old.books.ledger.start old.locks.table called.new.locks.table old.sessions called.result called.ensures.table;
      locks = locks_posted c.args.part old now (ap ships by) on called.ensures.replica called.ensures.limit called.ensures.lost called.ensures.unshipped;
      written = λ none room.
          subst (λ ls. IsWritten s (post_of c.args.part c.args.worker)
          (record s { orders = called.new.orders.items; locks = ls; stored = called.new.books.ledger }) called.result)
          (posted_in g.L.Link.applied old.condition old.max_locks c.args.part old.locks called.new.locks on called.ensures.second called.ensures.unshipped)
          (called.ensures.act s refl (λ first. ap (λ k. (locks_of g.L.Link.applied k old.max_locks old.locks).entries) (on first)) refl refl room);
    })
    (subst (λ x. DoesStore g.K.Keeper.held g.K.Keeper.may_leave g.K.Keeper.faults (restarts x) (reaches_store start x) old.books.keeper
    called.new.books.keeper (written_reply called.result)) (sym by)
    (record { told = called.ensures.told; cause = called.ensures.cause; kept = called.ensures.kept }))
    (posts_file g.D.Disk.faults old.locks.file called.new.locks.file c.args.part c.args.worker (written_reply called.result)
    called.ensures.file.does called.ensures.unfiled)
    called.ensures.replica
