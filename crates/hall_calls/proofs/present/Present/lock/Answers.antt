use Rattle.std.proofs.Common.{refl, sym, ap, ◌∙◌}
use Rattle.hall_model.specs.Calls.{call_of}
use Rattle.hall_model.specs.State.{is_up}
use Rattle.hall_calls.proofs.ending.OverFields.{state_in, up}
use Rattle.hall_calls.proofs.ending.PresentCalls.{asks_server, finds, finds_up, present_locked, serves_locked, young}
use Rattle.hall_calls.proofs.replica.EachCall.{never_remakes}
use Rattle.hall_calls.proofs.present.Present.lock.Goals as goal

pub lock-requires : goal.lock-requires
lock-requires g c =
    let asks = asks_server (call_of c.args.command.now) c.requires.of_locks in
    let off = never_remakes (call_of c.args.command.now) asks.renews in
    record {
      of_locks = c.requires.of_locks;
      stands = c.self.invariant.stands
          ∙ ap is_up (finds_up g.K.Keeper.held g.L.Link.applied c.self.inside c.self.view_is c.requires.due asks.wants);
      young = young (finds g.L.Link.applied c.self.inside c.self.invariant c.self.view_is c.requires.due off).kept;
    }

pub invariant_of-self : goal.invariant_of-self
invariant_of-self g c = present_locked c.lock.new.locks c.self.invariant c.lock.ensures.file c.lock.ensures.standing

pub returns : goal.returns
returns g c =
    let old = c.self.inside in
    let s = state_in g.K.Keeper.held g.L.Link.applied (up old) c.args.past.now.items in
    serves_locked old (record old { sessions = c.lock.new.sessions; locks = c.lock.new.locks }) c.self.view_is c.requires.due c.requires.of_locks
    c.lock.ensures.file c.lock.ensures.replica c.lock.ensures.limit c.lock.ensures.lost c.of.ensures
    (c.lock.ensures.act s (sym c.start-start.ensures) refl refl refl)
