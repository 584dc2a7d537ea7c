use Rattle.std.proofs.Common.{refl, ap}
use Rattle.enq_server.proofs.lemmas.Replicas.{keeps_none}
use Rattle.hall_calls.proofs.ending.OverFields.{seen, state_in}
use Rattle.hall_calls.proofs.ending.PresentCalls.{serves_apart}
use Rattle.hall_calls.proofs.ending.StateBehind.{taken_call}
use Rattle.hall_model.specs.Calls.{renews_replica, touches_file}
use Rattle.hall_model.specs.Devices.{reaches_store}
use Rattle.hall_calls.proofs.present.Present.take.Goals as goal
use Rattle.model_laws.proofs.PartOrders.{take_is}

pub invariant_of-self : goal.invariant_of-self
invariant_of-self g c = c.self.invariant

pub returns : goal.returns
returns g c =
    let old = c.self.inside in
    let past = c.args.past.now.items in
    let s = state_in g.K.Keeper.held g.L.Link.applied old past in
    let after = state_in g.K.Keeper.held g.L.Link.applied (record old { orders = c.take.new.orders }) past in
    let by = take_is c.args.part c.args.worker in
    serves_apart c.self.view_is c.requires (ap (reaches_store (seen g.K.Keeper.held g.L.Link.applied old).state) by) (ap touches_file by)
    (ap renews_replica by) refl refl (keeps_none g.L.Link.applied g.L.Link.faults g.L.Link.refusals old.locks.replica) refl
    (λ room. taken_call c.args.part s c.args.worker after c.take.result room (c.take.ensures.verdict s refl refl))
