use Rattle.std.proofs.Common.{refl}
use Rattle.enq_server.proofs.lemmas.Replicas.{keeps_none}
use Rattle.hall_calls.proofs.ending.OverFields.{state_in}
use Rattle.hall_calls.proofs.ending.PresentCalls.{serves_apart}
use Rattle.hall_calls.proofs.present.Present.log_on.Goals as goal

pub invariant_of-self : goal.invariant_of-self
invariant_of-self g c = c.self.invariant

pub returns : goal.returns
returns g c =
    let s = state_in g.K.Keeper.held g.L.Link.applied c.self.inside c.args.past.now.items in
    serves_apart c.self.view_is c.requires refl refl refl refl refl
    (keeps_none g.L.Link.applied g.L.Link.faults g.L.Link.refusals c.self.inside.locks.replica) c.of.ensures (c.log_on.ensures.act s refl refl)
