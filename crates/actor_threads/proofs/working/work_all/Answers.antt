use denote.Param.Send.{param_send, arg_send}
use Rattle.std.proofs.Common.{subst}
use Rattle.ledger_steps.specs.Levels.{intervals_of}
use Rattle.script_actors.specs.Actors.{land_of}
use Rattle.actor_threads.specs.Working.{HasWorked}
use Rattle.actor_threads.specs.declared.actor.Actor.{Actor}
use Rattle.actor_threads.proofs.Sends.{actor_send}
use Rattle.actor_threads.proofs.working.work_all.Goals as goal

pub for_each_mut-requires-send-T : goal.for_each_mut-requires-send-T
for_each_mut-requires-send-T g c κs within = search (actor_send, param_send, arg_send) depth 8

pub returns : goal.returns
returns g c = record {
  did = λ i d lt.
      let J : Type 0 = Actor g.row.N.Denot g.row.S.Denot g.row.R.Denot g.row.G.Denot g.N.LockName g.S.Serving g.S.History in
      let change = (c.for_each_mut.ensures i d lt).1 in
      let was = change.argument_is in
      let now = change.left in
      subst (λ (p : J × J). HasWorked g.S.History.past (land_of c.args.objects.now (intervals_of c.args.ranges.now)) c.args.lines.now p.0 p.1) (λ k. (was k, now k)) change.call;
}
