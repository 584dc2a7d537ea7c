use Rattle.std.proofs.Common.{arith, sym, ◌∙◌, subst}
use Rattle.std.specs.Prelude.{IfOk}
use Rattle.caller_laws.specs.Callers.{AreDistinct}
use Rattle.ledger_steps.specs.Levels.{intervals_of}
use Rattle.script_actors.specs.Actors.{land_of}
use Rattle.thread_runner.specs.Acting.{AreSmall, HasActed, HasWorker}
use Rattle.thread_runner.proofs.Crews.{callers_are, callers_small, some_worker}
use Rattle.thread_runner.proofs.running.act_all.Goals as goal

pub act_as-requires-clause-distinct : goal.act_as-requires-clause-distinct
act_as-requires-clause-distinct g c κs within =
    let lines = c.args.script.now.lines.items in
    let named = c.as_slice.ensures.value ∙ c.requires.names in
    let is = callers_are _ _ lines c.args.workers (c.as_slice-in-Ok.ensures.value ∙ c.in-Ok.ensures.callers) named in
    subst AreDistinct (sym is) (c.callers_are_distinct.ensures.distinct lines c.args.workers)

pub act_as-requires-clause-worker : goal.act_as-requires-clause-worker
act_as-requires-clause-worker g c κs within =
    let lines = c.args.script.now.lines.items in
    let named = c.as_slice.ensures.value ∙ c.requires.names in
    let is = callers_are _ _ lines c.args.workers (c.as_slice-in-Ok.ensures.value ∙ c.in-Ok.ensures.callers) named in
    subst HasWorker (sym is) (some_worker lines c.args.workers c.requires.workers.0)

pub act_as-requires-clause-small : goal.act_as-requires-clause-small
act_as-requires-clause-small g c κs within =
    let lines = c.args.script.now.lines.items in
    let named = c.as_slice.ensures.value ∙ c.requires.names in
    let is = callers_are _ _ lines c.args.workers (c.as_slice-in-Ok.ensures.value ∙ c.in-Ok.ensures.callers) named in
    let few = c.requires.workers.1 in
    subst AreSmall (sym is) (callers_small lines c.args.workers (omega (arith, few)))

pub returns-in-Ok-clause-acted : goal.returns-in-Ok-clause-acted
returns-in-Ok-clause-acted g c =
    let lines = c.args.script.now.lines.items in
    let named = c.as_slice.ensures.value ∙ c.requires.names in
    let is = callers_are _ _ lines c.args.workers (c.as_slice-in-Ok.ensures.value ∙ c.in-Ok.ensures.callers) named in
    subst (λ ws. IfOk c.act_as.result (λ r. ∥ HasActed (land_of c.args.objects.now (intervals_of c.args.served.hall.state.ranges)) lines ws c.args.served.hall.state
    r.0.hall.state r.1.items r.2.items ∥₁)) is
    c.act_as.ensures.acted
