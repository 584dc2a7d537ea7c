use Rattle.std.proofs.Common.{rules, List, inl, inr, refl, subst}
use Rattle.std.proofs.Math.Logic.{∥∥₁_map}
use Rattle.actor_threads.specs.declared.actor.Deed.{Deed}
use Rattle.hall_model.specs.State.{State}
use Rattle.ledger_steps.specs.Levels.{intervals_of}
use Rattle.script_actors.specs.Actors.{land_of}
use Rattle.thread_runner.specs.Writing.{IsWritten}
use Rattle.thread_runner.proofs.Written.{have_done}
use Rattle.thread_runner.proofs.running.do_script.Goals as goal

pub returns-in-Ok-clause-does : goal.returns-in-Ok-clause-does
returns-in-Ok-clause-does g c =
    let first : State = c.args.served.hall.state in
    let land = land_of c.args.objects.now (intervals_of first.ranges) in
    let drawn = c.in-Ok.drawn.items in
    let lines = c.args.script.now.lines.items in
    let t : State = c.in-Ok.served.hall.state in
    let ds : List Deed = c.in-Ok.deeds.items in
    let written = g.W.Sink.written in
    let faults = g.W.Sink.faults in
    let old = c.args.sink.now in
    let new = c.write_run-why.new.sink in
    let why = c.write_run-why.result in
    let report : IsWritten lines t ds (written old) (written new) (faults old) (faults new) why =
    subst (λ ls. IsWritten ls t ds (written old) (written new) (faults old) (faults new) why) c.as_slice.ensures.value c.write_run-why.ensures.written in
    ∥∥₁_map c.in-Ok.ensures.acted (λ a. inr
    (have_done c.numbers_come_from_stocks.ensures.drew land lines c.args.workers first t ds drawn (written old) (written new) (faults old) (faults new) why
    c.read_invariant.ensures.within report a))

pub returns-in-Err-clause-does : goal.returns-in-Err-clause-does
returns-in-Err-clause-does g c = ∥∥₁_map c.in-Err.ensures.none (λ e. inl (record { end = refl; same = e; none = search rules; still = refl }))
