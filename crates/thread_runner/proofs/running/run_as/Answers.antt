use Rattle.std.proofs.Common.{rules, inl, inr, refl, sym, ap, ◌∙◌, subst}
use Rattle.hall_model.specs.State.{State, doubt_in}
use Rattle.ledger_steps.specs.Levels.{intervals_of}
use Rattle.order_laws.specs.Behind.{IsFresh}
use Rattle.script_actors.specs.Actors.{land_of}
use Rattle.script_runner.specs.Replay.{doubt_of}
use Rattle.thread_runner.specs.Acting.{DoesScript}
use Rattle.thread_runner.specs.Threads.{output}
use Rattle.thread_runner.proofs.Runs.{does_here, done_whole, file_rose, no_blame, run_read, run_unread, store_rose}
use Rattle.thread_runner.proofs.running.run_as.Goals as goal

pub do_script-served-requires-clause-fresh : goal.do_script-served-requires-clause-fresh
do_script-served-requires-clause-fresh g c κs within =
    let fresh : IsFresh c.args.hall.state = record { kept = c.read_invariant.ensures; up = c.requires.up; free = c.requires.free } in
    subst IsFresh c.requires.first fresh

pub returns-in-Ok-clause-runs : goal.returns-in-Ok-clause-runs
returns-in-Ok-clause-runs g c =
    let objects = c.args.objects.now in
    let drawn = c.do_script-served.result.1.items in
    let lines = c.in-Ok.script.lines.items in
    let o = output (g.W.Sink.written c.args.sink.now) (g.W.Sink.faults c.args.sink.now) in
    let n = output (g.W.Sink.written c.do_script-served.new.sink) (g.W.Sink.faults c.do_script-served.new.sink) in
    let s : State = c.args.hall.state in
    let t : State = c.into_hall.result.state in
    let land = land_of objects (intervals_of s.ranges) in
    let why = c.do_script-served.result.2 in
    let does : ∥ DoesScript land lines c.args.workers s t drawn o n why ∥₁ =
    does_here objects lines c.args.workers s c.new-served.result.hall.state c.do_script-served.result.0.hall.state t drawn o n why
    (ap (λ h. h.state) c.new-served.ensures.hall) (ap (λ h. h.state) c.into_hall.ensures.hall) c.do_script-served.ensures.does in
    let read = c.in-Ok.ensures.reads in
    run_read objects lines c.args.workers s t drawn read.0 _ _ why read.1 read.2.0 read.2.2 does

pub returns-in-Ok-clause-blamed : goal.returns-in-Ok-clause-blamed
returns-in-Ok-clause-blamed g c bytes left =
    let objects = c.args.objects.now in
    let drawn = c.do_script-served.result.1.items in
    let lines = c.in-Ok.script.lines.items in
    let o = output (g.W.Sink.written c.args.sink.now) (g.W.Sink.faults c.args.sink.now) in
    let n = output (g.W.Sink.written c.do_script-served.new.sink) (g.W.Sink.faults c.do_script-served.new.sink) in
    let s : State = c.args.hall.state in
    let t : State = c.into_hall.result.state in
    let land = land_of objects (intervals_of s.ranges) in
    let why = c.do_script-served.result.2 in
    let does : ∥ DoesScript land lines c.args.workers s t drawn o n why ∥₁ =
    does_here objects lines c.args.workers s c.new-served.result.hall.state c.do_script-served.result.0.hall.state t drawn o n why
    (ap (λ h. h.state) c.new-served.ensures.hall) (ap (λ h. h.state) c.into_hall.ensures.hall) c.do_script-served.ensures.does in
    no_blame land lines c.args.workers s t drawn o n bytes why does

pub returns-in-Ok-clause-store_fault : goal.returns-in-Ok-clause-store_fault
returns-in-Ok-clause-store_fault g c k is =
    let objects = c.args.objects.now in
    let drawn = c.do_script-served.result.1.items in
    let lines = c.in-Ok.script.lines.items in
    let o = output (g.W.Sink.written c.args.sink.now) (g.W.Sink.faults c.args.sink.now) in
    let n = output (g.W.Sink.written c.do_script-served.new.sink) (g.W.Sink.faults c.do_script-served.new.sink) in
    let s : State = c.args.hall.state in
    let t : State = c.into_hall.result.state in
    let land = land_of objects (intervals_of s.ranges) in
    let why = c.do_script-served.result.2 in
    let does : ∥ DoesScript land lines c.args.workers s t drawn o n why ∥₁ =
    does_here objects lines c.args.workers s c.new-served.result.hall.state c.do_script-served.result.0.hall.state t drawn o n why
    (ap (λ h. h.state) c.new-served.ensures.hall) (ap (λ h. h.state) c.into_hall.ensures.hall) c.do_script-served.ensures.does in
    let well = ap (λ (x : State). doubt_of x) (sym c.requires.first) ∙ ap doubt_in c.requires.up in
    store_rose land lines c.args.workers s t drawn o n _ _ _ g.J.Origin.counts _ g.J.Origin.first well c.into_hall.ensures.led
    c.doubts_have_causes.ensures.store k
    (subst (λ w. ∥ DoesScript land lines c.args.workers s t drawn o n w ∥₁) is does)

pub returns-in-Ok-clause-file_fault : goal.returns-in-Ok-clause-file_fault
returns-in-Ok-clause-file_fault g c k is =
    let objects = c.args.objects.now in
    let drawn = c.do_script-served.result.1.items in
    let lines = c.in-Ok.script.lines.items in
    let o = output (g.W.Sink.written c.args.sink.now) (g.W.Sink.faults c.args.sink.now) in
    let n = output (g.W.Sink.written c.do_script-served.new.sink) (g.W.Sink.faults c.do_script-served.new.sink) in
    let s : State = c.args.hall.state in
    let t : State = c.into_hall.result.state in
    let land = land_of objects (intervals_of s.ranges) in
    let why = c.do_script-served.result.2 in
    let does : ∥ DoesScript land lines c.args.workers s t drawn o n why ∥₁ =
    does_here objects lines c.args.workers s c.new-served.result.hall.state c.do_script-served.result.0.hall.state t drawn o n why
    (ap (λ h. h.state) c.new-served.ensures.hall) (ap (λ h. h.state) c.into_hall.ensures.hall) c.do_script-served.ensures.does in
    let well = ap (λ (x : State). doubt_of x) (sym c.requires.first) ∙ ap doubt_in c.requires.up in
    file_rose land lines c.args.workers s t drawn o n _ _ _ g.J.Origin.counts _ g.J.Origin.first well c.into_hall.ensures.led
    c.doubts_have_causes.ensures.file k
    (subst (λ w. ∥ DoesScript land lines c.args.workers s t drawn o n w ∥₁) is does)

pub returns-in-Ok-clause-complete : goal.returns-in-Ok-clause-complete
returns-in-Ok-clause-complete g c bytes left script source sink kept filed held on tell =
    let objects = c.args.objects.now in
    let drawn = c.do_script-served.result.1.items in
    let lines = c.in-Ok.script.lines.items in
    let o = output (g.W.Sink.written c.args.sink.now) (g.W.Sink.faults c.args.sink.now) in
    let n = output (g.W.Sink.written c.do_script-served.new.sink) (g.W.Sink.faults c.do_script-served.new.sink) in
    let s : State = c.args.hall.state in
    let t : State = c.into_hall.result.state in
    let land = land_of objects (intervals_of s.ranges) in
    let why = c.do_script-served.result.2 in
    let does : ∥ DoesScript land lines c.args.workers s t drawn o n why ∥₁ =
    does_here objects lines c.args.workers s c.new-served.result.hall.state c.do_script-served.result.0.hall.state t drawn o n why
    (ap (λ h. h.state) c.new-served.ensures.hall) (ap (λ h. h.state) c.into_hall.ensures.hall) c.do_script-served.ensures.does in
    let well = ap (λ (x : State). doubt_of x) (sym c.requires.first) ∙ ap doubt_in c.requires.up in
    done_whole land lines c.args.workers s t drawn o n _ _ _ g.J.Origin.counts _ g.J.Origin.first well c.into_hall.ensures.led
    c.doubts_have_causes.ensures.store c.doubts_have_causes.ensures.file held on tell sink kept filed why does

pub returns-in-Err-clause-runs : goal.returns-in-Err-clause-runs
returns-in-Err-clause-runs g c =
    let read = c.in-Err.ensures.reads in
    run_unread c.args.objects.now c.args.workers c.args.hall.state c.into_hall-in-Err.result.state _ read.0 _ _ c.in-Err.why read.1 read.2
    (ap (λ h. h.state) (c.into_hall-in-Err.ensures.hall ∙ c.new-served.ensures.hall)) (search rules) refl refl

pub returns-in-Err-clause-complete : goal.returns-in-Err-clause-complete
returns-in-Err-clause-complete g c bytes left script source sink kept filed held on tell = inr (inl (c.in-Err.ensures.complete bytes left script source))
