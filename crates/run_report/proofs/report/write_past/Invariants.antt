use Rattle.std.proofs.Common.{drop}
use Rattle.enq_base.specs.declared.failed.Failed.{Failed}
use Rattle.run_report.specs.Report.{past_text}
use Rattle.run_report.proofs.Puts.{GoesOn}
use Rattle.run_report.proofs.report.write_past.Given as goal

abbrev pub invariant-loop-place : goal.invariant-loop-place
invariant-loop-place g l =
    GoesOn Failed (g.W.Sink.written l.initial.sink) (g.W.Sink.written l.sink) (g.W.Sink.faults l.initial.sink) (g.W.Sink.faults l.sink)
    (past_text 0 l.past) (past_text l.place (drop l.place l.past))
