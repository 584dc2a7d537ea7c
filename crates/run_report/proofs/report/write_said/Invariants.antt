use Rattle.std.proofs.Common.{drop}
use Rattle.enq_base.specs.declared.failed.Failed.{Failed}
use Rattle.run_report.specs.Report.{said_text}
use Rattle.run_report.proofs.Puts.{GoesOn}
use Rattle.run_report.proofs.report.write_said.Given as goal

abbrev pub invariant-loop-one : goal.invariant-loop-one
invariant-loop-one g l =
    GoesOn Failed (g.W.Sink.written l.initial.sink) (g.W.Sink.written l.sink) (g.W.Sink.faults l.initial.sink) (g.W.Sink.faults l.sink)
    (said_text l.said) (said_text (drop l.one-index l.said))
