use Rattle.std.proofs.Common.{drop}
use Rattle.run_report.proofs.Shows.{GoesShowing}
use Rattle.run_report.proofs.report.write_shows.Given as goal

abbrev pub invariant-loop-numbered : goal.invariant-loop-numbered
invariant-loop-numbered g l =
    GoesShowing (g.W.Sink.written l.initial.sink) (g.W.Sink.written l.sink) (g.W.Sink.faults l.initial.sink) (g.W.Sink.faults l.sink)
    l.lines (drop l.numbered-index l.lines) l.hall.state
