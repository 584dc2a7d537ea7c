use Rattle.std.proofs.Common.{◌-◌}
use Rattle.whole_script.proofs.Loop.{GoesOn}
use Rattle.whole_script.proofs.script.read_script.Given as goal

abbrev pub invariant-lines : goal.invariant-lines
invariant-lines g l =
    GoesOn (g.S.Source.left l.initial.source) (g.S.Source.left l.source) (g.S.Source.faults l.initial.source) (g.S.Source.faults l.source) l.reader l.script

abbrev pub decreases-lines : goal.decreases-lines
decreases-lines g l = 200000 - l.reader.number
