use Rattle.std.proofs.Common.{◌-◌}
use Rattle.cover_cmd.proofs.Loop.{GoesOn}
use Rattle.cover_cmd.proofs.lines.lacks_in.Given as goal

abbrev pub invariant-lines : goal.invariant-lines
invariant-lines g l =
    GoesOn l.objects (g.S.Source.left l.initial.script) (g.S.Source.left l.script) (g.S.Source.faults l.initial.script)
    (g.S.Source.faults l.script) l.reader l.cover

abbrev pub decreases-lines : goal.decreases-lines
decreases-lines g l = 200000 - l.reader.number
