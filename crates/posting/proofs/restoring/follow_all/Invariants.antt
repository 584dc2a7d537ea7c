use Rattle.std.proofs.Common.{take}
use Rattle.posting.specs.Restoring.{IsFollowed}
use Rattle.posting.proofs.restoring.follow_all.Given as goal

abbrev pub invariant-loop-mark : goal.invariant-loop-mark
invariant-loop-mark l = IsFollowed l.followed l.units (take l.mark-index l.marks)
