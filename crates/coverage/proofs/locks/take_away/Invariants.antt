use Rattle.std.proofs.Common.{◌≡◌, ◌+◌, take}
use Rattle.coverage.specs.declared.lack.Wish.{Wish}
use Rattle.coverage.specs.Lacks.{without}
use Rattle.coverage.specs.Tallies.{covering}
use Rattle.coverage.proofs.locks.take_away.Given as goal

abbrev pub invariant-loop-asked : goal.invariant-loop-asked
invariant-loop-asked l =
    (l.held.items ≡ without l.initial.held.items (take l.asked-index l.named))
    × ((w : Wish) → covering w l.initial.held.items ≡ covering w l.held.items + covering w l.freed.items)
