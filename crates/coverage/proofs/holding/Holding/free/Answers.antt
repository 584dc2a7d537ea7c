use Rattle.std.proofs.Common.{◌≡◌, ◌+◌, IfOk, subst}
use Rattle.coverage.specs.declared.lack.Wish.{Wish}
use Rattle.coverage.specs.Lacks.{Standing}
use Rattle.coverage.specs.Tallies.{covering}
use Rattle.coverage.proofs.holding.Holding.free.Goals as goal

pub returns-clause-freed : goal.returns-clause-freed
returns-clause-freed c =
    subst
    (λ (x : Standing). IfOk c.take_away.result (λ freed. (w : Wish) → covering w x.held ≡ covering w c.take_away.new.held.items + covering w freed.items))
    c.self.view_is c.take_away.ensures.freed
