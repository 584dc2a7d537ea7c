use Rattle.std.proofs.Common.{subst}
use Rattle.hall_calls.specs.Filing.{LeavesLists}
use Rattle.hall_calls.specs.Leaving.{LeavesState}
use Rattle.hall_calls.specs.View.{View}
use Rattle.hall_calls.proofs.present.Present.read_invariant.Goals as goal

pub returns-clause-left : goal.returns-clause-left
returns-clause-left g c =
    subst (λ (v : View g.row.K.Denot g.row.D.Denot g.row.L.Denot). LeavesState g.K.Keeper.held g.K.Keeper.may_leave v) c.self.view_is c.self.invariant.left

pub returns-clause-lists : goal.returns-clause-lists
returns-clause-lists g c =
    subst (λ (v : View g.row.K.Denot g.row.D.Denot g.row.L.Denot). LeavesLists g.D.Disk.tells g.D.Disk.may_leave v) c.self.view_is c.self.invariant.lists
