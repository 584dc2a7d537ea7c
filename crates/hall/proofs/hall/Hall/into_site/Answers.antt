use Rattle.std.proofs.Common.{subst}
use Rattle.hall_calls.specs.Filing.{LeavesLists}
use Rattle.hall_model.specs.Kept.{HasOpenUnits}
use Rattle.hall_calls.specs.Leaving.{LeavesState}
use Rattle.hall.proofs.hall.Hall.into_site.Goals as goal

pub returns-clause-left : goal.returns-clause-left
returns-clause-left g c = subst (LeavesState g.K.Keeper.held g.K.Keeper.may_leave) c.self.view_is c.read_invariant.ensures.left

pub returns-clause-lists : goal.returns-clause-lists
returns-clause-lists g c = subst (LeavesLists g.D.Disk.tells g.D.Disk.may_leave) c.self.view_is c.read_invariant.ensures.lists

pub returns-clause-open_units : goal.returns-clause-open_units
returns-clause-open_units g c = subst (λ v. HasOpenUnits v.state) c.self.view_is c.self.invariant.1.open_units
