use Rattle.std.proofs.Common.{[], false, is_some}
use Rattle.enq_server.specs.Replica.{told_list}
use Rattle.enq_base.specs.declared.condition.Condition.TheVariants.{Up}
use Rattle.hall_calls.proofs.ending.PresentCalls.{present_first}
use Rattle.hall_calls.specs.Remaking.{flight_over}
use Rattle.hall_model.specs.State.{state_of}
use Rattle.hall_calls.proofs.present.Present.first.Goals as goal

pub invariant_of-result : goal.invariant_of-result
invariant_of-result g c =
    present_first c.args.books c.args.locks c.none.ensures g.met.K.Keeper.settled c.requires.usable c.requires.filed c.requires.stands

pub returns-clause-state : goal.returns-clause-state
returns-clause-state g c =
    λ i. state_of (is_some (g.K.Keeper.held c.args.books.keeper)) (is_some (g.L.Link.applied c.args.locks.replica.link)) (c.requires.detached i) false
    Up (c.new.ensures i) 1 (c.requires.orders i) (c.requires.locks i) (told_list g.L.Link.applied c.args.locks.replica) c.args.limits.max_locks
    c.args.limits.max_marks
    (c.requires.levels i) c.args.books.ledger (flight_over c.args.books.ledger (c.none.ensures i)) (c.none.ensures i).found (c.none.ensures i).caller []

pub returns-clause-left : goal.returns-clause-left
returns-clause-left g c =
    (present_first c.args.books c.args.locks c.none.ensures g.met.K.Keeper.settled c.requires.usable c.requires.filed c.requires.stands).left

pub returns-clause-lists : goal.returns-clause-lists
returns-clause-lists g c =
    (present_first c.args.books c.args.locks c.none.ensures g.met.K.Keeper.settled c.requires.usable c.requires.filed c.requires.stands).lists
