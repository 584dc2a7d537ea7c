use Rattle.turn_desks.proofs.Desks.{left_alone}
use Rattle.turn_desks.proofs.handing.settle.Goals as goal

pub returns-then-not-settled-clause-left : goal.returns-then-not-settled-clause-left
returns-then-not-settled-clause-left c = left_alone c.args.settled c.args.seats.now c.if-not-settled.true
