use Rattle.std.proofs.Common.{ap, sym, subst, arith}
use Rattle.number_stock.specs.declared.hand.Hand.{Hand}
use Rattle.number_stock.specs.Rule.{IsUnanswered}
use Rattle.number_stock.specs.Seats.{ticket_of}
use Rattle.turn_tests.proofs.Seats.{never_dry}
use Rattle.turn_tests.proofs.parting.answered_once_told.Goals as goal

pub again-requires-clause-unanswered : goal.again-requires-clause-unanswered
again-requires-clause-unanswered c =
    subst (λ (v : Hand). IsUnanswered (ticket_of c.args.dry) v) (sym c.tell.ensures.told.1) c.requires.unanswered

pub returns : goal.returns
returns c =
    let limit = ap (λ (v : Hand). v.limit) c.tell.ensures.told.1 in
    never_dry _ _ _ _ _ c.again.ensures.answered (omega (arith, limit, c.requires.below))
