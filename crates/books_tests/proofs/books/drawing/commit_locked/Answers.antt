use Rattle.std.proofs.Common.{arith}
use Rattle.books_tests.proofs.books.Draws.{may_draw}
use Rattle.books_tests.proofs.books.drawing.commit_locked.Goals as goal

pub prepare_unit-requires-clause-store : goal.prepare_unit-requires-clause-store
prepare_unit-requires-clause-store c = may_draw c.args.books.now.ledger c.numbers.result c.in_ok-interval.interval c.in_ok-unit.unit.numbers c.numbers.ensures
    (omega (arith, c.if-numbers-ne0.false)) c.in_ok-interval.ensures c.in_ok-unit.ensures.numbers
