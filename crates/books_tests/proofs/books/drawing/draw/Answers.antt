use Rattle.std.proofs.Common.{arith}
use Rattle.books_tests.proofs.books.Draws.{may_draw}
use Rattle.books_tests.proofs.books.drawing.draw.Goals as goal

pub prepare_numbers-requires-clause-store : goal.prepare_numbers-requires-clause-store
prepare_numbers-requires-clause-store c = may_draw c.args.books.now.ledger c.numbers.result c.in_ok-interval.interval c.in_ok-numbers.numbers c.numbers.ensures
    (omega (arith, c.if-numbers-ne0.false)) c.in_ok-interval.ensures c.in_ok-numbers.ensures
