use Rattle.std.proofs.Common.{arith}
use Rattle.books_tests.proofs.books.Draws.{may_store}
use Rattle.books_tests.proofs.books.drawing.store.Goals as goal

pub prepare_level-requires-clause-store : goal.prepare_level-requires-clause-store
prepare_level-requires-clause-store c = may_store c.args.books.now.ledger c.numbers.result c.in_ok-interval.interval c.numbers.ensures (omega (arith, c.if-numbers-ne0.false)) c.in_ok-interval.ensures
