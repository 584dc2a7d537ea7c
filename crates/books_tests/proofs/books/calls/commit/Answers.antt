use Rattle.posting.proofs.lemmas.LevelRows.{nothing_stored}
use Rattle.books_tests.proofs.books.calls.commit.Goals as goal

pub prepare_unit-requires-clause-store : goal.prepare_unit-requires-clause-store
prepare_unit-requires-clause-store c = nothing_stored c.args.books.now.ledger c.in_ok-unit.unit.numbers c.in_ok-unit.ensures.numbers
