use Rattle.ledger_laws.proofs.Behind.{in_turn}
use Rattle.ledger_laws.proofs.Books.{books_right, holds_books}
use Rattle.ledger_laws.proofs.Counts.{each_once}
use Rattle.ledger_laws.proofs.laws.lawful_books_are_right.Goals as goal

pub returns-clause-once : goal.returns-clause-once
returns-clause-once c = each_once

pub returns-clause-turn : goal.returns-clause-turn
returns-clause-turn c = in_turn

pub returns-clause-books : goal.returns-clause-books
returns-clause-books c = books_right

pub returns-clause-tables : goal.returns-clause-tables
returns-clause-tables c = holds_books
