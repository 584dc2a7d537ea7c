use Rattle.keeper_mem.specs.Memory.{IsSettled, held_rows}
use Rattle.posting.specs.BooksView.{IsUsable}
use Rattle.books_tests.proofs.books.many.with_units.Given as goal

abbrev pub invariant-loop-number : goal.invariant-loop-number
invariant-loop-number l = IsUsable held_rows IsSettled l.books
