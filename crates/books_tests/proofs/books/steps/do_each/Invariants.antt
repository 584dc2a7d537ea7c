use Rattle.keeper_mem.specs.Memory.{IsSettled, held_rows}
use Rattle.posting.specs.BooksView.{IsUsable}
use Rattle.books_tests.proofs.books.steps.do_each.Given as goal

abbrev pub invariant-loop-place : goal.invariant-loop-place
invariant-loop-place l = IsUsable held_rows IsSettled l.books
