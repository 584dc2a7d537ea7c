use Rattle.std.proofs.Common.{◌≡◌, true}
use Rattle.sqlite_tests.proofs.files.has_pages.Given as goal

abbrev pub invariant-loop-page : goal.invariant-loop-page
invariant-loop-page l = l.keeper.is_open ≡ true
