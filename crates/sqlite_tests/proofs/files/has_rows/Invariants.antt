use Rattle.std.proofs.Common.{◌≡◌, true}
use Rattle.sqlite_tests.proofs.files.has_rows.Given as goal

abbrev pub invariant-loop-row : goal.invariant-loop-row
invariant-loop-row l = l.keeper.is_open ≡ true
