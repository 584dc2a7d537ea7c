use Rattle.std.proofs.Common.{◌≡◌, true}
use Rattle.sqlite_tests.proofs.files.has_parts.Given as goal

abbrev pub invariant-loop-part : goal.invariant-loop-part
invariant-loop-part l = l.keeper.is_open ≡ true
