use Rattle.caller_laws.proofs.Whose.{lines_are_own}
use Rattle.caller_laws.proofs.laws.calls_are_own.Goals as goal

pub returns : goal.returns
returns c = record { own = lines_are_own }
