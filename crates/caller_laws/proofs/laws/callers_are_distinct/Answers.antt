use Rattle.caller_laws.proofs.Distinct.{threads_distinct}
use Rattle.caller_laws.proofs.laws.callers_are_distinct.Goals as goal

pub returns : goal.returns
returns c = record { distinct = threads_distinct }
