use Rattle.caller_laws.proofs.Gathered.{all_among, each_did}
use Rattle.caller_laws.proofs.Whose.{lines_are_own}
use Rattle.caller_laws.proofs.laws.history_is_of_callers.Goals as goal

pub returns : goal.returns
returns g c = record { each = each_did lines_are_own; among = all_among lines_are_own }
