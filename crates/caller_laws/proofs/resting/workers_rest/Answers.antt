use Rattle.caller_laws.proofs.Ending.{rests_at_end}
use Rattle.caller_laws.proofs.LastLook.{none_waits_rested}
use Rattle.caller_laws.proofs.resting.workers_rest.Goals as goal

pub returns : goal.returns
returns c = record { rest = rests_at_end; none = none_waits_rested }
