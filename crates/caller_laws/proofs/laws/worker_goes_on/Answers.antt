use Rattle.caller_laws.proofs.Alone.{among_still, goes_on, others_stay}
use Rattle.caller_laws.proofs.laws.worker_goes_on.Goals as goal

pub returns : goal.returns
returns c = record { goes = goes_on; others = others_stay; among = among_still }
