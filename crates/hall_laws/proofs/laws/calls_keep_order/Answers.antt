use Rattle.hall_laws.proofs.keeping.InFlight.{kept_call}
use Rattle.hall_laws.proofs.laws.calls_keep_order.Goals as goal

pub returns : goal.returns
returns c = record { kept = kept_call }
