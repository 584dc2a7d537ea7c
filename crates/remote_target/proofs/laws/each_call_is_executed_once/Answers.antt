use Rattle.remote_target.proofs.Worlds.{executed_once}
use Rattle.remote_target.proofs.laws.each_call_is_executed_once.Goals as goal

pub returns : goal.returns
returns c = record { once = executed_once }
