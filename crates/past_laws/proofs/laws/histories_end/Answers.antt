use Rattle.past_laws.proofs.Lengths.{full_step, most_calls}
use Rattle.past_laws.proofs.laws.histories_end.Goals as goal

pub returns : goal.returns
returns c = record { full = full_step; most = most_calls }
