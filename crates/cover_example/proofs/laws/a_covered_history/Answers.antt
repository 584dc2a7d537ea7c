use Rattle.cover_example.proofs.History.{a_covered_history}
use Rattle.cover_example.proofs.laws.a_covered_history.Goals as goal

pub returns : goal.returns
returns c = record { met = a_covered_history }
