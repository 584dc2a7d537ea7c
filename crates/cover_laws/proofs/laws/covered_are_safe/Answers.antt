use Rattle.cover_laws.proofs.theorem.Needed.{needed}
use Rattle.cover_laws.proofs.theorem.Safety.{covered_are_safe}
use Rattle.cover_laws.proofs.laws.covered_are_safe.Goals as goal

pub returns : goal.returns
returns c = record { safe = covered_are_safe needed }
