use Rattle.model_laws.proofs.BarredCalls.{refused_verdict}
use Rattle.model_laws.proofs.laws.barred_calls_are_refused.Goals as goal

pub returns : goal.returns
returns c = record { refused = refused_verdict }
