use Rattle.ledger_laws.proofs.Refusals.{views_tell}
use Rattle.ledger_laws.proofs.laws.views_tell_refusals.Goals as goal

pub returns : goal.returns
returns c = record { refused = views_tell }
