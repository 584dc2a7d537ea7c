use Rattle.ledger_laws.proofs.OneLedger.{one_ledger}
use Rattle.ledger_laws.proofs.laws.rows_stand_for_one_ledger.Goals as goal

pub returns : goal.returns
returns c = record { one = one_ledger }
