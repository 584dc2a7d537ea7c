use Rattle.store_reading.proofs.Lawfully.{ledger_lawful}
use Rattle.store_reading.proofs.laws.right_records_are_lawful.Goals as goal

pub returns : goal.returns
returns c = ledger_lawful
