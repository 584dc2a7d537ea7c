use Rattle.std.proofs.Common.{ap, ◌∙◌}
use Rattle.std.specs.FinMap.{from_entries}
use Rattle.store_reading.specs.Stores.{levels_in, start_in}
use Rattle.store_reading.proofs.ReadLedger.{ledger_read}
use Rattle.store_reading.proofs.Sound.{headers_found}
use Rattle.store_reading.proofs.ledger.ledger_in.Goals as goal

pub units_in-requires : goal.units_in-requires
units_in-requires c = record { headers = headers_found c.args.records.now c.requires.read c.requires.right }

pub returns-clause-ledger : goal.returns-clause-ledger
returns-clause-ledger c =
    ledger_read c.args.records.now _ _ _ _ (c.start_in.ensures ∙ ap start_in c.table.ensures) c.in_ok-units_in.ensures c.in_ok-marks_in.ensures
    (ap from_entries c.in_ok-intervals_in.ensures ∙ ap levels_in c.table-2.ensures)
