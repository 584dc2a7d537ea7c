use Rattle.store_reading.proofs.KeptTables.{read_rows}
use Rattle.store_reading.proofs.Sound.{read_bad, read_sound, read_stands}
use Rattle.store_reading.proofs.ledger.read_ledger.Goals as goal

pub returns-clause-ledger : goal.returns-clause-ledger
returns-clause-ledger g c = read_stands (g.K.Keeper.held c.args.keeper.now) c.in_ok-records.records c.collect.result c.in_ok-records.ensures.read
    c.in_ok-records.ensures.records c.collect.ensures.right

pub returns-clause-sound : goal.returns-clause-sound
returns-clause-sound g c = read_sound c.in_ok-records.records c.collect.result c.in_ok-records.ensures.read c.collect.ensures.right

pub returns-clause-bad : goal.returns-clause-bad
returns-clause-bad g c = read_bad (g.K.Keeper.held c.args.keeper.now) c.in_ok-records.records c.collect.result c.in_ok-records.ensures.records
    c.collect.ensures.bad

pub returns-clause-rows : goal.returns-clause-rows
returns-clause-rows g c = read_rows c.in_ok-records.records c.collect.result c.in_ok-records.ensures.read c.collect.ensures.right c.collect.ensures.rows
