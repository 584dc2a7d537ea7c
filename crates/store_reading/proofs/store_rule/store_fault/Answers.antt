use Rattle.store_reading.proofs.InTables.{told_in}
use Rattle.store_reading.proofs.store_rule.store_fault.Goals as goal

pub returns-clause-place : goal.returns-clause-place
returns-clause-place c = told_in c.args.records.now c.rule_fault.result c.rule_fault.ensures
