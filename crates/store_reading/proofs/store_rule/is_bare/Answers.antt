use Rattle.std.proofs.Common.{arith}
use Rattle.store_reading.proofs.InTables.{bare_end, bare_more, bare_not}
use Rattle.store_reading.proofs.store_rule.is_bare.Goals as goal

pub loop-table-preserved : goal.loop-table-preserved
loop-table-preserved c = bare_more c.args.records.now c.loop-table.table c.table.result.now _ c.loop-table-test.true c.table.ensures c.is_empty.ensures
    c.if-not-is_empty.false c.loop-table.invariant

pub returns-then-not-is_empty : goal.returns-then-not-is_empty
returns-then-not-is_empty c = bare_not c.args.records.now c.loop-table.table c.table.result.now _ c.loop-table-test.true c.table.ensures c.is_empty.ensures
    c.if-not-is_empty.true c.loop-table.invariant

pub returns : goal.returns
returns c = bare_end c.args.records.now c.loop-table.table (omega arith) c.loop-table.invariant
