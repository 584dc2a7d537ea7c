use Rattle.std.proofs.Common.{refl, arith}
use Rattle.store_reading.proofs.Spelled.{first_bad, spell_all, spell_more}
use Rattle.store_reading.proofs.reading.decode_rows.Goals as goal

pub loop-row-preserved : goal.loop-row-preserved
loop-row-preserved c = record {
  count = omega (arith, c.in_ok-push-in-Ok.ensures.len);
  spelled = spell_more c.args.table c.args.rows.now c.loop-row.row-index c.row-item.result c.loop-row.records.items c.push.new.self.items c.in-Ok.read
      c.loop-row-test.true c.row-item.is c.in-Ok.ensures.read c.in_ok-push-in-Ok.ensures.items c.loop-row.invariant.spelled;
}

pub returns-in-Err-Bad-clause-bad : goal.returns-in-Err-Bad-clause-bad
returns-in-Err-Bad-clause-bad c = (
  refl,
  first_bad c.args.table c.args.rows.now c.loop-row.row-index _ c.row-item.result c.loop-row.records.items c.loop-row-test.true c.row-item.is (omega arith)
      (c.in-Err-Bad.ensures.bad (cc)) c.loop-row.invariant.spelled,
)

pub returns-clause-records : goal.returns-clause-records
returns-clause-records c = spell_all c.args.table c.args.rows.now c.loop-row.row-index c.loop-row.records.items (omega arith) c.loop-row.invariant.spelled
